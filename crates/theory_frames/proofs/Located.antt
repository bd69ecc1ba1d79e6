-- The tile that the descent ends at is a tile of the supertile, and holds the point.
use Rattle.std.proofs.Common.{◌≡◌, ℕ, zero, suc, ◌+◌, ◌<◌, Bool, true, false, cond, List, [], ◌∷◌, length, map, Option, None, Some, ◌⊎◌, inl, inr, pos, refl, sym, ap, ◌∙◌, subst, arith, mod-lt}
use Rattle.std.specs.List.{enumerate_from}
use Rattle.std.specs.Option.{option_map, option_and_then}
use Rattle.theory_ring.specs.Ring.{power}
use Rattle.theory_ring.proofs.Normaliser.{var, con, ring, ◌⊗◌}
use Rattle.theory_substitution.specs.Points.{Points, PointLaws}
use Rattle.theory_substitution.specs.Motion.{Motion, moved, followed, still}
use Rattle.theory_substitution.specs.RuleParts.{vertices_of}
use Rattle.theory_substitution.specs.Rule.{Child, Rule, children_of}
use Rattle.theory_addresses.specs.Search.{IsAmong}
use Rattle.theory_substitution.specs.Supertile.{Placed, inflated, lifted, supertile}
use Rattle.theory_addresses.proofs.Lists.{IsAmong-map, IsAmong-flat_map, AllByRecursion-among, map-ext}
use Rattle.theory_substitution.proofs.Placement.{IsPlaced, supertile-placed}
use Rattle.theory_frames.specs.Outline.{outline, holds_point, supertile_holds}
use Rattle.theory_frames.specs.Part.{Part, child_part, child_motion, holder, holder_of, HasHolders}
use Rattle.theory_frames.specs.Descent.{of_whole, tile_below}
use Rattle.theory_frames.proofs.Group.{followed-assoc, still-followed}

module _ (P : Points) (W : PointLaws P) (r : Rule P.ring.carrier) where
  -- the child found is one of the list, and holds the point
  pub record IsHolder (scale : P.ring.carrier) (m : Motion P.ring.carrier) (p : P.ring.carrier) (i : ℕ)
      (cs : List (Child P.ring.carrier)) (c : Part P.ring.carrier) : Type 0 where
    pub child : Child P.ring.carrier
    pub listed : IsAmong (c.child, child) (enumerate_from i cs)
    pub kind : c.kind ≡ child.kind
    pub motion : c.motion ≡ child_motion P r scale m child
    pub holds : holds_point P (outline P r c.kind scale c.motion) p ≡ true

  pub holder-is : (scale : P.ring.carrier) (m : Motion P.ring.carrier) (p : P.ring.carrier) (i : ℕ)
      (cs : List (Child P.ring.carrier)) (c : Part P.ring.carrier)
      → holder P r scale m p i cs ≡ Some c → IsHolder scale m p i cs c
  holder-is scale m p i [] c e = absurd (cc e)
  holder-is scale m p i (x ∷ xs) c e = by (holds_point P
      (outline P r x.kind scale (child_motion P r scale m x)) p) refl e (holder-is scale m p (i + 1) xs c)
    where
      here : Part P.ring.carrier
      here = record { child = i; kind = x.kind; motion = child_motion P r scale m x }

      by : (b : Bool) → holds_point P (outline P r x.kind scale (child_motion P r scale m x)) p ≡ b
          → cond b (Some here) (holder P r scale m p (i + 1) xs) ≡ Some c
          → (holder P r scale m p (i + 1) xs ≡ Some c → IsHolder scale m p (i + 1) xs c) → IsHolder scale m p i (x ∷ xs) c
      by true q f rest =
          let same : here ≡ c = cc (f) in
          subst (IsHolder scale m p i (x ∷ xs)) same (record { child = x; listed = inl refl; kind = refl; motion = refl; holds = q })
      by false q f rest = let h = rest f in record { child = h.child; listed = inr h.listed; kind = h.kind; motion = h.motion; holds = h.holds }

  -- where a child of the list holds the point, there is a first that does
  pub holder-some : (scale : P.ring.carrier) (m : Motion P.ring.carrier) (p : P.ring.carrier) (i : ℕ)
      (cs : List (Child P.ring.carrier)) (c : ℕ × Child P.ring.carrier) → IsAmong c (enumerate_from i cs)
      → holds_point P (outline P r c.1.kind scale (child_motion P r scale m c.1)) p ≡ true
      → (x : Part P.ring.carrier) × (holder P r scale m p i cs ≡ Some x)
  holder-some scale m p i [] c among holds = elim among [ ]
  holder-some scale m p i (x ∷ xs) c among holds = by
      (holds_point P (outline P r x.kind scale (child_motion P r scale m x)) p) refl among
      (λ a. holder-some scale m p (i + 1) xs c a holds)
    where
      here : Child P.ring.carrier → Bool
      here y = holds_point P (outline P r y.kind scale (child_motion P r scale m y)) p

      by : (b : Bool) → here x ≡ b → (c ≡ (i, x)) ⊎ IsAmong c (enumerate_from (i + 1) xs)
          → (IsAmong c (enumerate_from (i + 1) xs) → (y : Part P.ring.carrier) × (holder P r scale m p (i + 1) xs ≡ Some y))
          → (y : Part P.ring.carrier) × (cond b (Some (child_part P r scale m i x)) (holder P r scale m p (i + 1) xs) ≡ Some y)
      by true q a rest = (child_part P r scale m i x, refl)
      by false q (inl e) rest = let no : false ≡ true = sym q ∙ ap (λ (d : ℕ × Child P.ring.carrier). here d.1) (sym e) ∙ holds in absurd (cc no)
      by false q (inr a) rest = rest a

  -- a tile of the moved supertile: its motion is its own there, and then the supertile's
  pub record IsMoved (k n : ℕ) (m : Motion P.ring.carrier) (t : Placed P.ring.carrier) : Type 0 where
    pub own : Motion P.ring.carrier
    pub among : IsAmong (record { address = t.address; motion = own }) (supertile P r k n)
    pub moved : t.motion ≡ followed P own m

  pub IsMoved-depth : (k n : ℕ) (m : Motion P.ring.carrier) (t : Placed P.ring.carrier) → IsMoved k n m t → length t.address.digits ≡ n
  IsMoved-depth k n m t h = (AllByRecursion-among (IsPlaced P W r n)
      (record { address = t.address; motion = h.own }) (supertile P r k n) h.among
      (supertile-placed P W r k n)).depth

  -- a tile of a child is one of the whole
  of_child : (k n : ℕ) (m : Motion P.ring.carrier) (i : ℕ) (c : Child P.ring.carrier)
      (t : Placed P.ring.carrier) → IsAmong (i, c) (enumerate_from 0 (children_of r k))
      → IsMoved c.kind n (child_motion P r (power P.ring r.factor n) m c) t → IsMoved k (suc n) m (of_whole (record { child = i; parent = k } ∷ []) t)
  of_child k n m i c t among h = record {
    own = followed P h.own (inflated P r n c.motion);
    among = IsAmong-flat_map _ (i, c) _ (enumerate_from 0 (children_of r k)) among
        (IsAmong-map (lifted P r k n i c) (record { address = t.address; motion = h.own }) (supertile P r c.kind n) h.among);
    moved = h.moved ∙ sym (followed-assoc P W h.own (inflated P r n c.motion) m);
  }

  of_some : {A B : Type 0} (f : A → B) (x : Option A) (b : B) → option_map f x ≡ Some b → (a : A) × (x ≡ Some a) × (f a ≡ b)
  of_some f None b e = absurd (cc e)
  of_some f (Some a) b e = (a, refl, cc e)

  pub tile_below-moved : (k n : ℕ) (m : Motion P.ring.carrier) (p : P.ring.carrier)
      (t : Placed P.ring.carrier) → m.turn < P.order → tile_below P r k n m p ≡ Some t → IsMoved k n m t
  tile_below-moved k zero m p t b e =
      let same : record { address = record { kind = k; digits = [] }; motion = m } ≡ t = cc (e) in
      subst (IsMoved k 0 m) same (record { own = still P; among = inl refl; moved = sym (still-followed P W m b) })
  tile_below-moved k (suc n) m p t b e = by (holder_of P r k n m p) refl e (λ c a h g. tile_below-moved c.kind n c.motion p a h g)
    where
      by : (h : Option (Part P.ring.carrier)) → holder_of P r k n m p ≡ h
          → option_and_then (λ (c : Part P.ring.carrier). option_map
          (of_whole (record { child = c.child; parent = k } ∷ [])) (tile_below P r c.kind n c.motion p))
          h ≡ Some t
          → ((c : Part P.ring.carrier) (a : Placed P.ring.carrier) → c.motion.turn < P.order
          → tile_below P r c.kind n c.motion p ≡ Some a → IsMoved c.kind n c.motion a)
          → IsMoved k (suc n) m t
      by None q f rest = absurd (cc f)
      by (Some c) q f rest =
          let h = holder-is (power P.ring r.factor n) m p 0 (children_of r k) c q in
          let a = of_some (of_whole (record { child = c.child; parent = k } ∷ [])) (tile_below P r c.kind n c.motion p) t f in
          let turn : c.motion.turn < P.order = subst (λ (g : Motion P.ring.carrier). g.turn < P.order)
          (sym h.motion) (mod-lt (m.turn + h.child.motion.turn) (omega arith)) in
          let fine = rest c a.0 turn a.1 in
          subst (IsMoved k (suc n) m) a.2 (of_child k n m c.child h.child a.0 h.listed
          (subst (λ g. IsMoved h.child.kind n g a.0) h.motion
          (subst (λ j. IsMoved j n c.motion a.0) h.kind fine)))

-- where each supertile that holds a point has a child that holds it, the descent ends at a tile
pub tile_below-some : (P : Points) (W : PointLaws P) (r : Rule P.ring.carrier) → HasHolders P r
    → (k n : ℕ) (m : Motion P.ring.carrier) (p : P.ring.carrier) → supertile_holds P r k n m p ≡ true
    → (t : Placed P.ring.carrier) × (tile_below P r k n m p ≡ Some t)
tile_below-some P W r one k zero m p h = (record { address = record { kind = k; digits = [] }; motion = m }, refl)
tile_below-some P W r one k (suc n) m p h =
    let c = one k n m p h in
    let held = holder-is P W r (power P.ring r.factor n) m p 0 (children_of r k) c.0 c.1 in
    let t = tile_below-some P W r one c.0.kind n c.0.motion p held.holds in (
      of_whole (record { child = c.0.child; parent = k } ∷ []) t.0,
      ap (option_and_then (λ (c : Part P.ring.carrier). option_map
          (of_whole (record { child = c.child; parent = k } ∷ [])) (tile_below P r c.kind n c.motion p))) c.1
          ∙ ap (option_map (of_whole (record { child = c.0.child; parent = k } ∷ []))) t.1,
    )

module _ (P : Points) (W : PointLaws P) (r : Rule P.ring.carrier) where
  -- the tile that the descent through a supertile that holds the point ends at holds it
  pub tile_below-holds : (k n : ℕ) (m : Motion P.ring.carrier) (p : P.ring.carrier)
      (t : Placed P.ring.carrier) → supertile_holds P r k n m p ≡ true → tile_below P r k n m p ≡ Some t
      → holds_point P (map (moved P t.motion) (vertices_of r t.address.kind)) p ≡ true
  tile_below-holds k zero m p t h e =
      let same : record { address = record { kind = k; digits = [] }; motion = m } ≡ t = cc (e) in
      subst (λ (x : Placed P.ring.carrier). holds_point P (map (moved P x.motion) (vertices_of r x.address.kind)) p ≡ true) same
      (ap (λ vs. holds_point P vs p) (map-ext (λ z. moved P m z) (λ z. moved P m (P.ring.mul (power P.ring r.factor 0) z)) (vertices_of r k)
      (λ z. ap (moved P m) (ring P.ring W.of_ring (z ∷ []) (var 0) (con (pos 1) ⊗ var 0) refl))) ∙ h)
  tile_below-holds k (suc n) m p t h e = by (holder_of P r k n m p) refl e (λ c a g f. tile_below-holds c.kind n c.motion p a g f)
    where
      by : (x : Option (Part P.ring.carrier)) → holder_of P r k n m p ≡ x
          → option_and_then (λ (c : Part P.ring.carrier). option_map
          (of_whole (record { child = c.child; parent = k } ∷ [])) (tile_below P r c.kind n c.motion p))
          x ≡ Some t
          → ((c : Part P.ring.carrier) (a : Placed P.ring.carrier)
          → supertile_holds P r c.kind n c.motion p ≡ true → tile_below P r c.kind n c.motion p ≡ Some a
          → holds_point P (map (moved P a.motion) (vertices_of r a.address.kind)) p ≡ true)
          → holds_point P (map (moved P t.motion) (vertices_of r t.address.kind)) p ≡ true
      by None q f rest = absurd (cc f)
      by (Some c) q f rest =
          let held = holder-is P W r (power P.ring r.factor n) m p 0 (children_of r k) c q in
          let a = of_some P W r (of_whole (record { child = c.child; parent = k } ∷ [])) (tile_below P r c.kind n c.motion p) t f in
          subst (λ (x : Placed P.ring.carrier). holds_point P
          (map (moved P x.motion) (vertices_of r x.address.kind)) p ≡ true) a.2
          (rest c a.0 held.holds a.1)
