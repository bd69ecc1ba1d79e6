-- One level further down.
use Rattle.std.proofs.Common.{◌≡◌, ℕ, suc, ◌+◌, Bool, cond, List, [], ◌∷◌, ◌++◌, find, Option, None, Some, Result, IfOk, IfErr, refl, sym, ap, ap₂, ◌∙◌, append_assoc, add-one}
use Rattle.std.specs.Option.{option_map, option_and_then}
use Rattle.std.proofs.lemmas.List.{append-nil}
use Rattle.std.proofs.lemmas.Result.{IfErr-weaker, IfOk-weaker}
use Rattle.theory_ring.specs.Ring.{power}
use Rattle.theory_substitution.specs.Points.{Points}
use Rattle.theory_substitution.specs.Motion.{Motion}
use Rattle.theory_addresses.specs.Address.{Step}
use Rattle.theory_substitution.specs.Rule.{Rule, children_of}
use Rattle.theory_substitution.specs.Supertile.{Placed}
use Rattle.theory_frames.specs.Outline.{outline, holds_point, supertile_holds}
use Rattle.theory_frames.specs.Part.{Part, holder, holder_of}
use Rattle.theory_frames.specs.Descent.{of_whole, tile_below, tile_holding}
use Rattle.theory_frames.specs.Looked.{values_of_children, values_below, powers_from, values_looked_at}
use Rattle.cyclo_points.specs.declared.order.Order.{Order}
use Rattle.cyclo_points.specs.Order.{NumberOf, is_refused}
use Rattle.tile_place.specs.declared.locate_fault.LocateFault.{LocateFault}
use Rattle.tile_place.specs.declared.locate_fault.LocateFault.TheVariants.{NotInside, CoordLimit}
use Rattle.tile_place.specs.declared.placed_tile.PlacedTile.{PlacedTile}
use Rattle.tile_place.specs.Searched.{IsFoundTile, IsSearchFault}
use Rattle.tile_place.proofs.Values.{find-append_found}
use Rattle.tile_place.proofs.Holders.{find-front}

pub behind-behind : {A : Type 0} (ds : List Step) (s : Step) (x : Option (Placed A))
    → option_map (of_whole ds) (option_map (of_whole (s ∷ [])) x) ≡ option_map (of_whole (s ∷ ds)) x
behind-behind ds s None = refl
behind-behind ds s (Some t) = λ i. Some (record {
  address = record { kind = t.address.kind; digits = append_assoc t.address.digits (s ∷ []) ds i };
  motion = t.motion;
})

pub behind-none : {A : Type 0} (x : Option (Placed A)) → option_map (of_whole []) x ≡ x
behind-none None = refl
behind-none (Some t) = λ i. Some (record { address = record { kind = t.address.kind; digits = append-nil t.address.digits i }; motion = t.motion })

module _ (P : Points) (r : Rule P.ring.carrier) (test : P.ring.carrier → Bool) (k n level : ℕ)
    (m : Motion P.ring.carrier) (p scale : P.ring.carrier) (e : level ≡ suc n)
    (s : scale ≡ power P.ring r.factor n) where
  abbrev held_here : Option (Part P.ring.carrier) → Type 0
  held_here h = h ≡ holder P r scale m p 0 (children_of r k)

  same_holder : (h : Option (Part P.ring.carrier)) → held_here h → holder_of P r k n m p ≡ h
  same_holder h q = sym (q ∙ ap (λ z. holder P r z m p 0 (children_of r k)) s)

  opened : (h : Option (Part P.ring.carrier)) → held_here h
      → find test (values_below P r k level m p) ≡ find test
      (values_of_children P r scale m (children_of r k)
      ++ elim h [ None ↦ [] | Some c ↦ values_below P r c.kind n c.motion p ])
  opened h q =
      ap (λ l. find test (values_below P r k l m p)) e
      ∙ ap₂ (λ (z : P.ring.carrier) (x : Option (Part P.ring.carrier)). find test
      (values_of_children P r z m (children_of r k)
      ++ elim x [ None ↦ [] | Some c ↦ values_below P r c.kind n c.motion p ])) (sym s) (same_holder h q)

  -- a child's value is refused
  pub refused_here : (h : Option (Part P.ring.carrier)) (v : P.ring.carrier) → held_here h
      → find test (values_of_children P r scale m (children_of r k)) ≡ Some v
      → find test (values_below P r k level m p) ≡ Some v
  refused_here h v q f = opened h q ∙ find-append_found test (values_of_children P r scale m (children_of r k)) _ v f

  -- none is, and one child holds the point
  pub values_on : (c : Part P.ring.carrier) → held_here (Some c) → find test (values_of_children P r scale m (children_of r k)) ≡ None
      → find test (values_below P r c.kind n c.motion p) ≡ find test (values_below P r k level m p)
  values_on c q f = sym (opened (Some c) q ∙ find-front test (values_of_children P r scale m (children_of r k)) _ f)

  pub tile_on : (c : Part P.ring.carrier) → held_here (Some c)
      → option_map (of_whole (record { child = c.child; parent = k } ∷ [])) (tile_below P r c.kind n c.motion p) ≡ tile_below P r k level m p
  tile_on c q =
      sym (ap (λ l. tile_below P r k l m p) e
      ∙ ap (option_and_then (λ (c : Part P.ring.carrier). option_map
      (of_whole (record { child = c.child; parent = k } ∷ [])) (tile_below P r c.kind n c.motion p)))
      (same_holder (Some c) q))

  -- none is, and none holds it
  pub values_end : held_here None → find test (values_of_children P r scale m (children_of r k)) ≡ None
      → find test (values_below P r k level m p) ≡ None
  values_end q f = opened None q ∙ find-front test (values_of_children P r scale m (children_of r k)) [] f

  pub tile_none : held_here None → tile_below P r k level m p ≡ None
  tile_none q =
      ap (λ l. tile_below P r k l m p) e
      ∙ ap (option_and_then (λ (c : Part P.ring.carrier). option_map
      (of_whole (record { child = c.child; parent = k } ∷ [])) (tile_below P r c.kind n c.motion p)))
      (same_holder None q)

-- ---- the values of the whole search
module _ (P : Points) (r : Rule P.ring.carrier) (test : P.ring.carrier → Bool) (k n : ℕ)
    (m : Motion P.ring.carrier) (p scale : P.ring.carrier) (s : scale ≡ power P.ring r.factor n) where
  abbrev after_outline : List P.ring.carrier
  after_outline = cond (supertile_holds P r k n m p) (values_below P r k n m p) []

  powers_same : powers_from P r.factor 0 (n + 1) ≡ powers_from P r.factor 0 (suc n)
  powers_same = ap (powers_from P r.factor 0) (add-one n)

  pub power_refused : (v : P.ring.carrier) → find test (powers_from P r.factor 0 (n + 1)) ≡ Some v → find test (values_looked_at P r k n m p) ≡ Some v
  power_refused v f = find-append_found test (powers_from P r.factor 0 (suc n)) _ v (ap (find test) (sym powers_same) ∙ f)

  past_powers : find test (powers_from P r.factor 0 (n + 1)) ≡ None
      → find test (values_looked_at P r k n m p) ≡ find test (outline P r k scale m ++ after_outline)
  past_powers f =
      find-front test (powers_from P r.factor 0 (suc n)) _ (ap (find test) (sym powers_same) ∙ f)
      ∙ ap (λ z. find test (outline P r k z m ++ after_outline)) (sym s)

  pub vertex_refused : (v : P.ring.carrier) → find test (powers_from P r.factor 0 (n + 1)) ≡ None
      → find test (outline P r k scale m) ≡ Some v → find test (values_looked_at P r k n m p) ≡ Some v
  vertex_refused v f g = past_powers f ∙ find-append_found test (outline P r k scale m) after_outline v g

  holds_same : (b : Bool) → b ≡ holds_point P (outline P r k scale m) p → supertile_holds P r k n m p ≡ b
  holds_same b h = sym (h ∙ ap (λ z. holds_point P (outline P r k z m) p) s)

  pub past_outline : (b : Bool) → b ≡ holds_point P (outline P r k scale m) p
      → find test (powers_from P r.factor 0 (n + 1)) ≡ None → find test (outline P r k scale m) ≡ None
      → find test (values_looked_at P r k n m p) ≡ find test (cond b (values_below P r k n m p) [])
  past_outline b h f g = past_powers f ∙ find-front test (outline P r k scale m) after_outline g
      ∙ ap (λ x. find test (cond x (values_below P r k n m p) [])) (holds_same b h)

  pub tile_same : (b : Bool) → b ≡ holds_point P (outline P r k scale m) p → tile_holding P r k n m p ≡ cond b (tile_below P r k n m p) None
  tile_same b h = ap (λ x. cond x (tile_below P r k n m p) None) (holds_same b h)

pub fault_same : (o : Order) (vs ws : List (NumberOf o)) (t u : Option (Placed (NumberOf o)))
    → find (is_refused o) vs ≡ find (is_refused o) ws → t ≡ u → (fault : LocateFault)
    → IsSearchFault o ws u fault → IsSearchFault o vs t fault
fault_same o vs ws t u e f NotInside h = (e ∙ h.0, f ∙ h.1)
fault_same o vs ws t u e f (CoordLimit v) h = (e ∙ h.0, h.1)

pub same_found : (o : Order) (x : Result PlacedTile LocateFault) (vs ws : List (NumberOf o))
    (t u : Option (Placed (NumberOf o))) → find (is_refused o) vs ≡ find (is_refused o) ws → t ≡ u
    → IfOk x (IsFoundTile o ws u) → IfOk x (IsFoundTile o vs t)
same_found o x vs ws t u e f h = IfOk-weaker x (IsFoundTile o ws u) (IsFoundTile o vs t)
    (λ tile k. record { holder = f ∙ k.holder; its_kind = k.its_kind; moves = k.moves; none_refused = e ∙ k.none_refused }) h

pub same_fault : (o : Order) (x : Result PlacedTile LocateFault) (vs ws : List (NumberOf o))
    (t u : Option (Placed (NumberOf o))) → find (is_refused o) vs ≡ find (is_refused o) ws → t ≡ u
    → IfErr x (IsSearchFault o ws u) → IfErr x (IsSearchFault o vs t)
same_fault o x vs ws t u e f h = IfErr-weaker x (IsSearchFault o ws u) (IsSearchFault o vs t) (fault_same o vs ws t u e f) h
