-- The tiles below a supertile that is moved are those of its list, moved; a point of one of them is a point
-- of the supertile.
use Rattle.std.proofs.Common.{◌≡◌, ℕ, zero, suc, ◌+◌, ◌<◌, Bool, true, false, cond, List, [], ◌∷◌, ◌++◌, map, flat_map, length, pos, refl, sym, ap}
use Rattle.std.proofs.Common.{ap₂, ◌∙◌, subst, mod-lt, arith}
use Rattle.std.specs.List.{enumerate_from}
use Rattle.std.proofs.lemmas.Simd.{map-map}
use Rattle.theory_ring.specs.Ring.{power}
use Rattle.theory_ring.specs.Sign.{Signed}
use Rattle.theory_ring.proofs.Normaliser.{var, con, ring, ◌⊗◌}
use Rattle.theory_plane.specs.Plane.{TestPoint, IsTestPoint}
use Rattle.theory_plane.specs.Crossing.{member}
use Rattle.theory_addresses.specs.Address.{depth, top_kind, Fits}
use Rattle.theory_addresses.specs.Tables.{child_kinds}
use Rattle.theory_addresses.proofs.Chains.{fits_of}
use Rattle.theory_edge_to_edge.specs.Contacts.{tables_of}
use Rattle.theory_substitution.specs.Placement.{placement}
use Rattle.theory_addresses.specs.Search.{IsAmong}
use Rattle.theory_addresses.proofs.Lists.{map-ext}
use Rattle.theory_substitution.specs.Points.{Points, PointLaws}
use Rattle.theory_substitution.specs.Plane.{plane_point}
use Rattle.theory_substitution.specs.Motion.{Motion, moved, followed}
use Rattle.theory_substitution.specs.Rule.{Child, Rule, children_of}
use Rattle.theory_substitution.specs.RuleParts.{vertices_of}
use Rattle.theory_substitution.specs.Supertile.{Placed, inflated, lifted, supertile}
use Rattle.theory_substitution.proofs.Keeping.{motion-keeps}
use Rattle.theory_substitution.proofs.Motions.{moved-followed}
use Rattle.theory_dissection.specs.Polygons.{tile_polygon, supertile_polygon}
use Rattle.theory_dissection.proofs.Setting.{Setting, contacts-coherent}
use Rattle.theory_dissection.proofs.Members.{member as tile-member}
use Rattle.theory_dissection.proofs.Carried.{dissection_law}
use Rattle.theory_frames.specs.Descent.{of_whole}
use Rattle.theory_frames.specs.Part.{child_motion}
use Rattle.theory_frames.proofs.Group.{followed-assoc, still-followed}
use Rattle.theory_windows.proofs.Members.{among-map, some-counted}
use Rattle.theory_descents.specs.Parts.{digit, one_tile, tiles_below, part_polygon}

-- ---- lists
pub flat_map-ext : {A B : Type 0} (f g : A → List B) (xs : List A) → ((x : A) → f x ≡ g x) → flat_map f xs ≡ flat_map g xs
flat_map-ext f g [] h = refl
flat_map-ext f g (x ∷ xs) h = ap₂ (λ u v. u ++ v) (h x) (flat_map-ext f g xs h)

pub map-append : {A B : Type 0} (f : A → B) (xs ys : List A) → map f (xs ++ ys) ≡ map f xs ++ map f ys
map-append f [] ys = refl
map-append f (x ∷ xs) ys = ap (λ u. f x ∷ u) (map-append f xs ys)

pub map-flat_map : {A B C : Type 0} (f : B → C) (g : A → List B) (xs : List A) → map f (flat_map g xs) ≡ flat_map (λ x. map f (g x)) xs
map-flat_map f g [] = refl
map-flat_map f g (x ∷ xs) = map-append f (g x) (flat_map g xs) ∙ ap (λ u. map f (g x) ++ u) (map-flat_map f g xs)

module _ (P : Points) (W : PointLaws P) (r : Rule P.ring.carrier) where
  abbrev A : Type 0
  A = P.ring.carrier

  -- a tile of the supertile's list, moved
  abbrev pub moved_by : Motion A → Placed A → Placed A
  moved_by m t = record { address = t.address; motion = followed P t.motion m }

  pub below-moved : (k n : ℕ) (m : Motion A) → m.turn < P.order → tiles_below P r k n m ≡ map (moved_by m) (supertile P r k n)
  below-moved k zero m b = ap (λ (g : Motion A). one_tile k g ∷ []) (sym (still-followed P W m b))
  below-moved k (suc n) m b =
      flat_map-ext _ _ (enumerate_from 0 (children_of r k)) (λ c. each c
      (below-moved c.1.kind n (own c) (mod-lt (m.turn + c.1.motion.turn) (omega arith))))
      ∙ sym (map-flat_map (moved_by m) (λ (c : ℕ × Child A). map (lifted P r k n c.0 c.1) (supertile P r c.1.kind n))
      (enumerate_from 0 (children_of r k)))
    where
      own : ℕ × Child A → Motion A
      own c = child_motion P r (power P.ring r.factor n) m c.1

      one : (c : ℕ × Child A) (t : Placed A) → of_whole (digit c.0 k) (moved_by (own c) t) ≡ moved_by m (lifted P r k n c.0 c.1 t)
      one c t = ap (λ (g : Motion A). record { address = record { kind = t.address.kind; digits = t.address.digits ++ digit c.0 k }; motion = g })
          (sym (followed-assoc P W t.motion (inflated P r n c.1.motion) m))

      each : (c : ℕ × Child A) → tiles_below P r c.1.kind n (own c) ≡ map (moved_by (own c)) (supertile P r c.1.kind n)
          → map (of_whole (digit c.0 k)) (tiles_below P r c.1.kind n (own c))
          ≡ map (moved_by m) (map (lifted P r k n c.0 c.1) (supertile P r c.1.kind n))
      each c e =
          ap (map (of_whole (digit c.0 k))) e
          ∙ map-map (of_whole (digit c.0 k)) (moved_by (own c)) (supertile P r c.1.kind n)
          ∙ map-ext _ _ (supertile P r c.1.kind n) (one c)
          ∙ sym (map-map (moved_by m) (lifted P r k n c.0 c.1) (supertile P r c.1.kind n))

-- a tile by itself
pub tile-part : (P : Points) (W : PointLaws P) (r : Rule P.ring.carrier) (k : ℕ) (m : Motion P.ring.carrier) → part_polygon P r k 0 m
    ≡ tile_polygon P r (λ z. z) (one_tile k m)
tile-part P W r k m =
    map-map (plane_point P) (λ z. moved P m (P.ring.mul (power P.ring r.factor 0) z)) (vertices_of r k)
    ∙ map-ext _ _ (vertices_of r k) (λ z. ap (λ x. plane_point P (moved P m x)) (ring P.ring W.of_ring (z ∷ []) (con (pos 1) ⊗ var 0) (var 0) refl))

module _ (T : Setting) where
  open T use {points as P, laws as W, accepted.{rule as r, numbered as N, edge_to_edge as D}}

  abbrev B : Type 0
  B = P.ring.carrier

  abbrev S : Signed
  S = P.real

  -- the polygon of a tile that is moved
  outline-moved : (m : Motion B) (t : Placed B) → tile_polygon P r (λ z. z) (moved_by P W r m t) ≡ tile_polygon P r (moved P m) t
  outline-moved m t = map-ext _ _ (vertices_of r t.address.kind) (λ z. ap (plane_point P) (moved-followed P W t.motion m z))

  -- and of the supertile
  part-is : (k n : ℕ) (m : Motion B) → part_polygon P r k n m ≡ supertile_polygon P r (moved P m) k n
  part-is k n m = map-map (plane_point P) (λ z. moved P m (P.ring.mul (power P.ring r.factor n) z)) (vertices_of r k)

  module _ (k n : ℕ) (m : Motion B) (hk : k < length r.kinds) (turn : m.turn < P.order) where
    pub record IsBelow (t : Placed B) : Type 0 where
      pub fits : Fits (child_kinds (tables_of P r)) t.address
      pub top : top_kind t.address ≡ k
      pub deep : depth t.address ≡ n
      pub motion_is : t.motion ≡ followed P (placement P r t.address.digits) m

    -- a tile below is a tile of the list, moved
    source : (t : Placed B) → IsAmong t (tiles_below P r k n m) → (s : Placed B) × IsAmong s (supertile P r k n) × (t ≡ moved_by P W r m s)
    source t i = among-map (moved_by P W r m) t (supertile P r k n) (subst (IsAmong t) (below-moved P W r k n m turn) i)

    pub below-kind : (t : Placed B) → IsAmong t (tiles_below P r k n m) → t.address.kind < length r.kinds
    below-kind t i =
        let s = source t i in
        subst (λ (u : Placed B). u.address.kind < length r.kinds) (sym s.2) (tile-member T k n hk s.0 s.1).tile.kind_exists

    -- its address fits, and leads to the supertile; its motion is that of its digits, and then the
    -- supertile's
    pub below-tile : (t : Placed B) → IsAmong t (tiles_below P r k n m) → IsBelow t
    below-tile t i =
        let s = source t i in
        let x = tile-member T k n hk s.0 s.1 in
        subst IsBelow (sym s.2) (record {
          fits = fits_of (tables_of P r) s.0.address.kind s.0.address.digits (contacts-coherent T) x.tile.chain;
          top = x.tile.top;
          deep = x.depth_is;
          motion_is = ap (λ (g : Motion B). followed P g m) x.motion_is;
        })

    -- a point of a tile below is one of the supertile
    pub below-in : (t : Placed B) → IsAmong t (tiles_below P r k n m) → (p : TestPoint S.ops.carrier) → IsTestPoint S p
        → member S (tile_polygon P r (λ z. z) t) p ≡ true → member S (part_polygon P r k n m) p ≡ true
    below-in t i p test h = ap (λ vs. member S vs p) (part-is k n m) ∙ at_number (member S (supertile_polygon P r (moved P m) k n) p) refl
      where
        s : (s : Placed B) × IsAmong s (supertile P r k n) × (t ≡ moved_by P W r m s)
        s = source t i

        holds : member S (tile_polygon P r (moved P m) s.0) p ≡ true
        holds = sym (ap (λ vs. member S vs p) (ap (tile_polygon P r (λ z. z)) s.2 ∙ outline-moved m s.0)) ∙ h

        at_number : (b : Bool) → member S (supertile_polygon P r (moved P m) k n) p ≡ b → b ≡ true
        at_number true e = refl
        at_number false e =
            absurd (some-counted (λ u. member S (tile_polygon P r (moved P m) u) p) s.0 (supertile P r k n) s.1 holds
            ((dissection_law P W T.accepted k n hk (moved P m) (motion-keeps P W m) p test).one ∙ ap (λ b. cond b 1 0) e))
