-- A supertile that holds a point has a child that holds it, and one tile of it and no other does: both from
-- the dissection, at the motion of the supertile.
use Rattle.std.proofs.Common.{◌≡◌, ◌⊎◌, inl, inr, ℕ, suc, ◌<◌, ◌≤◌, Bool, true, false, cond, List, [], length, map, Some, refl, sym, ap, ◌∙◌}
use Rattle.std.specs.List.{enumerate_from}
use Rattle.std.proofs.lemmas.Bool.{cases_lt}
use Rattle.std.proofs.lemmas.Simd.{map-map}
use Rattle.theory_ring.specs.Ring.{power}
use Rattle.theory_plane.specs.Plane.{TestPoint, IsTestPoint, test_point}
use Rattle.theory_plane.specs.Crossing.{member}
use Rattle.theory_addresses.specs.Search.{IsAmong}
use Rattle.theory_addresses.proofs.Lists.{map-ext}
use Rattle.theory_addresses.proofs.Ranges.{InPiece, get_or-past, among-flat_map}
use Rattle.theory_substitution.specs.Points.{Points, PointLaws}
use Rattle.theory_substitution.specs.Plane.{plane_point, Keeps}
use Rattle.theory_substitution.specs.Motion.{Motion, moved, followed}
use Rattle.theory_substitution.specs.Rule.{Child, Kind, Rule, children_of}
use Rattle.theory_substitution.specs.RuleParts.{vertices_of}
use Rattle.theory_substitution.specs.Supertile.{Placed, inflated, lifted, supertile}
use Rattle.theory_substitution.proofs.Addresses.{numbered-exists}
use Rattle.theory_substitution.proofs.Keeping.{motion-keeps, keeps-then}
use Rattle.theory_substitution.proofs.Motions.{moved-followed}
use Rattle.theory_dissection.specs.Polygons.{tile_polygon, supertile_polygon, IsDissectedAt}
use Rattle.theory_dissection.specs.Sums.{number_of}
use Rattle.theory_frames.specs.Frame.{HasChildKinds}
use Rattle.theory_frames.specs.Outline.{outline, holds_point, supertile_holds}
use Rattle.theory_frames.specs.Part.{Part, child_motion, holder_of, HasHolders}
use Rattle.theory_frames.proofs.Located.{holder-some}
use Rattle.tile_place.proofs.Counted.{one_of, some_of_one, one_alone, among-map}

-- each supertile of a kind that exists is dissected at the test points of the ring
abbrev pub IsDissected : (P : Points) → Rule P.ring.carrier → Type 0
IsDissected P r =
    (k n : ℕ) → k < length r.kinds → (f : P.ring.carrier → P.ring.carrier) → Keeps P f
    → (p : TestPoint P.real.ops.carrier) → IsTestPoint P.real p → IsDissectedAt P r f k n p

module _ (P : Points) (W : PointLaws P) (r : Rule P.ring.carrier) (dissected : IsDissected P r) (exist : HasChildKinds P r) (p : P.ring.carrier) where
  abbrev A : Type 0
  A = P.ring.carrier

  abbrev point : TestPoint P.real.ops.carrier
  point = test_point P.real.ops (plane_point P p)

  is_test : IsTestPoint P.real point
  is_test = (0, refl)

  -- whether a tile, and a whole supertile, moved by f hold the point
  abbrev in_tile : (A → A) → Placed A → Bool
  in_tile f t = member P.real (tile_polygon P r f t) point

  abbrev in_whole : (A → A) → ℕ → ℕ → Bool
  in_whole f k n = member P.real (supertile_polygon P r f k n) point

  tile-ext : (f g : A → A) (t u : Placed A) → t.address.kind ≡ u.address.kind
      → ((z : A) → f (moved P t.motion z) ≡ g (moved P u.motion z)) → in_tile f t ≡ in_tile g u
  tile-ext f g t u same h =
      ap (λ vs. member P.real vs point) (map-ext (λ z. plane_point P (f (moved P t.motion z)))
      (λ z. plane_point P (g (moved P u.motion z))) (vertices_of r t.address.kind)
      (λ z. ap (plane_point P) (h z))
      ∙ ap (λ k. map (λ z. plane_point P (g (moved P u.motion z))) (vertices_of r k)) same)

  -- the same by the outlines of a search
  whole-is : (k n : ℕ) (m : Motion A) → supertile_holds P r k n m p ≡ in_whole (moved P m) k n
  whole-is k n m = ap (λ vs. member P.real vs point)
      (map-map (plane_point P) (λ z. moved P m (P.ring.mul (power P.ring r.factor n) z)) (vertices_of r k))

  child-is : (k n : ℕ) (m : Motion A) (c : Child A)
      → holds_point P (outline P r c.kind (power P.ring r.factor n)
      (child_motion P r (power P.ring r.factor n) m c)) p
      ≡ in_whole (λ z. moved P m (moved P (inflated P r n c.motion) z)) c.kind n
  child-is k n m c =
      ap (λ vs. member P.real vs point) (map-map (plane_point P)
      (λ z. moved P (child_motion P r (power P.ring r.factor n) m c)
      (P.ring.mul (power P.ring r.factor n) z)) (vertices_of r c.kind)
      ∙ map-ext _ (λ z. plane_point P (moved P m (moved P (inflated P r n c.motion) (P.ring.mul (power P.ring r.factor n) z)))) (vertices_of r c.kind)
      (λ z. ap (plane_point P) (moved-followed P W (inflated P r n c.motion) m (P.ring.mul (power P.ring r.factor n) z))))

  -- the number of tiles that hold the point
  counted : (f : A → A) → Keeps P f → (k n : ℕ) → k < length r.kinds → number_of (in_tile f) (supertile P r k n) ≡ cond (in_whole f k n) 1 0
  counted f keeps k n h = (dissected k n h f keeps point is_test).one

  -- a supertile of which a tile holds the point holds it
  whole_too : (f : A → A) → Keeps P f → (k n : ℕ) → k < length r.kinds → (t : Placed A)
      → IsAmong t (supertile P r k n) → in_tile f t ≡ true → in_whole f k n ≡ true
  whole_too f keeps k n h t among holds =
      let some = some_of_one (in_tile f) t (supertile P r k n) among holds in at_whole (in_whole f k n) some.0 (sym some.1 ∙ counted f keeps k n h)
    where
      at_whole : (b : Bool) (m : ℕ) → suc m ≡ cond b 1 0 → b ≡ true
      at_whole true m e = refl
      at_whole false m e = absurd (cc e)

  -- the motion of child c's supertile in a supertile that m moves
  abbrev in_child : ℕ → Motion A → Child A → A → A
  in_child n m c z = moved P m (moved P (inflated P r n c.motion) z)

  in_child-keeps : (n : ℕ) (m : Motion A) (c : Child A) → Keeps P (in_child n m c)
  in_child-keeps n m c = keeps-then P W (moved P m) (moved P (inflated P r n c.motion)) (motion-keeps P W m)
      (motion-keeps P W (inflated P r n c.motion))

  -- a tile of a child's supertile holds what it holds as a tile of the whole
  tile_too : (k n i : ℕ) (m : Motion A) (c : Child A) (u : Placed A) → in_tile (in_child n m c) u ≡ in_tile (moved P m) (lifted P r k n i c u)
  tile_too k n i m c u = tile-ext (in_child n m c) (moved P m) u (lifted P r k n i c u) refl
      (λ z. ap (moved P m) (sym (moved-followed P W u.motion (inflated P r n c.motion) z)))

  -- the tiles of a child's supertile, as tiles of the whole
  abbrev pieces : ℕ → ℕ → ℕ × Child A → List (Placed A)
  pieces k n c = map (lifted P r k n c.0 c.1) (supertile P r c.1.kind n)

  -- a child of it holds it
  child_too : (k n : ℕ) (m : Motion A) → k < length r.kinds → in_whole (moved P m) k (suc n) ≡ true
      → (c : ℕ × Child A) × IsAmong c (enumerate_from 0 (children_of r k)) × (in_whole (in_child n m c.1) c.1.kind n ≡ true)
  child_too k n m h holds = of_tile (one_of (in_tile (moved P m)) (supertile P r k (suc n)) 0
      (counted (moved P m) (motion-keeps P W m) k (suc n) h ∙ ap (λ b. cond b 1 0) holds))
    where
      of_own : (t : Placed A) → in_tile (moved P m) t ≡ true → (c : ℕ × Child A) → IsAmong c (enumerate_from 0 (children_of r k))
          → (u : Placed A) × IsAmong u (supertile P r c.1.kind n) × (lifted P r k n c.0 c.1 u ≡ t) → in_whole (in_child n m c.1) c.1.kind n ≡ true
      of_own t is c among u =
          whole_too (in_child n m c.1) (in_child-keeps n m c.1) c.1.kind n
          (numbered-exists P r exist k h c among) u.0 u.1
          (tile_too k n c.0 m c.1 u.0 ∙ ap (in_tile (moved P m)) u.2 ∙ is)

      of_piece : (t : Placed A) → in_tile (moved P m) t ≡ true → InPiece (pieces k n) t (enumerate_from 0 (children_of r k))
          → (c : ℕ × Child A) × IsAmong c (enumerate_from 0 (children_of r k)) × (in_whole (in_child n m c.1) c.1.kind n ≡ true)
      of_piece t is q = (
        q.piece,
        q.among,
        of_own t is q.piece q.among
            (among-map (lifted P r k n q.piece.0 q.piece.1) t (supertile P r q.piece.1.kind n) q.inside),
      )

      of_tile : (t : Placed A) × IsAmong t (supertile P r k (suc n)) × (in_tile (moved P m) t ≡ true)
          → (c : ℕ × Child A) × IsAmong c (enumerate_from 0 (children_of r k)) × (in_whole (in_child n m c.1) c.1.kind n ≡ true)
      of_tile t = of_piece t.0 t.2 (among-flat_map (pieces k n) t.0 (enumerate_from 0 (children_of r k)) t.1)

  -- a kind beyond the last has no vertices, and holds nothing
  none_past : (k n : ℕ) (m : Motion A) → length r.kinds ≤ k → supertile_holds P r k n m p ≡ false
  none_past k n m h =
      ap (λ (x : Kind A). holds_point P (map (λ z. moved P m (P.ring.mul (power P.ring r.factor n) z))
      x.vertices) p) (get_or-past r.kinds k (record { vertices = []; edges = []; children = [] }) h)

  pub holder_at : (k n : ℕ) (m : Motion A) → supertile_holds P r k (suc n) m p ≡ true → (c : Part A) × (holder_of P r k n m p ≡ Some c)
  holder_at k n m holds = by_kind (cases_lt k (length r.kinds))
    where
      by_kind : (k < length r.kinds) ⊎ (length r.kinds ≤ k) → (c : Part A) × (holder_of P r k n m p ≡ Some c)
      by_kind (inr past) = absurd (cc (sym (none_past k (suc n) m past) ∙ holds))
      by_kind (inl h) =
          let c = child_too k n m h (sym (whole-is k (suc n) m) ∙ holds) in
          holder-some P W r (power P.ring r.factor n) m p 0 (children_of r k) c.0 c.1 (child-is k n m c.0.1 ∙ c.2)

  -- the tile moved as the supertile is
  abbrev pub carried : Motion A → Placed A → Placed A
  carried m t = record { address = t.address; motion = followed P t.motion m }

  abbrev Source : ℕ → ℕ → Motion A → Placed A → Type 0
  Source k n m t = (u : Placed A) × IsAmong u (supertile P r k n) × (carried m u ≡ t)

  -- a tile of the moved supertile that holds the point is the only one
  pub only_one : (k n : ℕ) (m : Motion A) → k < length r.kinds → supertile_holds P r k n m p ≡ true → (x y : Placed A)
      → IsAmong x (map (carried m) (supertile P r k n)) → in_tile (λ z. z) x ≡ true
      → IsAmong y (map (carried m) (supertile P r k n)) → in_tile (λ z. z) y ≡ true → y ≡ x
  only_one k n m h holds x y i a j b = of_both (among-map (carried m) x (supertile P r k n) i) (among-map (carried m) y (supertile P r k n) j)
    where
      at_home : (t : Placed A) → in_tile (moved P m) t ≡ in_tile (λ z. z) (carried m t)
      at_home t = tile-ext (moved P m) (λ z. z) t (carried m t) refl (λ z. sym (moved-followed P W t.motion m z))

      one : number_of (in_tile (moved P m)) (supertile P r k n) ≡ 1
      one = counted (moved P m) (motion-keeps P W m) k n h ∙ ap (λ b. cond b 1 0) (sym (whole-is k n m) ∙ holds)

      held : (t : Placed A) (u : Source k n m t) → in_tile (λ z. z) t ≡ true → in_tile (moved P m) u.0 ≡ true
      held t u e = at_home u.0 ∙ ap (in_tile (λ z. z)) u.2 ∙ e

      of_both : Source k n m x → Source k n m y → y ≡ x
      of_both u v = sym v.2 ∙ ap (carried m) (one_alone (in_tile (moved P m)) (supertile P r k n) one v.0 u.0 v.1 (held y v b) u.1 (held x u a)) ∙ u.2

pub has_holders : (P : Points) (W : PointLaws P) (r : Rule P.ring.carrier) → IsDissected P r → HasChildKinds P r → HasHolders P r
has_holders P W r dissected exist k n m p = holder_at P W r dissected exist p k n m
