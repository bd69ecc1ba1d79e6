-- The descent, step by step: a tile by itself, the first of the children of a part, and one child more.
use Rattle.std.proofs.Common.{◌≡◌, ℕ, suc, ◌+◌, ◌<◌, Bool, true, false, List, [], ◌∷◌, ◌++◌, map, drop, length, get_or, set, refl, sym, ap, ap₂, ◌∙◌}
use Rattle.std.proofs.Common.{subst, arith, append_assoc}
use Rattle.std.specs.List.{AllByRecursion}
use Rattle.std.proofs.lemmas.List.{map-append, append-nil}
use Rattle.theory_ring.specs.Ring.{power}
use Rattle.theory_addresses.specs.Address.{Step as TheStep}
use Rattle.theory_addresses.proofs.Lists.{AllByRecursion-append}
use Rattle.theory_substitution.specs.Motion.{Motion, still}
use Rattle.theory_substitution.specs.Points.{Points}
use Rattle.theory_substitution.specs.Rule.{Child, Rule as TheRule, children_of}
use Rattle.theory_frames.specs.Descent.{of_whole}
use Rattle.theory_frames.specs.Part.{child_motion}
use Rattle.cyclo_points.specs.declared.point.Point.{Point}
use Rattle.cyclo_points.specs.Order.{NumberOf, points_of}
use Rattle.cyclo_points.specs.Motion.{motion_in}
use Rattle.cyclo_points.specs.Point.{point_in}
use Rattle.cyclo_points.proofs.OrderLaws.{laws_of}
use Rattle.cyclo_points.proofs.Divisors.{divisors_of}
use Rattle.plane_geom.specs.declared.window.Window.{Window}
use Rattle.rule_model.specs.declared.rule.Rule.{Rule}
use Rattle.rule_model.specs.Tiling.{Tiling, tiling_of}
use Rattle.rule_model.specs.Views.{rule_of}
use Rattle.tile_place.proofs.Plane.{IsSettled, its_rule}
use Rattle.tile_shape.specs.declared.step.Step.{Step}
use Rattle.tile_shape.specs.Views.{step_of}
use Rattle.theory_walks.specs.Ancestors.{factor_power}
use Rattle.theory_descents.proofs.Carried as law
use Rattle.window_descent.specs.declared.part.Part.{Part}
use Rattle.window_descent.specs.Parts.{IsPlacedPart, IsPartAt}
use Rattle.window_cover.specs.Descending.{tile_in, tiles_in, IsKeptTile, found_below, found_of, digits_above, IsDescended, IsTakenIn, HasMore, found_part}
use Rattle.window_cover.specs.Descending.{from_number}
use Rattle.window_cover.specs.Found.{Found, CoverValue}
use Rattle.window_cover.specs.Windows.{TileOf, box_of}
use Rattle.window_cover.proofs.PartLists.{drop-put, drop-past, drop-put_past, from-first, from-last, one_child}

-- ---- further tiles
pub no-more : (xs : List Found) → HasMore xs xs
no-more xs = record { more = []; is = sym (append-nil xs) }

pub more-then : (xs ys zs : List Found) → HasMore xs ys → HasMore ys zs → HasMore xs zs
more-then xs ys zs h k = record { more = h.more ++ k.more; is = k.is ∙ ap (λ (us : List Found). us ++ k.more) h.is ∙ append_assoc xs h.more k.more }

must : (b : Bool) → (b ≡ false → ⊥) → b ≡ true
must true f = refl
must false f = absurd (f refl)

none-below : (n : ℕ) → n ≡ 0 → 0 < n → ⊥
none-below n e h = omega arith

module _ (m : Rule) where
  abbrev t : Tiling
  t = tiling_of m

  abbrev P : Points
  P = points_of m.order

  abbrev r : TheRule (NumberOf m.order)
  r = rule_of m

  -- ---- a tile by itself
  pub put-descended : (c d : CoverValue) (path : List Step) (all : Bool) (level : ℕ) (p : Part) → IsPlacedPart m p → level ≡ 0
      → (all ≡ false → 0 < level) → IsTakenIn c d (found_part p path)
      → IsDescended t c d path path all level p
  put-descended c d path all level p is zero_level tile h = record {
    same_window = h.same_window;
    same_border = h.same_border;
    same_above = refl;
    longer = record { more = found_part p path ∷ []; is = h.found };
    found = ap (tiles_in m.order) h.found ∙ map-append (tile_in m.order) c.found (found_part p path ∷ [])
        ∙ ap (λ ts. tiles_in m.order c.found ++ ts) (sym (one all level (must all (λ e. none-below level zero_level (tile e))) zero_level));
    kept = λ k. subst (AllByRecursion (IsKeptTile t)) (sym h.found) (AllByRecursion-append (IsKeptTile t) c.found (found_part p path ∷ []) k
        (record { kind_exists = is.kind_exists; turn_below = is.turn_below; within = is.within; in_order = is.in_order }, tt));
  }
    where
      one : (a : Bool) (n : ℕ) → a ≡ true → n ≡ 0 → map (of_whole (digits_above n path)) (found_of t c.window a n p)
          ≡ tiles_in m.order (found_part p path ∷ [])
      one a n e z = ap₂ (λ b k. map (of_whole (digits_above k path)) (found_of t c.window b k p)) e z ∙ ap (λ xs. tile_of xs ∷ []) (drop-none path)
        where
          drop-none : {B : Type 0} (xs : List B) → drop 0 xs ≡ xs
          drop-none [] = refl
          drop-none (x ∷ xs) = refl

          tile_of : List Step → TileOf t
          tile_of xs = record { address = record { kind = p.kind; digits = map step_of xs }; motion = motion_in m.order p.motion }

  module _ (settled : IsSettled m) (w : Window) (all : Bool) (p : Part) (level below : ℕ) (one : below + 1 ≡ level) where
    deep : level ≡ suc below
    deep = omega (arith, one)

    -- ---- the children of a part, from the first
    pub first-part : from_number t w all below p 0 ≡ found_of t w all level p
    first-part =
        sym (from-first P r (box_of t w) all p.kind below (motion_in m.order p.motion) (law.parts_law P (laws_of m.order) (divisors_of m.order))
        (its_rule m settled) refl)
        ∙ ap (λ n. found_of t w all n p) (sym deep)

    -- to the last
    pub last-part : (i : ℕ) → length (children_of r p.kind) ≡ i → from_number t w all below p i ≡ []
    last-part i e = from-last P r (box_of t w) all p.kind below (motion_in m.order p.motion) i (omega (arith, e))

    -- ---- one child more
    module _ (i : ℕ) (few : i < length (children_of r p.kind)) (scale : Point) (scale_is : point_in m.order scale ≡ factor_power t below)
        (child : Part) (is : IsPartAt m p.kind i scale p.motion child)
        (c d : CoverValue) (path after whole : List Step) (short : below < length path) (above : drop level path ≡ drop level whole)
        (h : IsDescended t c d (set path below (record { child = i; parent = p.kind })) after all below child) (same : c.window ≡ w) where
      abbrev step : Step
      step = record { child = i; parent = p.kind }

      none : Child (NumberOf m.order)
      none = record { kind = 0; motion = still P }

      digits : digits_above below (set path below step) ≡ record { child = i; parent = p.kind } ∷ digits_above level whole
      digits = ap (map step_of) (drop-put path below step short ∙ ap (λ n. step ∷ drop n path) one ∙ ap (λ xs. step ∷ xs) above)

      its : found_of t c.window all below child
          ≡ found_below P r (box_of t w) all (get_or (children_of r p.kind) i (record { kind = 0; motion = still P })).kind below
          (child_motion P r (power P.ring r.factor below) (motion_in m.order p.motion)
          (get_or (children_of r p.kind) i (record { kind = 0; motion = still P })))
      its =
          ap (λ v. found_of t v all below child) same
          ∙ ap₂ (λ (k : ℕ) (g : Motion (NumberOf m.order)). found_below P r (box_of t w) all k below g) is.its_kind
          (is.its_motion ∙ ap (λ (z : NumberOf m.order). child_motion P r z (motion_in m.order p.motion)
          (get_or (children_of r p.kind) i (record { kind = 0; motion = still P }))) scale_is)

      pub next-found : tiles_in m.order d.found ++ map (of_whole (digits_above level whole)) (from_number t w all below p (i + 1))
          ≡ tiles_in m.order c.found ++ map (of_whole (digits_above level whole)) (from_number t w all below p i)
      next-found = one_child P r (box_of t w) all p.kind below (motion_in m.order p.motion) i (record { kind = 0; motion = still P }) few
          (digits_above level whole) (tiles_in m.order c.found) (tiles_in m.order d.found)
          (h.found ∙ ap₂ (λ (ds : List TheStep) (ts : List (TileOf t)). tiles_in m.order c.found ++ map (of_whole ds) ts) digits its)

      pub next-above : drop level after ≡ drop level whole
      next-above =
          ap (λ n. drop n after) (sym one) ∙ drop-past after (set path below step) below h.same_above ∙ drop-put_past path below step short
          ∙ ap (λ n. drop n path) one ∙ above
