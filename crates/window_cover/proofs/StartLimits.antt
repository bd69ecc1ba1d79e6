-- What the start of the search says of the limits: the depth of the frame, and why it is refused.
use Rattle.std.proofs.Common.{◌≡◌, ◌⊎◌, inl, inr, ℕ, ◌<◌, ◌≤◌, true, false, Result, Ok, Err, IfErr, length, refl, sym, ap, ◌∙◌, subst, arith}
use Rattle.std.specs.Result.{IsOk}
use Rattle.std.proofs.lemmas.Bool.{cases_lt}
use Rattle.theory_plane.specs.Plane.{test_point}
use Rattle.theory_addresses.specs.Address.{Address}
use Rattle.theory_addresses.proofs.Lists.{AllByRecursion-among}
use Rattle.cyclo_points.specs.declared.point.Point.{Point}
use Rattle.cyclo_points.specs.Order.{points_of, is_refused}
use Rattle.cyclo_points.specs.Point.{point_in, IsOf}
use Rattle.theory_dissection.specs.Accepted.{AcceptedRule}
use Rattle.theory_walks.specs.Ancestors.{full}
use Rattle.theory_walks.specs.Containing.{FrameHolds, IsOnlyHolder}
use Rattle.theory_walks.specs.Frames.{FrameValue, at_depth, IsFrameOf, GrowsTo}
use Rattle.lazy_walk.specs.Standing.{Stands}
use Rattle.theory_walks.proofs.Ancestors.{level-at}
use Rattle.theory_walks.proofs.Walks.{StillFits, at_depth-depth}
use Rattle.plane_geom.specs.declared.window.Window.{Window}
use Rattle.rule_model.specs.declared.rule.Rule.{Rule}
use Rattle.rule_model.specs.Tiling.{Tiling, tiling_of, children}
use Rattle.theory_substitution.specs.Points.{Points}
use Rattle.tile_place.specs.declared.placed_tile.PlacedTile.{PlacedTile}
use Rattle.tile_place.specs.Searched.{placed_in}
use Rattle.tile_place.proofs.Plane.{IsSettled, its_rule}
use Rattle.theory_windows.specs.Meeting.{PolygonMeetsBox}
use Rattle.theory_windows.proofs.Window.{centre-in_box}
use Rattle.window_cover.specs.declared.cover_fault.CoverFault.{CoverFault}
use Rattle.window_cover.specs.declared.cover_fault.CoverFault.TheVariants.{DepthLimit, CoordLimit, TooManyTiles, NoMemory}
use Rattle.window_cover.specs.Admitted.{IsNotAdmitted}
use Rattle.window_cover.specs.Causes.{IsRefusedShift, HasCoverCause}
use Rattle.window_cover.specs.Limits.{IsCoverWithinLimits}
use Rattle.window_cover.specs.SearchLaws.{HasSearchLaws}
use Rattle.window_cover.specs.Windows.{TileOf, IsWindow, box_of, polygon_of, IsLeastForWindow}
use Rattle.window_cover.specs.Working.{Working}
use Rattle.theory_walks.proofs.InFull.{names, deep}
use Rattle.window_cover.proofs.FrameNames.{level-holds}
use Rattle.window_cover.proofs.StartState.{u, of_depth}

module _ (m : Rule) (settled : IsSettled m) (fits : StillFits (children (tiling_of m))) (L : HasSearchLaws (points_of m.order))
    (f : FrameValue) (is : IsFrameOf (tiling_of m) f) (g : FrameValue) (h : GrowsTo (tiling_of m) f g) (w : Window) (fit : IsWindow w)
    (least : (n : ℕ) → length f.digits ≤ n → n < length g.digits
    → ¬ FrameHolds (tiling_of m) (at_depth (tiling_of m) n f) (point_in m.order w.centre)) where
  abbrev t : Tiling
  t = tiling_of m

  abbrev P : Points
  P = points_of m.order

  abbrev T : AcceptedRule P
  T = its_rule m settled

  abbrev F : Address
  F = full t f

  pub not_beyond_start : (n : ℕ) → IsLeastForWindow t f w n → length g.digits ≤ n
  not_beyond_start n enough = elim (cases_lt n (length g.digits)) [
    | inr l ↦ l
    | inl l ↦
        let d = deep m settled fits f is in
        let least_enough = (L.least T F (names m settled fits f is) (is_refused m.order) (box_of t w)
        (length f.digits) n (omega (arith, d, is.at_most_64))).0 enough in
        let held = least_enough.enough.holds_centre in
        let there = (L.levels T F (names m settled fits f is) held.0 held.1.0 (point_in m.order w.centre)
        held.2 n (omega (arith, d, l, h.is_frame.at_most_64))).1 held.1.1 in
        let same = level-holds t f n (at_depth t n f) (point_in m.order w.centre)
        (level-at t f is n enough.not_below (omega (arith, l, h.is_frame.at_most_64)))
        (at_depth-depth t f n (omega (arith, enough.not_below, is.holds_base))) in
        absurd (least n enough.not_below l (sym same ∙ there))
  ]

  module _ (tile : PlacedTile) (stands : Stands (tiling_of m) g tile)
      (holder : IsOnlyHolder (tiling_of m) g (point_in m.order w.centre) (placed_in m.order tile)) where
    abbrev x : TileOf t
    x = placed_in m.order tile

    meets : PolygonMeetsBox P.real (box_of t w) (polygon_of t x)
    meets = (
      test_point P.real.ops (box_of t w).centre,
      (0, refl),
      centre-in_box P.real L.points.of_real
          L.points.of_order (box_of t w) (omega (arith, fit.some_width)) (omega (arith, fit.some_height)),
      holder.here.holds,
    )

    pub refused-first : (value : Point) → value ≡ tile.motion.shift
        → is_refused m.order (point_in m.order tile.motion.shift) ≡ true → IsRefusedShift t g w value
    refused-first value same r = record {
      tile = x;
      of_frame = stands.in_frame.among;
      tile_meets = meets;
      its_shift = ap (point_in m.order) (sym same);
      value_in_order = subst (IsOf m.order) (sym same) stands.in_order;
      is_refused = r;
    }

    kept-within : IsCoverWithinLimits t f w → is_refused m.order (point_in m.order tile.motion.shift) ≡ false
    kept-within within =
        let d = within.drawn_within in
        let deeper = not_beyond_start d.depth d.least in
        let of = of_depth m settled fits L f is g h w fit tile stands holder least in
        let at = (L.lifted T F (names m settled fits f is) (is_refused m.order) d.depth d.least.within
        (u m settled fits L f is g h w fit tile stands holder least)).0
        (of.0, omega (arith, of.1, deeper)) in
        let there = (d.all_that_meet.meeting at.0 at.1).0 (subst (λ y. PolygonMeetsBox P.real (box_of t w) (polygon_of t y)) at.2 meets) in
        ap (λ (y : TileOf t). is_refused m.order y.motion.shift) at.2
        ∙ AllByRecursion-among (λ (y : TileOf t). is_refused m.order y.motion.shift ≡ false) at.0 d.drawn
        there d.none_refused

    pub answered_first : (c : Working) → length c.found ≡ 0 → IsCoverWithinLimits t f w
        → {U : Type 0} (r : Result U CoverFault) → IfErr r (IsNotAdmitted t c tile) → (r ≡ Err NoMemory)
        ⊎ IsOk r
    answered_first c none within (Ok y) why = inr refl
    answered_first c none within (Err (DepthLimit addr edge)) why = absurd why
    answered_first c none within (Err (CoordLimit value)) why = let k : true ≡ false = sym why.1 ∙ kept-within within in cc
    answered_first c none within (Err TooManyTiles) why = absurd (omega (arith, why.0, none))
    answered_first c none within (Err NoMemory) why = inl refl

    pub cause_first : (c : Working) → length c.found ≡ 0 → (fault : CoverFault) → IsNotAdmitted t c tile fault → HasCoverCause t f g w fault
    cause_first c none (DepthLimit addr edge) why = absurd why
    cause_first c none (CoordLimit value) why = inr (refused-first value why.0 why.1)
    cause_first c none TooManyTiles why = absurd (omega (arith, why.0, none))
    cause_first c none NoMemory why = tt
