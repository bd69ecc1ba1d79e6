-- Why the search of a window is refused, and that its tiles, within the limits, can be drawn.
use Rattle.std.proofs.Common.{◌≡◌, ◌⊎◌, inl, inr, ◌<◌, ◌≤◌, ◌^◌, ℤ, Bool, false, List, map, length, Result, Ok, Err, IsOk, sym, ap, ◌∙◌, subst, arith}
use Rattle.std.specs.Prelude.{All}
use Rattle.std.proofs.lemmas.List.{length-map}
use Rattle.std.proofs.lemmas.List.Elements.{All-from_recursion, recursion_from_All}
use Rattle.theory_addresses.specs.Address.{Address}
use Rattle.theory_addresses.specs.Search.{IsAmong}
use Rattle.theory_addresses.proofs.Lists.{AllByRecursion-among, AllByRecursion-from, IsAmong-map}
use Rattle.cyclo_points.specs.Order.{points_of, is_refused}
use Rattle.cyclo_points.proofs.Refusal.{within-some_beyond, some_beyond-refused}
use Rattle.theory_frames.specs.Frame.{at_level}
use Rattle.theory_walks.specs.Ancestors.{full}
use Rattle.theory_walks.specs.Frames.{FrameValue, whole, IsFrameOf, GrowsTo}
use Rattle.lazy_walk.specs.Standing.{Stands}
use Rattle.theory_walks.proofs.Ancestors.{level-at}
use Rattle.theory_walks.proofs.Walks.{GrowsTo-is}
use Rattle.plane_geom.specs.declared.window.Window.{Window}
use Rattle.rule_model.specs.Tiling.{Tiling, children}
use Rattle.tile_place.specs.declared.placed_tile.PlacedTile.{PlacedTile}
use Rattle.tile_place.specs.Searched.{placed_in}
use Rattle.window_cover.specs.Limits.{IsCoverWithinLimits}
use Rattle.theory_windows.specs.Limits.{most_tiles}
use Rattle.window_cover.specs.Windows.{TileOf, box_of, AreDrawn, IsLeastForWindow}
use Rattle.theory_windows.specs.FramePatch.{frame_patch}
use Rattle.theory_windows.specs.FrameWindow.{AreAllThatMeet}
use Rattle.theory_windows.proofs.Members.{no-more}
use Rattle.cyclo_points.specs.declared.order.Order.{Order}
use Rattle.cyclo_points.specs.declared.point.Point.{Point}
use Rattle.cyclo_points.specs.Point.{point_in, quad_of, IsOf, IsWithin}
use Rattle.cyclo_points.specs.Reduced.{combination}
use Rattle.cyclo_points.proofs.Coefficients.{coefficients_of}
use Rattle.window_cover.specs.declared.cover_fault.CoverFault.{CoverFault}
use Rattle.window_cover.specs.declared.cover_fault.CoverFault.TheVariants.{DepthLimit, CoordLimit, TooManyTiles, NoMemory}
use Rattle.window_cover.specs.Causes.{HasCoverCause}
use Rattle.tile_app.specs.Draw.{EndsDrawing, DrawRefuses}
use Rattle.tile_app.specs.Windows.{reduced}
use Rattle.tile_app.specs.DrawnTile.{point_of_number, CanBeDrawn}
use Rattle.call_notes.specs.Status.{OrNoMemory}
use Rattle.call_notes.specs.FaultStatus.{status_of_cover}

-- a tile that stands in the frame with a shift that isn't refused
pub drawable_within : (t : Tiling) (g : FrameValue) (x : PlacedTile) → Stands t g x → IsWithin (2 ^ 24) x.motion.shift → CanBeDrawn t x
drawable_within t g x stands within = record {
  exists = subst (λ n. x.kind < n) (length-map t.rule.kinds _)
      (subst (λ k. k < length (children t)) (sym stands.its_kind) stands.of_frame.fits.kind_exists);
  turn_below = stands.turn_below;
  in_order = stands.in_order;
  within = within;
}

module _ (t : Tiling) (f g : FrameValue) (w : Window) (is_frame : IsFrameOf t f) (grown : GrowsTo t f g)
    (within : IsCoverWithinLimits t f w) (least : IsLeastForWindow t f w (length g.digits))
    (tiles : List PlacedTile) (drawn : AreDrawn t g w (map (placed_in t.order) tiles)) where
  -- the least enough depth is one
  same_depth : within.drawn_within.depth ≡ length g.digits
  same_depth =
      let h = within.drawn_within.least in
      let a = h.least (length g.digits) least.not_below least.within least.holds in
      let b = least.least within.drawn_within.depth h.not_below h.within h.holds in
      omega (arith, a, b)

  its_frame : at_level (full t f) within.drawn_within.depth ≡ whole g
  its_frame =
      ap (at_level (full t f)) same_depth ∙ level-at t f is_frame (length g.digits) grown.no_shallower
      grown.is_frame.at_most_64 ∙ ap whole (sym (GrowsTo-is t f g grown))

  -- so the tiles that the limits speak of are those drawn
  same_tiles : AreDrawn t g w within.drawn_within.drawn
  same_tiles =
      subst (λ (a : Address). AreAllThatMeet (points_of t.order).real (TileOf t)
      (frame_patch (points_of t.order) t.rule a) (box_of t w) within.drawn_within.drawn) its_frame
      within.drawn_within.all_that_meet

  unrefused : (x : TileOf t) → IsAmong x (map (placed_in t.order) tiles) → is_refused t.order x.motion.shift ≡ false
  unrefused x i =
      let here = AllByRecursion-among (λ y. IsAmong y
      (frame_patch (points_of t.order) t.rule (whole g)).tiles) x (map (placed_in t.order) tiles) i
      drawn.of_patch in
      AllByRecursion-among (λ (y : TileOf t). is_refused t.order y.motion.shift ≡ false) x
      within.drawn_within.drawn ((same_tiles.meeting x here).0 ((drawn.meeting x here).1 i))
      within.drawn_within.none_refused

  drawable : (x : PlacedTile) → IsAmong x tiles → Stands t g x → CanBeDrawn t x
  drawable x i stands =
      drawable_within t g x stands (within-some_beyond x.motion.shift
      (some_beyond-refused t.order x.motion.shift stands.in_order
      ∙ unrefused (placed_in t.order x) (IsAmong-map (placed_in t.order) x tiles i)))

  -- and no more than the limit
  pub at_most_limit : length tiles ≤ most_tiles
  at_most_limit =
      let most = no-more (map (placed_in t.order) tiles) within.drawn_within.drawn drawn.distinct among in
      let limit = within.drawn_within.not_too_many in
      omega (arith, most, limit, length-map tiles (placed_in t.order))
    where
      among : (x : TileOf t) → IsAmong x (map (placed_in t.order) tiles) → IsAmong x within.drawn_within.drawn
      among x i =
          let here = AllByRecursion-among (λ y. IsAmong y
          (frame_patch (points_of t.order) t.rule (whole g)).tiles) x (map (placed_in t.order) tiles) i
          drawn.of_patch in
          (same_tiles.meeting x here).0 ((drawn.meeting x here).1 i)

  pub can_be_drawn : All (Stands t g) tiles → All (CanBeDrawn t) tiles
  can_be_drawn stand =
      All-from_recursion (CanBeDrawn t) tiles (AllByRecursion-from (CanBeDrawn t) tiles
      (λ x i. drawable x i (AllByRecursion-among (Stands t g) x tiles i
      (recursion_from_All (Stands t g) tiles stand))))

-- ---- the window
pub reduced-is : (o : Order) (p q : Point) → length q.c ≡ 4 → IsOf o q → point_in o q ≡ combination (points_of o) (quad_of p) → q ≡ reduced o p
reduced-is o p q four of e = ap (λ (c : List ℤ). (let s : Point = record { c = c } in s)) (coefficients_of o q four of) ∙ ap (point_of_number o) e

-- ---- why it is refused
pub fault-or_ok : {T E : Type 0} (none : E) (r : Result T E) (fault : E) → r ≡ Err fault → (r ≡ Err none) ⊎ IsOk r → fault ≡ none
fault-or_ok {T} {E} none r fault e (inl f) = some_fault fault none (sym e ∙ f)
  where
    some_fault : (x y : E) → (let o : Result T E = Err x in o) ≡ Err y → x ≡ y
    some_fault x y e = cc
fault-or_ok {T} {E} none r fault e (inr f) = absurd (no_ok r fault e f)
  where
    no_ok : (r : Result T E) (x : E) → r ≡ Err x → IsOk r → ⊥
    no_ok (Ok y) x e f = absurd (cc e)
    no_ok (Err y) x e f = absurd (cc f)

module _ (asked : Bool) (t : Tiling) (w : Window) (f g : FrameValue) (grown : GrowsTo t f g) where
  ends : (fault : CoverFault) → HasCoverCause t f g w fault → (IsCoverWithinLimits t f w → ⊥) → EndsDrawing t f w fault
  ends fault cause beyond = record { beyond = beyond; frame = g; grown = grown; cause = cause }

  pub cover_refused : (fault : CoverFault) → HasCoverCause t f g w fault
      → (IsCoverWithinLimits t f w → fault ≡ NoMemory)
      → OrNoMemory (DrawRefuses asked t f w) (status_of_cover fault)
  cover_refused (DepthLimit addr edge) cause only = inl (ends (DepthLimit addr edge) cause (λ h. absurd (cc (only h))))
  cover_refused (CoordLimit value) cause only = inl (ends (CoordLimit value) cause (λ h. absurd (cc (only h))))
  cover_refused TooManyTiles cause only = ends TooManyTiles cause (λ h. absurd (cc (only h)))
  cover_refused NoMemory cause only = tt

  pub refused_if_err : {T : Type 0} (r : Result T CoverFault) (fault : CoverFault) → r ≡ Err fault
      → HasCoverCause t f g w fault → (IsCoverWithinLimits t f w → (r ≡ Err NoMemory) ⊎ IsOk r)
      → OrNoMemory (DrawRefuses asked t f w) (status_of_cover fault)
  refused_if_err r fault e cause answered = cover_refused fault cause (λ h. fault-or_ok NoMemory r fault e (answered h))
