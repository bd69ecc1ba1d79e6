-- Whole tiles of the tiles of a window: that they can be drawn, when the window's tiles can be glued, and why they aren't.
use Rattle.std.proofs.Common.{◌≡◌, ◌⊎◌, inr, ◌^◌, Bool, true, List, Option, None, Some, map, length, get_or, Result, Err, IsOk, sym, ap, ◌∙◌, subst, arith}
use Rattle.std.specs.Prelude.{All}
use Rattle.std.proofs.lemmas.List.Elements.{All-from_recursion, recursion_from_All}
use Rattle.theory_addresses.specs.Address.{Address}
use Rattle.theory_addresses.specs.Search.{IsAmong}
use Rattle.theory_addresses.proofs.Lists.{AllByRecursion-among, AllByRecursion-from, IsAmong-map}
use Rattle.cyclo_points.specs.Point.{IsWithin}
use Rattle.theory_frames.specs.Frame.{lifted_in}
use Rattle.half_glue.specs.declared.glue_fault.GlueFault.{GlueFault}
use Rattle.half_glue.specs.declared.glue_fault.GlueFault.TheVariants.{DepthLimit, CoordLimit, NoMemory}
use Rattle.half_glue.specs.declared.whole_tile.WholeTile.{WholeTile}
use Rattle.half_glue.specs.Causes.{HasGlueCause}
use Rattle.half_glue.specs.Given.{IsGiven, AreGiven}
use Rattle.half_glue.specs.Limits.{CanBeJoined, CanBeGlued}
use Rattle.half_glue.specs.Outline.{parts_by, FirstGlueEdgeLaw}
use Rattle.half_glue.specs.Parts.{HasPartsWithin}
use Rattle.half_glue.specs.WholeTiles.{IsWholeBy, AreWholeTilesOf}
use Rattle.theory_walks.specs.Ancestors.{full}
use Rattle.theory_walks.specs.Boundary.{IsBoundaryEdge}
use Rattle.theory_walks.specs.Frames.{FrameValue, whole, at_depth, GrowsTo}
use Rattle.theory_walks.specs.Paths.{Crosses}
use Rattle.lazy_walk.specs.Standing.{Stands}
use Rattle.theory_walks.proofs.Walks.{GrowsTo-is}
use Rattle.plane_geom.specs.declared.window.Window.{Window}
use Rattle.rule_model.specs.Glue.{IsGlueEdge}
use Rattle.rule_model.specs.Tiling.{Tiling}
use Rattle.cyclo_points.specs.Order.{points_of}
use Rattle.tile_place.specs.declared.placed_tile.PlacedTile.{PlacedTile}
use Rattle.tile_place.specs.Searched.{placed_in}
use Rattle.tile_shape.specs.Views.{address_of}
use Rattle.theory_windows.specs.FramePatch.{frame_patch}
use Rattle.theory_windows.proofs.Members.{among-map}
use Rattle.window_cover.specs.Limits.{IsCoverWithinLimits}
use Rattle.window_cover.specs.Windows.{TileOf, AreDrawn, IsLeastForWindow}
use Rattle.tile_app.specs.Draw.{EndsGluing, DrawRefuses}
use Rattle.tile_app.specs.TilesOfWindow.{TilesOfWindow}
use Rattle.tile_app.specs.DrawnTile.{CanBeDrawn, CanBeDrawnBy, CanBeDrawnWhole}
use Rattle.tile_app.specs.Glue.{CanBeGluedInWindow}
use Rattle.call_notes.specs.Status.{OrNoMemory}
use Rattle.call_notes.specs.FaultStatus.{status_of_glue}
use Rattle.tile_app.proofs.Covering.{drawable_within, fault-or_ok}

-- ---- whole tiles can be drawn
module _ (t : Tiling) (g : FrameValue) (first : FirstGlueEdgeLaw t) where
  drawn-by : (a : PlacedTile) (second : Option PlacedTile) → IsWholeBy t g a second
      → All (λ x. IsWithin (2 ^ 24) x.motion.shift) (parts_by a second) → CanBeDrawnBy t a second
  drawn-by a None w within = drawable_within t g a w.0 (within 0 a (omega arith))
  drawn-by a (Some b) w within = (
    record {
      can = drawable_within t g a w.0 (within 0 a (omega arith));
      edge = w.2.edge;
      glue_edge = w.2.glue_edge;
      first = first a.kind w.2.edge w.2.glue_edge;
    },
    record {
      can = drawable_within t g b w.1 (within 1 b (omega arith));
      edge = w.2.its_edge;
      glue_edge = w.2.its_glue_edge;
      first = first b.kind w.2.its_edge w.2.its_glue_edge;
    },
  )

  pub wholes-drawn : (tiles : List PlacedTile) (wholes : List WholeTile) → AreWholeTilesOf t g tiles wholes
      → All HasPartsWithin wholes → All (CanBeDrawnWhole t) wholes
  wholes-drawn tiles wholes h within = λ i d l. let w = get_or wholes i d in drawn-by w.first w.second (h.whole i d l) (within i d l)

-- ---- tiles drawn may be given to be glued
pub may-be-given : (t : Tiling) (g : FrameValue) (tiles : List PlacedTile)
    → ((x : PlacedTile) → Stands t g x → IsWithin (2 ^ 24) x.motion.shift → IsGiven t g x)
    → All (Stands t g) tiles → All (CanBeDrawn t) tiles → AreGiven t g tiles
may-be-given t g tiles law stand can = λ i d l. law (get_or tiles i d) (stand i d l) (can i d l).within

-- ---- where the tiles found can be glued, the window's can, since these are all the lists of them
module _ (t : Tiling) where
  -- a tile of the same kind and address is joined alike
  joined-alike : (f : Address) (x y : PlacedTile) → x.kind ≡ y.kind → address_of x.addr ≡ address_of y.addr → CanBeJoined t f x → CanBeJoined t f y
  joined-alike f x y kind address can = record {
    inside = λ e glue. subst (λ a. ¬ IsBoundaryEdge t (lifted_in f a) e) address (can.inside e (subst (λ k. IsGlueEdge t.rule k e) (sym kind) glue));
    unrefused = λ e back b m glue over stands.
        can.unrefused e back b m (subst (λ k. IsGlueEdge t.rule k e) (sym kind) glue)
        (subst (λ a. Crosses t (lifted_in f a) e b back) (sym address) over) stands;
  }

  module _ (f g : FrameValue) (w : Window) (grown : GrowsTo t f g)
      (least : IsLeastForWindow t f w (length g.digits)) (tiles : List PlacedTile)
      (stand : All (Stands t g) tiles)
      (drawn : AreDrawn t g w (map (placed_in t.order) tiles)) (can : CanBeGlued t g tiles) where
    -- another frame of the least enough depth is the same
    same-frame : (h : FrameValue) → GrowsTo t f h → IsLeastForWindow t f w (length h.digits) → g ≡ h
    same-frame h up its_least = GrowsTo-is t f g grown ∙ ap (λ n. at_depth t n f) depths ∙ sym (GrowsTo-is t f h up)
      where
        depths : length g.digits ≡ length h.digits
        depths =
            let a = least.least (length h.digits) its_least.not_below its_least.within its_least.holds in
            let b = its_least.least (length g.digits) least.not_below least.within least.holds in
            omega (arith, a, b)

    one-glued : (others : List PlacedTile) → All (Stands t g) others
        → AreDrawn t g w (map (placed_in t.order) others) → (y : PlacedTile) → IsAmong y others
        → CanBeJoined t (full t g) y
    one-glued others its_stand its_drawn y i =
        let p = placed_in t.order y in
        let there = IsAmong-map (placed_in t.order) y others i in
        let of_patch = AllByRecursion-among (λ (z : TileOf t). IsAmong z
        (frame_patch (points_of t.order) t.rule (whole g)).tiles) p (map (placed_in t.order) others) there
        its_drawn.of_patch in
        let found = among-map (placed_in t.order) p tiles ((drawn.meeting p of_patch).0 ((its_drawn.meeting p of_patch).1 there)) in
        let x = found.0 in
        let address : address_of y.addr ≡ address_of x.addr = ap (λ (z : TileOf t). z.address) found.2 in
        let sx : Stands t g x = AllByRecursion-among (Stands t g) x tiles found.1 (recursion_from_All (Stands t g) tiles stand) in
        let sy : Stands t g y = AllByRecursion-among (Stands t g) y others i (recursion_from_All (Stands t g) others its_stand) in
        joined-alike (full t g) x y (sx.its_kind ∙ ap (λ (a : Address). a.kind) (sym address) ∙ sym sy.its_kind) (sym address)
        (AllByRecursion-among (CanBeJoined t (full t g)) x tiles found.1 (recursion_from_All (CanBeJoined t (full t g)) tiles can))

    all-glued : (others : List PlacedTile) → All (Stands t g) others → AreDrawn t g w (map (placed_in t.order) others) → CanBeGlued t g others
    all-glued others its_stand its_drawn =
        All-from_recursion (CanBeJoined t (full t g)) others
        (AllByRecursion-from (CanBeJoined t (full t g)) others (one-glued others its_stand its_drawn))

    pub glued-in_window : CanBeGluedInWindow t f w
    glued-in_window = λ h others up its_least its_stand its_drawn.
        let same = same-frame h up its_least in
        subst (λ x. CanBeGlued t x others) same
        (all-glued others (subst (λ x. All (Stands t x) others) (sym same) its_stand)
        (subst (λ x. AreDrawn t x w (map (placed_in t.order) others)) (sym same) its_drawn))

-- ---- why they aren't glued
module _ (asked : Bool) (t : Tiling) (w : Window) (is_asked : asked ≡ true) (f g : FrameValue)
    (within : IsCoverWithinLimits t f w) (tiles : List PlacedTile) (exactly : TilesOfWindow t f w g tiles)
    (h : FrameValue) (grown_on : GrowsTo t g h) where
  ends : (fault : GlueFault) → HasGlueCause t g h tiles fault → (CanBeGlued t g tiles → ⊥) → EndsGluing asked t f w fault
  ends fault cause beyond = record {
    is_asked = is_asked;
    within = within;
    frame = g;
    tiles = tiles;
    exactly = exactly;
    beyond = beyond;
    later = h;
    grown_on = grown_on;
    cause = cause;
  }

  glue_refused : (fault : GlueFault) → HasGlueCause t g h tiles fault
      → (CanBeGlued t g tiles → fault ≡ NoMemory)
      → OrNoMemory (DrawRefuses asked t f w) (status_of_glue fault)
  glue_refused (DepthLimit addr edge) cause only = inr (ends (DepthLimit addr edge) cause (λ can. absurd (cc (only can))))
  glue_refused (CoordLimit value) cause only = inr (ends (CoordLimit value) cause (λ can. absurd (cc (only can))))
  glue_refused NoMemory cause only = tt

  pub glue_refused_if_err : {T : Type 0} (r : Result T GlueFault) (fault : GlueFault) → r ≡ Err fault
      → HasGlueCause t g h tiles fault → (CanBeGlued t g tiles → (r ≡ Err NoMemory) ⊎ IsOk r)
      → OrNoMemory (DrawRefuses asked t f w) (status_of_glue fault)
  glue_refused_if_err r fault e cause answered = glue_refused fault cause (λ can. fault-or_ok NoMemory r fault e (answered can))
