-- What `draw` prints of a window in a frame, and what it refuses.
use Rattle.std.specs.Prelude.{◌≡◌, ◌⊎◌, ℕ, Bool, true, List, length}
use Rattle.std.specs.List.{flat_map}
use Rattle.half_glue.specs.declared.glue_fault.GlueFault.{GlueFault}
use Rattle.half_glue.specs.declared.glue_fault.GlueFault.TheVariants as glue
use Rattle.half_glue.specs.Causes.{HasGlueCause}
use Rattle.half_glue.specs.Limits.{CanBeGlued}
use Rattle.layer_api.specs.declared.drawn.Drawn.{Drawn}
use Rattle.layer_api.specs.declared.format.Format.{Format}
use Rattle.layer_api.specs.declared.view.View.{View}
use Rattle.layer_api.specs.LayerText.{layer_text}
use Rattle.theory_walks.specs.Frames.{FrameValue, GrowsTo}
use Rattle.plane_geom.specs.declared.window.Window.{Window}
use Rattle.rule_model.specs.Tiling.{Tiling}
use Rattle.tile_place.specs.declared.placed_tile.PlacedTile.{PlacedTile}
use Rattle.window_cover.specs.declared.cover_fault.CoverFault.{CoverFault}
use Rattle.window_cover.specs.declared.cover_fault.CoverFault.TheVariants as cover
use Rattle.window_cover.specs.Causes.{HasCoverCause}
use Rattle.window_cover.specs.Limits.{IsCoverWithinLimits}
use Rattle.call_notes.specs.declared.status.Status.{Status}
use Rattle.call_notes.specs.declared.status.Status.TheVariants.{DepthLimit, CoordLimit, TooManyTiles}
use Rattle.tile_app.specs.Glue.{IsWithinTheirLimits}
use Rattle.tile_app.specs.Pictures.{IsPictureOf}
use Rattle.tile_app.specs.TilesOfWindow.{TilesOfWindow}

-- what is seen of a tiling in a window
abbrev pub view_of : Tiling → Window → View
view_of t window = record {
  order = t.order;
  centre = window.centre;
  w = window.w;
  h = window.h;
  kinds = length t.rule.kinds;
}

-- the texts of some formats for these tiles, one behind the other
abbrev pub texts_of : View → List Drawn → List Format → List ℕ
texts_of view tiles formats = flat_map (λ f. layer_text f view tiles) formats

-- The window can be drawn as it is asked for. In the frame these are the tiles of the window; and this is
-- their picture: of these tiles, or with glue of the whole tiles of theirs.
pub record Pictures (glue : Bool) (t : Tiling) (f : FrameValue) (window : Window)
    (picture : List Drawn) : Type 0 where
  pub within : IsWithinTheirLimits glue t f window
  pub frame : FrameValue
  pub tiles : List PlacedTile
  pub exactly : TilesOfWindow t f window frame tiles
  pub is_picture : IsPictureOf glue t window frame tiles picture

-- the text is that of each format, one behind the other, for the window and its picture
pub record PrintsDraw (glue : Bool) (formats : List Format) (t : Tiling) (f : FrameValue) (window : Window)
    (text : List ℕ) : Type 0 where
  pub picture : List Drawn
  pub pictures : Pictures glue t f window picture
  pub is_text : text ≡ texts_of (view_of t window) picture formats

-- the window can't be drawn as it is asked for: it isn't within the limits of the frame, or with glue its
-- tiles can't be glued
abbrev pub PassesLimits : Bool → Tiling → FrameValue → Window → Type 0
PassesLimits glue t f window = IsWithinTheirLimits glue t f window → ⊥

-- the window isn't within the limits of the frame; and the search for its tiles, in the frame as it had grown
-- then, has this cause to end
pub record EndsDrawing (t : Tiling) (f : FrameValue) (window : Window) (fault : CoverFault) : Type 0 where
  pub beyond : IsCoverWithinLimits t f window → ⊥
  pub frame : FrameValue
  pub grown : GrowsTo t f frame
  pub cause : HasCoverCause t f frame window fault

-- whole tiles are asked for, and the window is within the limits of the frame, but not all of its tiles, at
-- the least enough depth, can be glued; and the gluing, in the frame as it had grown on then, has this cause
-- to end
pub record EndsGluing (asked : Bool) (t : Tiling) (f : FrameValue) (window : Window)
    (fault : GlueFault) : Type 0 where
  pub is_asked : asked ≡ true
  pub within : IsCoverWithinLimits t f window
  pub frame : FrameValue
  pub tiles : List PlacedTile
  pub exactly : TilesOfWindow t f window frame tiles
  pub beyond : CanBeGlued t frame tiles → ⊥
  pub later : FrameValue
  pub grown_on : GrowsTo t frame later
  pub cause : HasGlueCause t frame later tiles fault

-- why `draw` refuses a window: for each status its cause
abbrev pub DrawRefuses : Bool → Tiling → FrameValue → Window → Status → Type 0
DrawRefuses asked t f window (DepthLimit addr edge) = EndsDrawing t f window (cover.DepthLimit addr edge)
    ⊎ EndsGluing asked t f window (glue.DepthLimit addr edge)
DrawRefuses asked t f window (CoordLimit value) = EndsDrawing t f window (cover.CoordLimit value)
    ⊎ EndsGluing asked t f window (glue.CoordLimit value)
DrawRefuses asked t f window TooManyTiles = EndsDrawing t f window cover.TooManyTiles
DrawRefuses asked t f window _ = ⊥
