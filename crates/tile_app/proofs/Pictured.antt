-- The picture of a window's tiles, and that of their whole tiles.
use Rattle.std.proofs.Common.{◌≡◌, Bool, true, false, List, map, length, get_or, refl, sym, subst}
use Rattle.half_glue.specs.declared.whole_tile.WholeTile.{WholeTile}
use Rattle.half_glue.specs.Covering.{WholesCoverLaw}
use Rattle.half_glue.specs.Depth.{IsLeastForGlue}
use Rattle.half_glue.specs.InOrder as glued
use Rattle.half_glue.specs.Limits.{CanBeGlued}
use Rattle.half_glue.specs.Outline.{WholesCountLaw}
use Rattle.half_glue.specs.WholeTiles.{AreWholeTilesOf}
use Rattle.layer_api.specs.declared.drawn.Drawn.{Drawn}
use Rattle.theory_walks.specs.Frames.{FrameValue, GrowsTo}
use Rattle.plane_geom.specs.declared.window.Window.{Window}
use Rattle.rule_model.specs.Tiling.{Tiling}
use Rattle.tile_place.specs.declared.placed_tile.PlacedTile.{PlacedTile}
use Rattle.window_cover.specs.Limits.{IsCoverWithinLimits}
use Rattle.window_cover.specs.Windows.{box_of}
use Rattle.tile_app.specs.Draw.{Pictures}
use Rattle.tile_app.specs.DrawnTile.{drawn_of, drawn_whole}
use Rattle.tile_app.specs.Glue.{CanBeGluedInWindow}
use Rattle.tile_app.specs.Pictures.{IsPictureOf, AreDrawnWhole}
use Rattle.tile_app.specs.TilesOfWindow.{TilesOfWindow}
use Rattle.tile_app.proofs.Gluing.{glued-in_window}

module _ (glue : Bool) (t : Tiling) (w : Window) (f g : FrameValue) (within : IsCoverWithinLimits t f w)
    (tiles : List PlacedTile) (exactly : TilesOfWindow t f w g tiles) where
  pictures : (picture : List Drawn) → (glue ≡ true → CanBeGluedInWindow t f w) → IsPictureOf glue t w g tiles picture → Pictures glue t f w picture
  pictures picture can_be_glued is_picture = record {
    within = record { within = within; can_be_glued = can_be_glued };
    frame = g;
    tiles = tiles;
    exactly = exactly;
    is_picture = is_picture;
  }

  -- without glue the window's tiles
  pub pictures-tiles : glue ≡ false → Pictures glue t f w (map (drawn_of t) tiles)
  pictures-tiles asked =
      pictures (map (drawn_of t) tiles) (λ e. absurd (cc (asked, e)))
      (subst (λ b. IsPictureOf b t w g tiles (map (drawn_of t) tiles)) (sym asked) refl)

  -- and with glue the whole tiles of theirs, by the laws of whole tiles
  module _ (asked : glue ≡ true) (counts : WholesCountLaw t) (covering : WholesCoverLaw t) (h : FrameValue)
      (grown_on : GrowsTo t g h) (depth : IsLeastForGlue t g tiles (length h.digits))
      (can : CanBeGlued t g tiles) (wholes : List WholeTile) (whole_tiles : AreWholeTilesOf t h tiles wholes)
      (ordered : glued.AreWholesInOrder wholes) where
    are-whole : AreDrawnWhole t w g tiles (map (drawn_whole t) wholes)
    are-whole = record {
      can_be_glued = can;
      glued_frame = h;
      grown = grown_on;
      least = depth;
      wholes = wholes;
      whole_tiles = whole_tiles;
      in_order = ordered;
      count_as_parts = λ i d l. counts h (get_or wholes i d) grown_on.is_frame (whole_tiles.whole i d l);
      cover = covering g h (box_of t w) tiles wholes exactly.grown.is_frame grown_on exactly.stand exactly.covered whole_tiles ordered;
      is_picture = refl;
    }

    pub pictures-wholes : Pictures glue t f w (map (drawn_whole t) wholes)
    pictures-wholes =
        pictures (map (drawn_whole t) wholes) (λ _. glued-in_window t f g w exactly.grown exactly.least tiles exactly.stand exactly.drawn can)
        (subst (λ b. IsPictureOf b t w g tiles (map (drawn_whole t) wholes)) (sym asked) are-whole)
