-- The headline: what `neighbour` and `draw` promise of the plane.
use Rattle.std.specs.Prelude.{◌≡◌, ℕ, List, map}
use Rattle.theory_addresses.specs.Address.{Address}
use Rattle.layer_api.specs.declared.drawn.Drawn.{Drawn}
use Rattle.layer_api.specs.declared.format.Format.{Format}
use Rattle.theory_walks.specs.Frames.{FrameValue}
use Rattle.plane_geom.specs.declared.window.Window.{Window}
use Rattle.rule_model.specs.Tiling.{Tiling}
use Rattle.tile_place.specs.Crossed.{IsOnlyAcross}
use Rattle.tile_place.specs.declared.placed_tile.PlacedTile.{PlacedTile}
use Rattle.tile_app.specs.Draw.{view_of, texts_of}
use Rattle.tile_app.specs.DrawnTile.{drawn_of}
use Rattle.tile_app.specs.Neighbour.{neighbour_line}
use Rattle.tile_app.specs.Pictures.{AreDrawnWhole}
use Rattle.tile_app.specs.TilesOfWindow.{TilesOfWindow}

-- The text is the line of the only tile across the edge, with both tiles placed in their common supertile.
-- The edge of that tile leads back.
pub record TellsOnlyNeighbour (t : Tiling) (a : Address) (edge : ℕ) (text : List ℕ) : Type 0 where
  pub across : Address
  pub back : ℕ
  pub only_across : IsOnlyAcross t a edge across back
  pub leads_back : IsOnlyAcross t across back a edge
  pub line : text ≡ neighbour_line across back

-- The texts are those of exactly the tiles that meet the window. Each comes exactly once; they are disjoint
-- and cover the window. The base's frame has the least depth that is enough.
pub record WritesExactlyTheWindow (t : Tiling) (f : FrameValue) (window : Window) (formats : List Format)
    (text : List ℕ) : Type 0 where
  pub frame : FrameValue
  pub tiles : List PlacedTile
  pub exactly : TilesOfWindow t f window frame tiles
  pub texts : text ≡ texts_of (view_of t window) (map (drawn_of t) tiles) formats

-- The texts are those of the whole tiles of exactly the tiles that meet the window.
pub record WritesTheWholeTiles (t : Tiling) (f : FrameValue) (window : Window) (formats : List Format)
    (text : List ℕ) : Type 0 where
  pub frame : FrameValue
  pub tiles : List PlacedTile
  pub exactly : TilesOfWindow t f window frame tiles
  pub picture : List Drawn
  pub whole : AreDrawnWhole t window frame tiles picture
  pub texts : text ≡ texts_of (view_of t window) picture formats
