-- Whole tiles lifted to the depth of a frame, as values of the program.
use Rattle.std.specs.Prelude.{◌≤◌, List, All, length, map, Option, None, Some}
use Rattle.theory_addresses.specs.Address as theory
use Rattle.theory_frames.specs.Frame.{lifted_in}
use Rattle.tile_place.specs.declared.placed_tile.PlacedTile.{PlacedTile}
use Rattle.tile_shape.specs.Views.{address_of, address_as}
use Rattle.theory_walks.specs.Frames.{FrameValue, whole}
use Rattle.half_glue.specs.declared.pairs.Pair.{Pair}
use Rattle.half_glue.specs.declared.whole_tile.WholeTile.{WholeTile}
use Rattle.half_glue.specs.Pairs.{ArePresent, loose_of}

-- the tile is no deeper than the frame
abbrev pub IsNoDeeper : FrameValue → PlacedTile → Type 0
IsNoDeeper f x = theory.depth (address_of x.addr) ≤ length f.digits

-- a tile lifted
abbrev pub lifted_to : FrameValue → PlacedTile → PlacedTile
lifted_to f x = record {
  kind = x.kind;
  motion = x.motion;
  addr = address_as (lifted_in (whole f) (address_of x.addr));
}

abbrev pub second_to : FrameValue → Option PlacedTile → Option PlacedTile
second_to f None = None
second_to f (Some b) = Some (lifted_to f b)

-- a whole tile with both its tiles lifted
abbrev pub whole_to : FrameValue → WholeTile → WholeTile
whole_to f w = record { first = lifted_to f w.first; second = second_to f w.second }

-- the whole tile of a pair of numbers
abbrev pub whole_of : FrameValue → List PlacedTile → Pair → WholeTile
whole_of f tiles p = whole_to f (loose_of tiles p)

-- the whole tiles of all pairs
abbrev pub wholes_of : FrameValue → List PlacedTile → List Pair → List WholeTile
wholes_of f tiles pairs = map (whole_of f tiles) pairs

-- the numbers of these pairs are those of tiles, and the tiles can be lifted to the frame's depth
pub record CanBeWholes (f : FrameValue) (tiles : List PlacedTile) (pairs : List Pair) : Type 0 where
  pub present : All (ArePresent (length tiles)) pairs
  pub no_deeper : All (IsNoDeeper f) tiles
