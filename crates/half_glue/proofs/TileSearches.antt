-- What a search among given tiles finds of one of them.
use Rattle.std.proofs.Common.{◌≡◌, ℕ, ◌<◌, ◌^◌, List, length, get_or, Option, None, Some, Ok, IfSome, sym, subst}
use Rattle.std.proofs.lemmas.List.{get_or_default}
use Rattle.rule_model.specs.declared.rule.Rule.{Rule}
use Rattle.rule_model.specs.Tiling.{Tiling, tiling_of}
use Rattle.tile_place.specs.Motions.{IsMotionOf}
use Rattle.tile_place.specs.declared.placed_tile.PlacedTile.{PlacedTile}
use Rattle.theory_walks.specs.Frames.{FrameValue}
use Rattle.half_glue.specs.declared.glue_side.GlueSide.{GlueSide}
use Rattle.half_glue.specs.declared.half.Found.TheVariants.{Alone, Given}
use Rattle.half_glue.specs.declared.tile_search.TileSearch.{TileSearch}
use Rattle.half_glue.specs.Checked.{HasGlueLaws}
use Rattle.half_glue.specs.Ends.{Finds}
use Rattle.half_glue.specs.Found.{given_tile, KeyStandsBeside}
use Rattle.half_glue.specs.Given.{IsGiven, IsToFind, IsToJoin}
use Rattle.half_glue.specs.Searches.{IsTileSearch}
use Rattle.half_glue.specs.Sides.{IsOtherSide, IsSideOf}
use Rattle.half_glue.proofs.OtherHalves.{same-tile, kind-there, read-given, side-of, only-of, found-at-once, none-joined, given-joined}

module _ (s : TileSearch) (L : HasGlueLaws s.machine.now) (sought : IsTileSearch s) (f : FrameValue) (n : ℕ)
    (find : IsToFind (tiling_of s.machine.now) f s.tiles.now n) (d : PlacedTile) where
  abbrev m : Rule
  m = s.machine.now

  abbrev t : Tiling
  t = tiling_of m

  abbrev tiles : List PlacedTile
  tiles = s.tiles.now

  -- the tile that was read
  abbrev x : PlacedTile
  x = get_or tiles n d

  read : x ≡ get_or tiles n x
  read = get_or_default tiles n d x find.below

  pub as-given : x ≡ given_tile tiles n
  as-given = same-tile m L f find.to_glue.frame tiles find.to_glue.given s.sides.now sought.sides n find.below x read

  own : IsGiven t f x
  own = read-given m L f find.to_glue.frame tiles find.to_glue.given s.sides.now sought.sides n find.below x read

  pub motion-fits : IsMotionOf m.order (2 ^ 24) x.motion
  motion-fits = record { turn_below = own.turn_below; within = own.within; in_order = own.in_order }

  module _ (i : ℕ) (same : i ≡ x.kind) where
    pub kind-below : i < length s.sides.now
    kind-below = subst (λ j. j < length s.sides.now) (sym same)
        (kind-there m L f find.to_glue.frame tiles find.to_glue.given s.sides.now sought.sides n find.below x read)

    its-side : (o : Option GlueSide) → get_or s.sides.now i None ≡ o → IsSideOf t (given_tile tiles n).kind o
    its-side o is = side-of m L f find.to_glue.frame tiles find.to_glue.given s.sides.now sought.sides n find.below x read i same o is

    pub found-alone : get_or s.sides.now i None ≡ None → Finds t f f tiles n (Ok Alone)
    found-alone none = found-at-once t f find.to_glue.frame tiles (given_tile tiles n) Alone
        (none-joined m L f find.to_glue.frame tiles find.to_glue.given s.sides.now sought.sides n find.below (its-side None none))

    -- its glue edge
    module _ (side : GlueSide) (is : get_or s.sides.now i None ≡ Some side) where
      pub other-right : IfSome side.other (IsOtherSide t x.kind side.edge)
      other-right = subst (λ (y : PlacedTile). IfSome side.other (IsOtherSide t y.kind side.edge)) (sym as-given)
          (its-side (Some side) is).other

      pub found-given : (j : ℕ) → KeyStandsBeside m.order side.other x.motion s.keys.now j → Finds t f f tiles n (Ok (Given j))
      found-given j there = found-at-once t f find.to_glue.frame tiles (given_tile tiles n) (Given j)
          (given-joined m L f find.to_glue.frame tiles find.to_glue.given s.sides.now sought.sides n find.below
          s.keys.now sought.keys side (its-side (Some side) is) j
          (subst (λ (y : PlacedTile). KeyStandsBeside m.order side.other y.motion s.keys.now j) as-given there))

      pub to-cross : IsToJoin t f x side.edge
      to-cross = record {
        frame = find.to_glue.frame;
        given = own;
        glue_edge = only-of m L f find.to_glue.frame tiles find.to_glue.given s.sides.now sought.sides n find.below x read i same side is;
      }
