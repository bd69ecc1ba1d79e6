-- What a search among the tiles of a window finds of one of them.
use Rattle.std.proofs.Common.{◌≡◌, ℕ, ◌<◌, ◌^◌, List, length, get_or, slice_get, Option, None, Some, Ok, IfSome, sym, ◌∙◌, subst}
use Rattle.cyclo_points.specs.declared.motion.Motion.{Motion}
use Rattle.rule_model.specs.declared.rule.Rule.{Rule}
use Rattle.rule_model.specs.Tiling.{Tiling, tiling_of}
use Rattle.tile_place.specs.Motions.{IsMotionOf}
use Rattle.tile_place.specs.declared.placed_tile.PlacedTile.{PlacedTile}
use Rattle.theory_walks.specs.Frames.{FrameValue}
use Rattle.half_glue.specs.declared.glue_side.GlueSide.{GlueSide}
use Rattle.half_glue.specs.declared.half.Found.TheVariants.{Alone, Given}
use Rattle.half_glue.specs.declared.window_search.WindowSearch.{WindowSearch}
use Rattle.half_glue.specs.Checked.{HasGlueLaws}
use Rattle.half_glue.specs.Ends.{Finds}
use Rattle.half_glue.specs.Found.{given_tile, StandsAmong}
use Rattle.half_glue.specs.Given.{IsGiven, IsToFind, IsToJoin}
use Rattle.half_glue.specs.Searches.{IsWindowSearch}
use Rattle.half_glue.specs.Sides.{IsOtherSide, IsSideOf}
use Rattle.half_glue.proofs.AmongTiles.{kind-is, motion-is, tile-is, own-given, own-kind, own-side, own-only, half-joined}
use Rattle.half_glue.proofs.OtherHalves.{found-at-once, none-joined}

module _ (s : WindowSearch) (L : HasGlueLaws s.machine.now) (sought : IsWindowSearch s) (f : FrameValue) (n : ℕ)
    (find : IsToFind (tiling_of s.machine.now) f s.tiles.now n) where
  abbrev m : Rule
  m = s.machine.now

  abbrev t : Tiling
  t = tiling_of m

  abbrev tiles : List PlacedTile
  tiles = s.tiles.now

  own : IsGiven t f (given_tile tiles n)
  own = own-given m L f find.to_glue.frame tiles find.to_glue.given s.sides.now sought.sides n find.below

  -- its motion, as it was read
  module _ (v : Motion) (motion : IfSome (slice_get tiles n) (λ x. v ≡ x.motion)) where
    pub motion-fits : IsMotionOf m.order (2 ^ 24) v
    motion-fits = subst (IsMotionOf m.order (2 ^ 24)) (sym (motion-is tiles n find.below v motion))
        (record { turn_below = own.turn_below; within = own.within; in_order = own.in_order })

  -- its kind, as it was read
  module _ (k : ℕ) (kind : IfSome (slice_get tiles n) (λ x. k ≡ x.kind)) (i : ℕ) (same : i ≡ k) where
    its-kind : i ≡ (given_tile tiles n).kind
    its-kind = same ∙ kind-is tiles n find.below k kind

    pub kind-below : i < length s.sides.now
    kind-below = subst (λ j. j < length s.sides.now) (sym its-kind)
        (own-kind m L f find.to_glue.frame tiles find.to_glue.given s.sides.now sought.sides n find.below)

    its-side : (o : Option GlueSide) → get_or s.sides.now i None ≡ o → IsSideOf t (given_tile tiles n).kind o
    its-side o is = own-side m L f find.to_glue.frame tiles find.to_glue.given s.sides.now sought.sides n find.below i its-kind o is

    pub found-alone : get_or s.sides.now i None ≡ None → Finds t f f tiles n (Ok Alone)
    found-alone none = found-at-once t f find.to_glue.frame tiles (given_tile tiles n) Alone
        (none-joined m L f find.to_glue.frame tiles find.to_glue.given s.sides.now sought.sides n find.below (its-side None none))

    -- its glue edge
    module _ (side : GlueSide) (is : get_or s.sides.now i None ≡ Some side) where
      pub other-right : IfSome side.other (IsOtherSide t k side.edge)
      other-right = subst (λ j. IfSome side.other (IsOtherSide t j side.edge)) (sym (kind-is tiles n find.below k kind))
          (its-side (Some side) is).other

      pub found-among : (v : Motion) → IfSome (slice_get tiles n) (λ x. v ≡ x.motion) → (j : ℕ)
          → StandsAmong m.order side.other v tiles j → Finds t f f tiles n (Ok (Given j))
      found-among v motion j there = found-at-once t f find.to_glue.frame tiles (given_tile tiles n) (Given j)
          (half-joined m L f find.to_glue.frame tiles find.to_glue.given s.sides.now sought.sides n find.below side
          (its-side (Some side) is) j
          (subst (λ w. StandsAmong m.order side.other w tiles j) (motion-is tiles n find.below v motion) there))

      pub to-cross : (x : PlacedTile) → slice_get tiles n ≡ Some x → IsToJoin t f x side.edge
      to-cross x read = subst (λ (y : PlacedTile). IsToJoin t f y side.edge) (tile-is tiles n find.below x read) (record {
        frame = find.to_glue.frame;
        given = own;
        glue_edge = own-only m L f find.to_glue.frame tiles find.to_glue.given s.sides.now sought.sides n find.below i its-kind side is;
      })
