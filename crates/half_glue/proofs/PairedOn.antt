-- Pairs that tiles have brought, when the frame grows.
use Rattle.std.proofs.Common.{inl, inr, ℕ, ◌≤◌, List, ◌++◌, All, length, map, get_or, Option, None, Some, arith}
use Rattle.rule_model.specs.declared.rule.Rule.{Rule}
use Rattle.rule_model.specs.Tiling.{Tiling, tiling_of}
use Rattle.tile_place.specs.declared.placed_tile.PlacedTile.{PlacedTile}
use Rattle.theory_walks.specs.Frames.{FrameValue, IsFrameOf, GrowsTo}
use Rattle.half_glue.specs.declared.pairs.Pair.{Pair}
use Rattle.half_glue.specs.declared.whole_tile.WholeTile.{WholeTile}
use Rattle.half_glue.specs.Checked.{HasGlueLaws}
use Rattle.half_glue.specs.Found.{no_tile, given_tile}
use Rattle.half_glue.specs.Given.{IsGiven}
use Rattle.half_glue.specs.Pairs.{loose_of, AreLoose, IsTaken}
use Rattle.half_glue.proofs.ArePaired.{ArePaired}
use Rattle.half_glue.proofs.Elements.{of-all}
use Rattle.half_glue.proofs.Settling.{given-on, glued-on}

module _ (m : Rule) (L : HasGlueLaws m) (now after : FrameValue) (is : IsFrameOf (tiling_of m) now)
    (up : GrowsTo (tiling_of m) now after) (tiles : List PlacedTile) where
  abbrev t : Tiling
  t = tiling_of m

  loose-on : (a : PlacedTile) (s : Option PlacedTile) → AreLoose t now a s → AreLoose t after a s
  loose-on a None h = (given-on m L now is a h.0 after up, h.1)
  loose-on a (Some b) h = (given-on m L now is a h.0 after up, given-on m L now is b h.1 after up, glued-on m L now is a h.0 after up b h.1 h.2, h.3)

  taken-on : (made : List WholeTile) (x : PlacedTile) → All (IsGiven t now) tiles → IsGiven t now x
      → IsTaken t now tiles made x → IsTaken t after tiles made x
  taken-on made x all own (inl h) = inl h
  taken-on made x all own (inr h) = inr (h.0, h.1, glued-on m L now is x own after up h.0 (of-all (IsGiven t now) tiles h.0 all h.1) h.2, h.3)

  -- tiles given are so on
  pub all-on : All (IsGiven t now) tiles → All (IsGiven t after) tiles
  all-on all k d l = given-on m L now is (get_or tiles k d) (all k d l) after up

  pub paired-on : (base i : ℕ) (crossed : List PlacedTile) (pairs : List Pair) → i ≤ length tiles
      → All (IsGiven t now) tiles → ArePaired t now tiles base i crossed pairs
      → ArePaired t after tiles base i crossed pairs
  paired-on base i crossed pairs within all h = record {
    few = h.few;
    few_crossed = h.few_crossed;
    given = λ k d l. given-on m L now is (get_or (tiles ++ crossed) k d) (h.given k d l) after up;
    present = h.present;
    loose = λ k d l. let w = h.loose k d l in record {
      glued = loose-on (get_or (map (loose_of (tiles ++ crossed)) pairs) k d).first
          (get_or (map (loose_of (tiles ++ crossed)) pairs) k d).second w.glued;
      of_given = w.of_given;
    };
    taken = λ k l. taken-on (map (loose_of (tiles ++ crossed)) pairs) (given_tile tiles k) all (all k no_tile (omega (arith, l, within)))
        (h.taken k l);
  }
