-- What is known of a tile given by the glue edge of its kind.
use Rattle.std.proofs.Common.{◌≡◌, ℕ, ◌<◌, List, All, length, get_or, Option, None, Some, Ok, refl, sym, ap, ◌∙◌, subst, arith}
use Rattle.std.proofs.lemmas.List.{get_or_default}
use Rattle.rule_model.specs.declared.rule.Rule.{Rule}
use Rattle.rule_model.specs.Glue.{IsOnlyGlueEdge}
use Rattle.rule_model.specs.Tiling.{Tiling, tiling_of}
use Rattle.tile_place.specs.declared.order_key.OrderKey.{OrderKey}
use Rattle.tile_place.specs.declared.placed_tile.PlacedTile.{PlacedTile}
use Rattle.theory_walks.specs.Frames.{FrameValue, IsFrameOf}
use Rattle.theory_walks.proofs.Walks.{GrowsTo-self}
use Rattle.half_glue.specs.declared.glue_side.GlueSide.{GlueSide}
use Rattle.half_glue.specs.declared.half.Found.{Found}
use Rattle.half_glue.specs.declared.half.Found.TheVariants.{Alone, Given}
use Rattle.half_glue.specs.Checked.{HasGlueLaws}
use Rattle.half_glue.specs.Ends.{FindsHalf}
use Rattle.half_glue.specs.Found.{no_tile, given_tile, KeyStandsBeside, AreGlued, IsJoined}
use Rattle.half_glue.specs.Given.{IsGiven}
use Rattle.half_glue.specs.Keys.{AreKeysOf}
use Rattle.half_glue.specs.Sides.{IsSide, IsSideOf, AreSides}
use Rattle.half_glue.specs.WholeTiles.{HasNoGlueEdge}
use Rattle.half_glue.proofs.Halves.{its-kind-there}
use Rattle.half_glue.proofs.LookUp.{given-glued}
use Rattle.half_glue.proofs.Settling.{settled-inside, settled-joined}

-- what is found while the frame stays as it is
pub found-at-once : (t : Tiling) (f : FrameValue) → IsFrameOf t f → (tiles : List PlacedTile) (x : PlacedTile)
    (found : Found) → IsJoined t f f tiles x found → FindsHalf t f f tiles x (Ok found)
found-at-once t f is tiles x found h = record {
  ends = record {
    frame = GrowsTo-self t f is;
    least = λ n l k. absurd (omega (arith, l, k));
    answered = λ can. refl;
    cause = tt;
  };
  joined = h;
}

module _ (m : Rule) (L : HasGlueLaws m) (f : FrameValue) (is : IsFrameOf (tiling_of m) f)
    (tiles : List PlacedTile) (given : All (IsGiven (tiling_of m) f) tiles) (sides : List (Option GlueSide))
    (are : AreSides (tiling_of m) sides) (number : ℕ) (below : number < length tiles) where
  abbrev t : Tiling
  t = tiling_of m

  abbrev y : PlacedTile
  y = given_tile tiles number

  own : IsGiven t f y
  own = given number no_tile below

  -- the tile that was read
  pub same-tile : (x : PlacedTile) → x ≡ get_or tiles number x → x ≡ y
  same-tile x e = e ∙ get_or_default tiles number x no_tile below

  kind-below : y.kind < length sides
  kind-below = subst (λ n. y.kind < n) (sym are.each_kind) (its-kind-there m L f is y own)

  module _ (x : PlacedTile) (read : x ≡ get_or tiles number x) where
    pub kind-there : x.kind < length sides
    kind-there = subst (λ (z : PlacedTile). z.kind < length sides) (sym (same-tile x read)) kind-below

    pub read-given : IsGiven t f x
    read-given = subst (IsGiven t f) (sym (same-tile x read)) own

    -- its side
    pub side-of : (k : ℕ) → k ≡ x.kind → (s : Option GlueSide) → get_or sides k None ≡ s → IsSideOf t y.kind s
    side-of k same s its = subst (IsSideOf t y.kind)
        (ap (λ n. get_or sides n None) (ap (λ (z : PlacedTile). z.kind) (sym (same-tile x read)) ∙ sym same)
        ∙ its) (are.each y.kind kind-below)

    pub only-of : (k : ℕ) → k ≡ x.kind → (s : GlueSide) → get_or sides k None ≡ Some s → IsOnlyGlueEdge t.rule x.kind s.edge
    only-of k same s its = subst (λ (z : PlacedTile). IsOnlyGlueEdge t.rule z.kind s.edge) (sym (same-tile x read)) (side-of k same (Some s) its).only

  -- one that has no glue edge
  pub none-joined : HasNoGlueEdge t y.kind → IsJoined t f f tiles y Alone
  none-joined none = record {
    found = none;
    inside = λ e glue on. absurd (none e glue);
    can_be_joined = record {
      inside = λ e glue on. absurd (none e glue);
      unrefused = λ e back b n glue over stands. absurd (none e glue);
    };
  }

  -- one whose other half is given
  module _ (keys : List OrderKey) (keyed : AreKeysOf tiles keys) (side : GlueSide)
      (its : IsSide t y.kind side) (n : ℕ) (there : KeyStandsBeside m.order side.other y.motion keys n) where
    given-found : (n < length tiles) × AreGlued t f y (given_tile tiles n)
    given-found = given-glued m L f is tiles given keys keyed y own side n its there

    pub given-joined : IsJoined t f f tiles y (Given n)
    given-joined =
        let other = given n no_tile given-found.0 in
        let grows = GrowsTo-self t f is in
        record {
          found = given-found;
          inside = settled-inside m L f is y own f grows (given_tile tiles n) other given-found.1;
          can_be_joined = settled-joined m L f is y own f grows (given_tile tiles n) other given-found.1;
        }
