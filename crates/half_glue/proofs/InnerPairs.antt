-- Whole tiles whose tiles are all tiles of a window.
use Rattle.std.proofs.Common.{◌≡◌, inl, ℕ, ◌<◌, ℤ, pos, Bool, true, false, List, ◌++◌, All, length, take, get_or, Option, None, Some, IfSome, IsTrue, refl, sym, ap, ◌∙◌, subst, arith}
use Rattle.std.specs.List.{Contains}
use Rattle.std.proofs.lemmas.List.{get_or-take, get_or_append_left, get_or_default}
use Rattle.std.proofs.lemmas.Option.{slice_get_within, get_or_from_slice_get}
use Rattle.cyclo_points.specs.declared.motion.Motion.{Motion}
use Rattle.cyclo_points.specs.declared.order.Order.{Order}
use Rattle.rule_model.specs.declared.rule.Rule.{Rule}
use Rattle.rule_model.specs.Tiling.{Tiling, tiling_of}
use Rattle.tile_place.specs.Keys.{order_numbers}
use Rattle.tile_place.specs.declared.placed_tile.PlacedTile.{PlacedTile}
use Rattle.theory_walks.specs.Frames.{FrameValue, IsFrameOf}
use Rattle.window_cover.specs.InOrder.{AreInOrder, numbers_placed}
use Rattle.theory_windows.proofs.Members.{same_whole}
use Rattle.half_glue.specs.declared.glue_side.GlueSide.{GlueSide}
use Rattle.half_glue.specs.declared.glue_side.OtherSide.{OtherSide}
use Rattle.half_glue.specs.declared.pairs.Pair.{Pair}
use Rattle.half_glue.specs.declared.window_search.WindowSearch.{WindowSearch}
use Rattle.half_glue.specs.Checked.{HasGlueLaws}
use Rattle.half_glue.specs.Found.{no_tile, given_tile, StandsAmong}
use Rattle.half_glue.specs.Given.{AreGiven, AreToGlue}
use Rattle.half_glue.specs.Inner.{IsInnerPair}
use Rattle.half_glue.specs.Searches.{IsTilePlaced, IsWindowSearch}
use Rattle.half_glue.specs.Sides.{IsOtherSide, IsSideOf, AreSides}
use Rattle.half_glue.proofs.AmongTiles.{own-side, half-found}
use Rattle.half_glue.proofs.Halves.{its-kind-there}

-- tiles given are placed
pub are-placed : (m : Rule) → HasGlueLaws m → (f : FrameValue) → IsFrameOf (tiling_of m) f
    → (tiles : List PlacedTile) → AreGiven (tiling_of m) f tiles → All (IsTilePlaced (tiling_of m)) tiles
are-placed m L f is tiles given k d l =
    let own = given k d l in
    record {
      kind_exists = its-kind-there m L f is (get_or tiles k d) own;
      motion = record { turn_below = own.turn_below; within = own.within; in_order = own.in_order };
    }

-- tiles that are to be glued, and in order, may be searched
pub window-search : (s : WindowSearch) → HasGlueLaws s.machine.now → (f : FrameValue)
    → AreToGlue (tiling_of s.machine.now) f s.tiles.now → AreInOrder s.tiles.now
    → AreSides (tiling_of s.machine.now) s.sides.now → IsWindowSearch s
window-search s L f given ordered sides = record {
  few = given.few;
  placed = are-placed s.machine.now L f given.frame s.tiles.now given.given;
  in_order = ordered;
  sides = sides;
}

-- ---- the place of another half
-- is that of a tile, of the kind that the other half has
pub among-below : (o : Order) (s : Option OtherSide) (own : Motion) (tiles : List PlacedTile) (n : ℕ) → StandsAmong o s own tiles n → n < length tiles
among-below o None own tiles n there = absurd there
among-below o (Some side) own tiles n there = slice_get_within tiles n there.2.0 there.2.1

pub among-kind : (o : Order) (s : Option OtherSide) (side : OtherSide) → s ≡ Some side
    → (own : Motion) (tiles : List PlacedTile) (n : ℕ) → StandsAmong o s own tiles n
    → side.kind ≡ (given_tile tiles n).kind
among-kind o s side e own tiles n h =
    let there = subst (λ q. StandsAmong o q own tiles n) e h in
    let z = there.2.0 in
    let numbers : order_numbers there.0 side.kind ≡ numbers_placed (given_tile tiles n) = sym there.2.2
    ∙ ap numbers_placed (sym (get_or_from_slice_get tiles n z no_tile there.2.1)) in
    same_whole side.kind (given_tile tiles n).kind (ap (λ (ns : List ℤ). get_or ns 5 (pos 0)) numbers)

-- ---- the side of a kind that was read
pub read-below : (t : Tiling) (sides : List (Option GlueSide)) → AreSides t sides → (x : PlacedTile)
    → IsTilePlaced t x → (k n : ℕ) → n ≡ k → k ≡ x.kind → n < length sides
read-below t sides are x placed k n e same = let l = placed.kind_exists in let s = are.each_kind in omega (arith, l, s, e, same)

pub read-other : (t : Tiling) (sides : List (Option GlueSide)) → AreSides t sides → (x : PlacedTile)
    → IsTilePlaced t x → (k n : ℕ) → n ≡ k → k ≡ x.kind → (side : GlueSide) → get_or sides n None ≡ Some side
    → IfSome side.other (IsOtherSide t k side.edge)
read-other t sides are x placed k n e same side its =
    let here = subst (IsSideOf t n) its (are.each n (read-below t sides are x placed k n e same)) in
    subst (λ i. IfSome side.other (IsOtherSide t i side.edge)) e here.other

-- a mark that was read
pub read-mark : (n : ℕ) (marks rest : List Bool) (i : ℕ) (d b : Bool)
    → b ≡ get_or (take n (marks ++ rest)) i d → i < n → i < length marks → b ≡ true
    → IsTrue (get_or marks i false)
read-mark n marks rest i d b e l inside set =
    sym (get_or-take n (marks ++ rest) i d l ∙ get_or_append_left marks rest d i inside ∙ get_or_default marks i d false inside) ∙ sym e ∙ set

-- ---- a pair of tiles of a window
module _ (m : Rule) (L : HasGlueLaws m) (tiles : List PlacedTile) (sides : List (Option GlueSide))
    (are : AreSides (tiling_of m) sides) (number : ℕ) (below : number < length tiles) where
  abbrev t : Tiling
  t = tiling_of m

  abbrev own : PlacedTile
  own = given_tile tiles number

  among : Contains tiles own
  among = (number, below, get_or_default tiles number own no_tile below)

  module _ (f : FrameValue) (is : IsFrameOf t f) (given : AreGiven t f tiles) where
    -- a tile alone
    pub alone-inner : (k : ℕ) → k ≡ own.kind → get_or sides k None ≡ None → (p : Pair)
        → p ≡ record { first = number; second = None } → IsInnerPair t f tiles p
    alone-inner k same none p e =
        subst (IsInnerPair t f tiles) (sym e) (record {
          present = record { first = below; second = tt };
          loose = record {
            glued = (
              given number no_tile below,
              own-side m L f is tiles given sides are number
                  below k same None none,
            );
            of_given = (own, among, refl);
          };
        })

    -- a half and its other half, of a greater kind
    pub pair-inner : (k : ℕ) → k ≡ own.kind → (side : GlueSide) → get_or sides k None ≡ Some side
        → (other : OtherSide) → side.other ≡ Some other → own.kind < other.kind
        → (n : ℕ) → StandsAmong m.order side.other own.motion tiles n → (p : Pair)
        → p ≡ record { first = number; second = Some n } → IsInnerPair t f tiles p
    pair-inner k same side its other is_other lesser n there p e =
        let found = half-found m L f is tiles given sides are number below side
        (own-side m L f is tiles given sides are number below k same (Some side) its) n there in
        let kind = among-kind m.order side.other other is_other own.motion tiles n there in
        subst (IsInnerPair t f tiles) (sym e) (record {
          present = record { first = below; second = found.0 };
          loose = record {
            glued = (
              given number no_tile below,
              given n no_tile found.0,
              found.1,
              omega
                  (arith, lesser, kind),
            );
            of_given = (own, among, inl refl);
          };
        })
