-- What is known of a tile of a window by the glue edge of its kind.
use Rattle.std.proofs.Common.{◌≡◌, ℕ, zero, suc, ◌+◌, ◌-◌, ◌<◌, ◌≤◌, nat_lt, Bool, true, false, cond, List, [], ◌∷◌, ◌++◌, All, length, get_or, slice_get, Option, None, Some, IfSome, sym, ap, ap₂, ◌∙◌, subst, arith, append-nil, length-append}
use Rattle.std.proofs.lemmas.List.{get_or_default}
use Rattle.std.proofs.lemmas.Option.{slice_get-get_or, slice_get_within, get_or_from_slice_get}
use Rattle.cyclo_points.specs.declared.motion.Motion.{Motion}
use Rattle.cyclo_points.specs.declared.order.Order.{Order}
use Rattle.rule_model.specs.declared.rule.Rule.{Rule}
use Rattle.rule_model.specs.Glue.{IsGlueEdge, IsOnlyGlueEdge}
use Rattle.rule_model.specs.Tiling.{Tiling, tiling_of}
use Rattle.tile_place.specs.Keys.{order_numbers}
use Rattle.tile_place.specs.declared.placed_tile.PlacedTile.{PlacedTile}
use Rattle.theory_walks.specs.Frames.{FrameValue, IsFrameOf}
use Rattle.theory_walks.proofs.Walks.{GrowsTo-self}
use Rattle.window_cover.specs.InOrder.{numbers_placed}
use Rattle.window_cover.specs.Numbered.{IsPlacedAt}
use Rattle.half_glue.specs.declared.half.Found.{Found}
use Rattle.half_glue.specs.declared.half.Found.TheVariants.{Given, Crossed}
use Rattle.half_glue.specs.declared.pairs.Pair.{Pair}
use Rattle.half_glue.specs.declared.glue_side.GlueSide.{GlueSide}
use Rattle.half_glue.specs.declared.glue_side.OtherSide.{OtherSide}
use Rattle.half_glue.specs.Checked.{HasGlueLaws}
use Rattle.half_glue.specs.Found.{no_tile, given_tile, IsBeside, StandsAmong, AreGlued, IsJoined}
use Rattle.half_glue.specs.Given.{IsGiven}
use Rattle.half_glue.specs.Pairs.{halves_of, added_pairs}
use Rattle.half_glue.specs.Sides.{IsOtherSide, IsSide, IsSideOf, AreSides}
use Rattle.half_glue.proofs.Elements.{get_or-front}
use Rattle.half_glue.proofs.LookUp.{beside-glued}
use Rattle.half_glue.proofs.OtherHalves.{side-of, only-of, kind-there}
use Rattle.half_glue.proofs.Settling.{settled-inside, settled-joined}

-- what is read of the tile of a number
module _ (tiles : List PlacedTile) (number : ℕ) (below : number < length tiles) where
  abbrev y : PlacedTile
  y = given_tile tiles number

  pub kind-is : (k : ℕ) → IfSome (slice_get tiles number) (λ x. k ≡ x.kind) → k ≡ y.kind
  kind-is k h = subst (λ (o : Option PlacedTile). IfSome o (λ x. k ≡ x.kind)) (slice_get-get_or tiles number no_tile below) h

  pub motion-is : (v : Motion) → IfSome (slice_get tiles number) (λ x. v ≡ x.motion) → v ≡ y.motion
  motion-is v h = subst (λ (o : Option PlacedTile). IfSome o (λ x. v ≡ x.motion)) (slice_get-get_or tiles number no_tile below) h

  pub tile-is : (x : PlacedTile) → slice_get tiles number ≡ Some x → y ≡ x
  tile-is x h = get_or_from_slice_get tiles number x no_tile h

  pub itself : y ≡ get_or tiles number y
  itself = sym (get_or_default tiles number y no_tile below)

-- the tile of a number among those in front, or of those behind
pub front-there : (xs ys : List PlacedTile) (n : ℕ) → n < length xs → given_tile (xs ++ ys) n ≡ given_tile xs n
front-there xs ys n l = get_or-front xs ys n no_tile l

from-behind : (xs ys : List PlacedTile) (n : ℕ) → length xs ≤ n → given_tile (xs ++ ys) n ≡ given_tile ys (n - length xs)
from-behind [] ys n l = let plain : n ≡ n - 0 = omega arith in ap (given_tile ys) plain
from-behind (x ∷ xs) ys zero l = absurd (omega (arith, l))
from-behind (x ∷ xs) ys (suc n) l = let same : n - length xs ≡ suc n - suc (length xs) = omega
    arith in from-behind xs ys n (omega (arith, l)) ∙ ap (given_tile ys) same

pub behind-there : (xs ys : List PlacedTile) (n count : ℕ) → count ≡ length xs → count ≤ n
    → n < length (xs ++ ys) → (x : PlacedTile) → x ≡ get_or ys (n - count) x → given_tile (xs ++ ys) n ≡ x
behind-there xs ys n count e l h x read =
    let there : n - length xs < length ys = omega (arith, e, l, h, length-append xs ys) in
    from-behind xs ys n (omega (arith, e, l)) ∙ sym (get_or_default ys (n - length xs) x no_tile there) ∙ sym (read ∙ ap (λ k. get_or ys (n - k) x) e)

-- what is found brings its pair
module _ (tiles : List PlacedTile) (n k : ℕ) (old new : List Pair) (found : Found) (own : ℕ) (its : own ≡ (given_tile tiles n).kind) where
  module _ (m : ℕ) (is : found ≡ Given m) (kind : ℕ) (other : kind ≡ (given_tile tiles m).kind) where
    abbrev both : Pair
    both = record { first = n; second = Some m }

    by_kinds : (b : Bool) → nat_lt own kind ≡ b → old ++ added_pairs tiles n k found ≡ old ++ cond b (both ∷ []) []
    by_kinds b e = ap (λ (f : Found). old ++ added_pairs tiles n k f) is ∙ ap (λ c. old ++ cond c (both ∷ []) []) (sym (ap₂ nat_lt its other) ∙ e)

    pub brings-none : nat_lt own kind ≡ false → old ≡ old ++ added_pairs tiles n k found
    brings-none e = sym (by_kinds false e ∙ append-nil old)

    pub brings-both : nat_lt own kind ≡ true → new ≡ old ++ both ∷ [] → new ≡ old ++ added_pairs tiles n k found
    brings-both e put = put ∙ sym (by_kinds true e)

  pub brings-crossed : (y : PlacedTile) → found ≡ Crossed y → (p : Pair) (far : ℕ) → far ≡ length tiles + k
      → p ≡ halves_of own n y.kind far → new ≡ old ++ p ∷ [] → new ≡ old ++ added_pairs tiles n k found
  brings-crossed y is p far e made put =
      put ∙ ap (λ (q : Pair). old ++ q ∷ []) (made ∙ ap₂ (λ a b. halves_of a n y.kind b) its e)
      ∙ sym (ap (λ (f : Found). old ++ added_pairs tiles n k f) is)

-- a place found by the other side is found by what a kind has
pub each-place : (o : Order) (s : Option OtherSide) (side : OtherSide) → s ≡ Some side → (own m : Motion)
    → IsBeside o side own m → (tiles : List PlacedTile) (n : ℕ) → IsPlacedAt tiles m side.kind n
    → StandsAmong o s own tiles n
each-place o s side e own m beside tiles n h = subst (λ q. StandsAmong o q own tiles n) (sym e) (m, beside, h)

pub place-below : (tiles : List PlacedTile) (m : Motion) (k n : ℕ) → IsPlacedAt tiles m k n → n < length tiles
place-below tiles m k n h = slice_get_within tiles n h.0 h.1

module _ (m : Rule) (L : HasGlueLaws m) (f : FrameValue) (is : IsFrameOf (tiling_of m) f)
    (tiles : List PlacedTile) (given : All (IsGiven (tiling_of m) f) tiles) where
  abbrev t : Tiling
  t = tiling_of m

  -- the tile of the place found is the other half
  among-known : (x : PlacedTile) → IsGiven t f x → (e n : ℕ) → IsGlueEdge t.rule x.kind e
      → (o : Option OtherSide) → IfSome o (IsOtherSide t x.kind e) → StandsAmong m.order o x.motion tiles n
      → (n < length tiles) × AreGlued t f x (given_tile tiles n)
  among-known x own e n glue_edge None side there = absurd there
  among-known x own e n glue_edge (Some o) side there =
      let z = there.2.0 in
      let below : n < length tiles = slice_get_within tiles n z there.2.1 in
      let numbers : order_numbers there.0 o.kind ≡ numbers_placed (given_tile tiles n) = sym there.2.2
      ∙ ap numbers_placed (sym (get_or_from_slice_get tiles n z no_tile there.2.1)) in
      (below, beside-glued m L f is x (given_tile tiles n) own (given n no_tile below) e o side there.0 there.1 numbers glue_edge)

  module _ (sides : List (Option GlueSide)) (are : AreSides t sides) (number : ℕ) (below : number < length tiles) where
    abbrev own : PlacedTile
    own = given_tile tiles number

    pub own-given : IsGiven t f own
    own-given = given number no_tile below

    pub own-kind : own.kind < length sides
    own-kind = kind-there m L f is tiles given sides are number below own (itself tiles number below)

    pub own-side : (k : ℕ) → k ≡ own.kind → (s : Option GlueSide) → get_or sides k None ≡ s → IsSideOf t own.kind s
    own-side k same s its = side-of m L f is tiles given sides are number below own (itself tiles number below) k same s its

    pub own-only : (k : ℕ) → k ≡ own.kind → (s : GlueSide) → get_or sides k None ≡ Some s → IsOnlyGlueEdge t.rule own.kind s.edge
    own-only k same s its = only-of m L f is tiles given sides are number below own (itself tiles number below) k same s its

    module _ (side : GlueSide) (its : IsSide t own.kind side) (n : ℕ) (there : StandsAmong m.order side.other own.motion tiles n) where
      pub half-found : (n < length tiles) × AreGlued t f own (given_tile tiles n)
      half-found = among-known own own-given side.edge n its.only.glue_edge side.other its.other there

      pub half-joined : IsJoined t f f tiles own (Given n)
      half-joined =
          let other = given n no_tile half-found.0 in
          let grows = GrowsTo-self t f is in
          record {
            found = half-found;
            inside = settled-inside m L f is own own-given f grows (given_tile tiles n) other half-found.1;
            can_be_joined = settled-joined m L f is own own-given f grows (given_tile tiles n) other half-found.1;
          }
