-- The tiles found, lifted and in order, are the answer.
use Rattle.std.proofs.Common.{◌≡◌, ℕ, All, ◌<◌, ◌≤◌, List, [], ◌∷◌, map, length, refl, sym, ap, ap₂, ◌∙◌, subst}
use Rattle.std.specs.List.{AllZip, AllByRecursion}
use Rattle.std.specs.List.Sorted.{IsPermutation}
use Rattle.std.proofs.lemmas.List.Elements.{All-from_recursion, recursion_from_All}
use Rattle.std.proofs.lemmas.List.Sorted.{IsPermutation-map, length_permutation}
use Rattle.std.proofs.lemmas.Option.{slice_get-get_or}
use Rattle.std.proofs.lemmas.Slice.Zip.{AllZip-long}
use Rattle.theory_addresses.specs.Address as theory
use Rattle.theory_addresses.specs.Search.{IsAmong}
use Rattle.theory_addresses.proofs.Lists.{AllByRecursion-among, AllByRecursion-each}
use Rattle.theory_addresses.proofs.Ranges.{place-among}
use Rattle.rule_model.specs.declared.rule.Rule.{Rule}
use Rattle.rule_model.specs.Tiling.{Tiling, tiling_of}
use Rattle.tile_place.specs.declared.placed_tile.PlacedTile.{PlacedTile}
use Rattle.tile_place.specs.Searched.{placed_in}
use Rattle.theory_walks.specs.Frames.{FrameValue}
use Rattle.lazy_walk.specs.Standing.{Stands}
use Rattle.tile_place.specs.declared.order_key.OrderKey.{OrderKey}
use Rattle.window_cover.specs.Arranged.{AreArranged}
use Rattle.window_cover.specs.Checked.{IsCheckedRule}
use Rattle.window_cover.specs.Covered.{none, placed_as, tiles_of, AreCovered}
use Rattle.window_cover.specs.Found.{Found, CoverValue}
use Rattle.window_cover.specs.InOrder.{AreInOrder, AreSorted, numbers_placed}
use Rattle.theory_windows.specs.Distinct.{AreDistinct}
use Rattle.window_cover.specs.Keys.{HasKey, AreOrdered}
use Rattle.window_cover.specs.Lifted.{CanBeLifted, IsLifted}
use Rattle.window_cover.specs.Right.{IsFound, IsRight}
use Rattle.window_cover.specs.Packed.{packed}
use Rattle.window_cover.specs.Windows.{AreDrawn, CoverWindow}
use Rattle.window_cover.specs.Working.{working, IsWorking}
use Rattle.window_cover.proofs.Finished.{HasLaws, all-stand, numbers-distinct, drawn, covered}
use Rattle.window_cover.proofs.Keyed.{keyed_in, IsKey}
use Rattle.window_cover.proofs.Lifting.{zip-placed}
use Rattle.window_cover.proofs.Shuffled.{AreShuffled, shuffled}
use Rattle.window_cover.proofs.Sorted.{IsKeyed, in-order, in-sorted}
use Rattle.window_cover.proofs.Works.{works}

-- the tiles found of a right state can be lifted
pub right-lifted : (t : Tiling) (f : FrameValue) (c : CoverValue) → IsRight t f c → All (CanBeLifted f) c.found
right-lifted t f c right = All-from_recursion (CanBeLifted f) c.found
    (AllByRecursion-each (IsFound t f) (CanBeLifted f) c.found (λ x h. h.of_frame.no_deeper) right.found)

zip-keys : {A B C : Type 0} (Q : A → Type 0) (R : B → C → Type 0) (S : A → C → Type 0) (g : A → B)
    (ks : List A) (ys : List C) → AllByRecursion Q ks → AllZip R (map g ks) ys
    → ((k : A) (y : C) → Q k → R (g k) y → S k y) → AllZip S ks ys
zip-keys Q R S g [] [] q z h = tt
zip-keys Q R S g [] (y ∷ ys) q z h = absurd z
zip-keys Q R S g (k ∷ ks) [] q z h = absurd z
zip-keys Q R S g (k ∷ ks) (y ∷ ys) q z h = (h k y q.0 z.0, zip-keys Q R S g ks ys q.1 z.1 h)

pub placed-keys : (above : List theory.Step) (found : List Found) (ks : List OrderKey)
    → map (placed_as above) (map (keyed_in found) ks) ≡ tiles_of above found
    (map (λ (k : OrderKey). k.number) ks)
placed-keys above found [] = refl
placed-keys above found (k ∷ ks) = ap (λ (ts : List PlacedTile). placed_as above (keyed_in found k) ∷ ts) (placed-keys above found ks)

numbers-below : (found : List Found) (ks : List OrderKey) → AllByRecursion (IsKey found) ks
    → AllByRecursion (λ n. n < length found) (map (λ (k : OrderKey). k.number) ks)
numbers-below found [] h = tt
numbers-below found (k ∷ ks) h = (h.0.below, numbers-below found ks h.1)

-- what the answer is made of: the tiles found, their numbers in order, and the digits of the frame
pub record IsArranged (f : FrameValue) (c : CoverValue) (found : List Found) (numbers : List ℕ) (above : List theory.Step) : Type 0 where
  pub seen : found ≡ c.found
  pub can_be_lifted : AllByRecursion (CanBeLifted f) c.found
  pub keyed : AllByRecursion HasKey c.found
  pub ordered : AreOrdered c.found numbers
  pub same : above ≡ f.digits

-- what follows of its tiles
module _ (f : FrameValue) (c : CoverValue) (found : List Found) (numbers : List ℕ) (above : List theory.Step)
    (are : IsArranged f c found numbers above) where
  abbrev tiles : List PlacedTile
  tiles = tiles_of above found numbers

  -- the keys of the tiles in order
  abbrev ks : List OrderKey
  ks = are.ordered.keys

  mixed : AreShuffled c.found ks
  mixed = shuffled c.found ks are.ordered.same

  tiles-keyed : tiles_of above c.found (map (λ (k : OrderKey). k.number) ks) ≡ tiles
  tiles-keyed = ap₂ (tiles_of above) (sym are.seen) (sym are.ordered.numbered)

  zip : AllZip (IsLifted f) (map (keyed_in c.found) ks) tiles
  zip = subst (AllZip (IsLifted f) (map (keyed_in c.found) ks)) tiles-keyed (zip-placed f above are.same c.found ks)

  all-keyed : AllZip (IsKeyed f) ks tiles
  all-keyed = zip-keys (IsKey c.found) (IsLifted f) (IsKeyed f) (keyed_in c.found) ks tiles mixed.keys zip (λ k a h l.
      let i : IsAmong (keyed_in c.found k) c.found = place-among (keyed_in c.found k) c.found k.number
      (slice_get-get_or c.found k.number none h.below) in
      record { tile = keyed_in c.found k; lifted = l; has_key = AllByRecursion-among HasKey (keyed_in c.found k) c.found i are.keyed; key = h.is })

  pub arranged-fit : AreCovered above found numbers
  arranged-fit = record {
    numbered = subst (λ ns. AllByRecursion (λ n. n < length found) ns) (sym are.ordered.numbered)
        (subst (λ (xs : List Found). AllByRecursion (λ n. n < length xs)
        (map (λ (k : OrderKey). k.number) ks)) (sym are.seen) (numbers-below c.found ks mixed.keys));
    no_deeper = subst (λ xs. AllByRecursion (λ (x : Found). length x.digits ≤ length above) xs) (sym are.seen)
        (subst (λ ds. AllByRecursion (λ (x : Found). length x.digits ≤ length ds) c.found) (sym are.same) are.can_be_lifted);
  }

  pub arranged-lifted : IsPermutation (map (placed_as f.digits) c.found) tiles
  arranged-lifted =
      subst (λ ds. IsPermutation (map (placed_as ds) c.found) tiles) are.same
      (subst (IsPermutation (map (placed_as above) c.found)) (placed-keys above c.found ks ∙ tiles-keyed)
      (IsPermutation-map (placed_as above) c.found (map (keyed_in c.found) ks) mixed.tiles))

  pub arranged-sorted : AreSorted tiles
  arranged-sorted = in-sorted f ks tiles all-keyed are.ordered.sorted

  pub arranged-as_many : length tiles ≡ length c.found
  arranged-as_many = AllZip-long (IsLifted f) (map (keyed_in c.found) ks) tiles zip
      ∙ length_permutation c.found (map (keyed_in c.found) ks) mixed.tiles

  -- where no two are of one place and kind
  pub arranged-distinct : AreDistinct (map numbers_placed tiles) → AreInOrder tiles
  arranged-distinct d = in-order f ks tiles all-keyed are.ordered.sorted d

  -- where the state is right
  module _ (laws : (m : Rule) → IsCheckedRule m → HasLaws m) (r : Rule) (checked : IsCheckedRule r) (right : IsRight (tiling_of r) f c) where
    work : IsWorking (tiling_of r) f (working c)
    work = works (tiling_of r) (laws r checked).open_test f c right

    pub arranged-drawn : c.border ≡ [] → AreDrawn (tiling_of r) f c.window (map (placed_in r.order) tiles)
    arranged-drawn closed = drawn r (laws r checked) f (working c) work ks mixed tiles zip (ap (map packed) closed)

    pub arranged-covered : c.border ≡ [] → CoverWindow (tiling_of r) f c.window (map (placed_in r.order) tiles)
    arranged-covered closed = covered r (laws r checked) f (working c) work ks mixed tiles zip (ap (map packed) closed)

    pub arranged-stand : All (Stands (tiling_of r) f) tiles
    arranged-stand = All-from_recursion (Stands (tiling_of r) f) tiles (all-stand r (laws r checked) f (working c) work ks mixed tiles zip)

    pub arranged-in_order : AreInOrder tiles
    arranged-in_order = in-order f ks tiles all-keyed are.ordered.sorted (numbers-distinct r (laws r checked) f (working c) work ks mixed tiles zip)

-- ---- in order, as it is promised
module _ (f : FrameValue) (c : CoverValue) (can : All (CanBeLifted f) c.found) (tiles : List PlacedTile) (a : AreArranged f c.found tiles) where
  own : IsArranged f c c.found a.numbers f.digits
  own = record {
    seen = refl;
    can_be_lifted = recursion_from_All (CanBeLifted f) c.found can;
    keyed = a.keyed;
    ordered = a.ordered;
    same = refl;
  }

  pub are-lifted : IsPermutation (map (placed_as f.digits) c.found) tiles
  are-lifted = subst (IsPermutation (map (placed_as f.digits) c.found)) (sym a.are) (arranged-lifted f c c.found a.numbers f.digits own)

  pub are-sorted : AreSorted tiles
  are-sorted = subst AreSorted (sym a.are) (arranged-sorted f c c.found a.numbers f.digits own)

  pub are-as_many : length tiles ≡ length c.found
  are-as_many = ap (λ (ts : List PlacedTile). length ts) a.are ∙ arranged-as_many f c c.found a.numbers f.digits own

  pub are-distinct : AreDistinct (map numbers_placed tiles) → AreInOrder tiles
  are-distinct = subst (λ (ts : List PlacedTile). AreDistinct (map numbers_placed ts) → AreInOrder ts) (sym a.are)
      (arranged-distinct f c c.found a.numbers f.digits own)

  module _ (laws : (m : Rule) → IsCheckedRule m → HasLaws m) (r : Rule) (checked : IsCheckedRule r) (right : IsRight (tiling_of r) f c) where
    pub are-drawn : c.border ≡ [] → AreDrawn (tiling_of r) f c.window (map (placed_in r.order) tiles)
    are-drawn closed = subst (λ ts. AreDrawn (tiling_of r) f c.window (map (placed_in r.order) ts)) (sym a.are)
        (arranged-drawn f c c.found a.numbers f.digits own laws r checked right closed)

    pub are-covered : c.border ≡ [] → CoverWindow (tiling_of r) f c.window (map (placed_in r.order) tiles)
    are-covered closed = subst (λ ts. CoverWindow (tiling_of r) f c.window (map (placed_in r.order) ts)) (sym a.are)
        (arranged-covered f c c.found a.numbers f.digits own laws r checked right closed)

    pub are-stand : All (Stands (tiling_of r) f) tiles
    are-stand = subst (All (Stands (tiling_of r) f)) (sym a.are) (arranged-stand f c c.found a.numbers f.digits own laws r checked right)

    pub are-in_order : AreInOrder tiles
    are-in_order = subst AreInOrder (sym a.are) (arranged-in_order f c c.found a.numbers f.digits own laws r checked right)
