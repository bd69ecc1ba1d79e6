use Rattle.std.proofs.Common.{◌<◌, ◌++◌, List, All, length, sym, ap, subst}
use Rattle.std.proofs.lemmas.List.Elements.{All-weaker}
use Rattle.tile_place.specs.declared.placed_tile.PlacedTile.{PlacedTile}
use Rattle.half_glue.specs.declared.pairs.Pair.{Pair}
use Rattle.half_glue.specs.Arranged.{AreOrdered}
use Rattle.half_glue.specs.Inner.{AreRising}
use Rattle.half_glue.specs.Lifted.{wholes_of}
use Rattle.half_glue.specs.Merged.{AreMerged, ArePairsInOrder}
use Rattle.half_glue.specs.Pairs.{ArePresent}
use Rattle.half_glue.proofs.MergedWholes.{all-left, keyed-as, outer-keyed, wholes-order, order-wholes, merged-arranged, merged-all}
use Rattle.half_glue.proofs.OrderedPairs.{keys-named}
use Rattle.rule_model.specs.Tiling.{tiling_of}
use Rattle.half_glue.proofs.HandedOn.{handed-on}
use Rattle.half_glue.proofs.Wholes.{all-no_deeper, are-wholes}
use Rattle.half_glue.proofs.glue_covered.glued.Goals.{In_ok-pairs, In_ok-sorted}
use Rattle.half_glue.proofs.glue_covered.glued.Goals as goal

pub pair_keys-requires : goal.pair_keys-requires
pair_keys-requires c =
    let made = c.in_ok-made.made in
    keyed-as (c.args.tiles.now ++ c.as_slice.result.now) (c.args.tiles.now ++ made.outer.crossed.items) made.outer.pairs.items
    c.as_slice-found.result.now (ap (λ (xs : List PlacedTile). c.args.tiles.now ++ xs) c.as_slice.ensures.value) c.as_slice-found.ensures.value
    (outer-keyed c.args.machine.now c.glue_laws.ensures c.paired.new.frame c.in_ok-made.ensures.ends.frame.is_frame
    c.args.tiles.now made.outer.crossed.items made.inner.items made.outer.pairs.items c.requires.to_glue.few c.in_ok-made.ensures.paired)

pub ordered-requires : goal.ordered-requires
ordered-requires c = keys-named (c.args.tiles.now ++ c.as_slice.result.now) c.as_slice-found.result.now c.in_ok-keys.keys.items c.in_ok-keys.ensures

-- the pairs with tiles crossed to are in order
sorted-are : (c : In_ok-sorted) → AreOrdered (c.args.tiles.now ++ c.as_slice.result.now) c.in_ok-made.made.outer.pairs.items
    c.in_ok-sorted.sorted.items
sorted-are c =
    let made = c.in_ok-made.made in
    let all : List PlacedTile = c.args.tiles.now ++ c.as_slice.result.now in
    subst (λ (ps : List Pair). AreOrdered all ps c.in_ok-sorted.sorted.items) c.as_slice-found.ensures.value
    (c.in_ok-sorted.ensures all
    (keyed-as all (c.args.tiles.now ++ made.outer.crossed.items) made.outer.pairs.items
    c.as_slice-found.result.now (ap (λ (xs : List PlacedTile). c.args.tiles.now ++ xs) c.as_slice.ensures.value) c.as_slice-found.ensures.value
    (outer-keyed c.args.machine.now c.glue_laws.ensures c.paired.new.frame c.in_ok-made.ensures.ends.frame.is_frame
    c.args.tiles.now made.outer.crossed.items made.inner.items made.outer.pairs.items c.requires.to_glue.few c.in_ok-made.ensures.paired))
    c.in_ok-keys.ensures)

pub merged-requires : goal.merged-requires
merged-requires c =
    let all : List PlacedTile = c.args.tiles.now ++ c.as_slice.result.now in
    let sorted : List Pair = c.in_ok-sorted.sorted.items in
    let ordered = sorted-are (goal.at.merged-requires c).In_ok-sorted in
    record {
      in_order = c.requires.in_order;
      rising = subst (AreRising (length c.args.tiles.now)) (sym c.as_slice-2.ensures.value) c.in_ok-made.ensures.rising;
      numbered = subst (All (λ (p : Pair). p.first < length all)) (sym c.as_slice-3.ensures.value)
          (All-weaker (ArePresent (length all)) (λ (p : Pair). p.first < length all) (λ p h. h.first) sorted ordered.numbered);
      outer_in_order = subst (ArePairsInOrder all) (sym c.as_slice-3.ensures.value)
          (wholes-order c.paired.new.frame all sorted (ordered.wholes c.paired.new.frame).in_order);
    }

-- the pairs found without a crossing, and those, were merged
merged-are : (c : In_ok-pairs) → AreMerged (c.args.tiles.now ++ c.in_ok-made.made.outer.crossed.items) c.in_ok-made.made.inner.items
    c.in_ok-sorted.sorted.items c.in_ok-pairs.pairs.items
merged-are c =
    let tiles : List PlacedTile = c.args.tiles.now in
    let inner : List Pair = c.in_ok-made.made.inner.items in
    let sorted : List Pair = c.in_ok-sorted.sorted.items in
    let pairs : List Pair = c.in_ok-pairs.pairs.items in
    subst (λ (xs : List PlacedTile). AreMerged (tiles ++ xs) inner sorted pairs) c.as_slice.ensures.value
    (subst (λ (ps : List Pair). AreMerged (tiles ++ c.as_slice.result.now) ps sorted pairs) c.as_slice-2.ensures.value
    (subst (λ (ps : List Pair). AreMerged (tiles ++ c.as_slice.result.now) c.as_slice-2.result.now ps pairs)
    c.as_slice-3.ensures.value c.in_ok-pairs.ensures))

pub returns-clause-glued : goal.returns-clause-glued
returns-clause-glued c =
    let m = c.args.machine.now in
    let L = c.glue_laws.ensures in
    let f = c.paired.new.frame in
    let is = c.in_ok-made.ensures.ends.frame.is_frame in
    let made = c.in_ok-made.ensures.paired in
    let tiles : List PlacedTile = c.args.tiles.now in
    let crossed : List PlacedTile = c.in_ok-made.made.outer.crossed.items in
    let inner : List Pair = c.in_ok-made.made.inner.items in
    let outer : List Pair = c.in_ok-made.made.outer.pairs.items in
    let sorted : List Pair = c.in_ok-sorted.sorted.items in
    let pairs : List Pair = c.in_ok-pairs.pairs.items in
    let ordered : AreOrdered (tiles ++ crossed) outer sorted = subst (λ (xs : List PlacedTile). AreOrdered (tiles ++ xs) outer sorted)
    c.as_slice.ensures.value (sorted-are (goal.at.returns-clause-glued c).In_ok-sorted) in
    let are : AreMerged (tiles ++ crossed) inner sorted pairs = merged-are (goal.at.returns-clause-glued c).In_ok-pairs in
    let IsThere : Pair → Type 0 = ArePresent (length (tiles ++ crossed)) in
    record {
      can_be = record {
        present = merged-all IsThere (tiles ++ crossed) inner sorted pairs (all-left IsThere inner outer made.present)
            ordered.numbered are;
        no_deeper = all-no_deeper m L f is tiles crossed (inner ++ outer) made;
      };
      glued = record {
        whole_tiles = are-wholes m L f is tiles crossed (inner ++ outer) made (wholes_of f (tiles ++ crossed) pairs)
            (merged-arranged f (tiles ++ crossed) inner outer sorted pairs (ordered.wholes f).same are);
        in_order = order-wholes f (tiles ++ crossed) pairs are.in_order;
      };
    }

pub returns-in_err-made-clause-ends : goal.returns-in_err-made-clause-ends
returns-in_err-made-clause-ends c =
    handed-on (tiling_of c.args.machine.now) c.args.frame.now c.paired.new.frame c.args.tiles.now c.in_err-made.field-0.0
    c.from_residual.result c.from_residual.ensures.1 c.in_err-made.ensures.ends
