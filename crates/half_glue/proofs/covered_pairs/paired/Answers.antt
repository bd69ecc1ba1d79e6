use Rattle.std.proofs.Common.{◌+◌, ◌<◌, ◌≤◌, ◌∙◌, [], All, List, ◌++◌, length, sym, ap, subst, arith, take_all, append_assoc}
use Rattle.std.proofs.lemmas.Grind.{common_steps}
use Rattle.std.specs.List.{Contains}
use Rattle.std.proofs.lemmas.List.{get_or_default}
use Rattle.std.proofs.lemmas.List.Elements.{All-nil}
use Rattle.rule_model.specs.Tiling.{tiling_of}
use Rattle.tile_place.specs.declared.placed_tile.PlacedTile.{PlacedTile}
use Rattle.theory_walks.specs.Ancestors.{full}
use Rattle.half_glue.specs.declared.pairs.Pair.{Pair}
use Rattle.half_glue.specs.Depth.{IsGluedInside}
use Rattle.half_glue.specs.Found.{no_tile, given_tile}
use Rattle.half_glue.specs.Limits.{CanBeJoined}
use Rattle.half_glue.specs.Pairs.{added_pairs}
use Rattle.half_glue.specs.Sides.{AreSides}
use Rattle.half_glue.proofs.InnerPairs.{window-search, read-mark}
use Rattle.half_glue.proofs.TakenTiles.{none-crossed, taken-settled, taken-too as inner-taken}
use Rattle.theory_walks.proofs.Ancestors.{full-later}
use Rattle.theory_walks.proofs.Outcomes.{if_err-is}
use Rattle.theory_walks.proofs.Walks.{GrowsTo-self, GrowsTo-then}
use Rattle.half_glue.proofs.SettledTiles.{left-behind, cause-of, one-more}
use Rattle.half_glue.proofs.ArePaired.{ArePaired, taken-before, all-paired}
use Rattle.half_glue.proofs.PairedOn.{all-on, paired-on}
use Rattle.half_glue.proofs.Taking.{taken-too}
use Rattle.half_glue.proofs.covered_pairs.paired.Goals.{After-index}
use Rattle.half_glue.proofs.covered_pairs.paired.Goals as goal

-- the number is that of a tile
below-count : (c : After-index) → c.loop-number.number < length c.args.tiles.now
below-count c = subst (λ n. c.loop-number.number < n) c.len-count.ensures c.loop-number-test.true

its-tile : (c : After-index) → Contains c.args.tiles.now (given_tile c.args.tiles.now c.loop-number.number)
its-tile c =
    let i = c.loop-number.number in
    (i, below-count c, get_or_default c.args.tiles.now i (given_tile c.args.tiles.now i) no_tile (below-count c))

pub other_half-requires-clause-to_find : goal.other_half-requires-clause-to_find
other_half-requires-clause-to_find c = record {
  to_glue = record {
    frame = c.loop-number.invariant.0.grows.is_frame;
    few = c.requires.to_glue.few;
    given = all-on c.args.machine.now c.glue_laws.ensures c.args.frame.now c.loop-number.frame c.requires.to_glue.frame
        c.loop-number.invariant.0.grows c.args.tiles.now c.requires.to_glue.given;
  };
  below = below-count ((goal.at.other_half-requires-clause-to_find c).After-index);
}

pub loop-number-preserved : goal.loop-number-preserved
loop-number-preserved c =
    let L = c.glue_laws.ensures in
    let t = tiling_of c.args.machine.now in
    let old = c.args.frame.now in
    let now = c.loop-number.frame in
    let after = c.other_half.new.frame in
    let tiles : List PlacedTile = c.args.tiles.now in
    let inner : List Pair = c.in_ok-inner.inner.items in
    let i = c.loop-number.number in
    let below = below-count ((goal.at.loop-number-preserved c).After-index) in
    let x = given_tile tiles i in
    let settled = c.loop-number.invariant.0 in
    let up = c.in_ok-found.ensures.ends.frame in
    let all_now = all-on c.args.machine.now L old now c.requires.to_glue.frame settled.grows tiles c.requires.to_glue.given in
    let all_after = all-on c.args.machine.now L now after settled.grows.is_frame up tiles all_now in
    let paired = paired-on c.args.machine.now L now after settled.grows.is_frame up tiles (length inner) i
    c.loop-number.outer.crossed.items (inner ++ c.loop-number.outer.pairs.items) (omega (arith, below))
    all_now c.loop-number.invariant.1 in
    let more : List Pair = added_pairs tiles i (length c.loop-number.outer.crossed.items) c.in_ok-found.found in (
      one-more c.args.machine.now L old now c.requires.to_glue.frame tiles c.requires.to_glue.given i below x
          (get_or_default tiles i x no_tile below) settled after up c.in_ok-found.ensures.joined.inside
          c.in_ok-found.ensures.joined.can_be_joined c.in_ok-found.ensures.ends.least,
      subst (λ (ps : List Pair). ArePaired t after tiles (length inner) (i + 1)
          c.put_covered.new.made.crossed.items ps)
          (sym (ap (λ (ps : List Pair). inner ++ ps) c.in_ok-put_covered.ensures.pairs
          ∙ sym (append_assoc inner c.loop-number.outer.pairs.items more)))
          (subst (λ (xs : List PlacedTile). ArePaired t after tiles (length inner) (i + 1) xs
          ((inner ++ c.loop-number.outer.pairs.items) ++ more)) (sym c.in_ok-put_covered.ensures.crossed)
          (taken-too t after tiles (length inner) i below c.loop-number.outer.crossed.items
          (inner ++ c.loop-number.outer.pairs.items) all_after paired c.in_ok-found.found
          c.in_ok-found.ensures.joined.found)),
    )

pub returns-clause-paired : goal.returns-clause-paired
returns-clause-paired c =
    all-paired (tiling_of c.args.machine.now) c.loop-number.frame c.args.tiles.now
    (length c.in_ok-inner.inner.items) c.loop-number.number c.loop-number.outer.crossed.items
    (c.in_ok-inner.inner.items ++ c.loop-number.outer.pairs.items)
    c.in_ok-inner.ensures.rising.few (omega (arith, c.loop-number.auto.number-end, c.len-count.ensures))
    (λ l. omega (arith, l, c.loop-number-test.false, c.len-count.ensures)) c.loop-number.invariant.1

pub inner_pairs-requires-clause-sought : goal.inner_pairs-requires-clause-sought
inner_pairs-requires-clause-sought c =
    window-search _ c.glue_laws.ensures c.args.frame.now c.requires.to_glue c.requires.in_order
    (subst (AreSides (tiling_of c.args.machine.now)) (sym c.as_slice.ensures.value) c.in_ok-sides.ensures)

pub other_half-requires-clause-sought : goal.other_half-requires-clause-sought
other_half-requires-clause-sought c =
    window-search _ c.glue_laws.ensures c.args.frame.now c.requires.to_glue c.requires.in_order
    (subst (AreSides (tiling_of c.args.machine.now)) (sym c.as_slice.ensures.value) c.in_ok-sides.ensures)

pub loop-number-init : goal.loop-number-init
loop-number-init c =
    let t = tiling_of c.args.machine.now in
    let f = c.args.frame.now in
    let tiles : List PlacedTile = c.args.tiles.now in
    let inner : List Pair = c.in_ok-inner.inner.items in (
      record {
        grows = GrowsTo-self t f c.requires.to_glue.frame;
        inside = All-nil (IsGluedInside t f (length f.digits));
        joined = All-nil (CanBeJoined t (full t f));
        least = λ k l h. absurd (omega (arith, l, h));
      },
      subst (λ (xs : List PlacedTile). ArePaired t f tiles (length inner) 0 xs (inner ++ c.new-2.result.items)) (sym c.new-3.ensures.items)
          (subst (λ (ps : List Pair). ArePaired t f tiles (length inner) 0 [] (inner ++ ps)) (sym c.new-2.ensures.items)
          (none-crossed c.args.machine.now c.glue_laws.ensures f c.requires.to_glue.frame tiles inner
          c.inner_pairs.new.taken (c.in_ok-inner.ensures.inner f c.requires.to_glue.frame c.requires.to_glue.given)
          c.requires.to_glue.given)),
    )

pub loop-number-preserved-then-index : goal.loop-number-preserved-then-index
loop-number-preserved-then-index c =
    let L = c.glue_laws.ensures in
    let t = tiling_of c.args.machine.now in
    let old = c.args.frame.now in
    let now = c.loop-number.frame in
    let tiles : List PlacedTile = c.args.tiles.now in
    let inner : List Pair = c.in_ok-inner.inner.items in
    let outer : List Pair = c.loop-number.outer.pairs.items in
    let crossed : List PlacedTile = c.loop-number.outer.crossed.items in
    let i = c.loop-number.number in
    let below = below-count ((goal.at.loop-number-preserved-then-index c).After-index) in
    let x = given_tile tiles i in
    let settled = c.loop-number.invariant.0 in
    let is = settled.grows.is_frame in
    let marks = c.inner_pairs.new.taken in
    let long = c.in_ok-taken.ensures.len in
    let many = c.in_ok-inner.ensures.as_many in
    let room : i < c.in_ok-taken.taken.len = omega (arith, long, c.loop-number-test.true) in
    let inside : i < length marks = omega (arith, many, below) in
    let set = read-mark c.in_ok-taken.taken.len marks _ i _ c.index.result.now c.index.ensures room inside c.if-index.true in
    let h = c.in_ok-inner.ensures.inner now is (all-on c.args.machine.now L old now c.requires.to_glue.frame settled.grows
    tiles c.requires.to_glue.given) in
    let own = taken-settled c.args.machine.now L now is tiles inner marks h i set in (
      one-more c.args.machine.now L old now c.requires.to_glue.frame tiles c.requires.to_glue.given i below x
          (get_or_default tiles i x no_tile below) settled now (GrowsTo-self t now is) own.0 own.1
          (λ n l k. absurd (omega (arith, l, k))),
      taken-before t now tiles (length inner) i crossed (inner ++ outer) c.loop-number.invariant.1
          (inner-taken c.args.machine.now L now is tiles inner marks h crossed outer i set),
    )

pub returns-in_err-found-clause-ends : goal.returns-in_err-found-clause-ends
returns-in_err-found-clause-ends c = record {
  frame = GrowsTo-then (tiling_of c.args.machine.now) c.args.frame.now c.loop-number.frame c.other_half.new.frame
      c.loop-number.invariant.0.grows c.in_err-found.ensures.ends.frame;
  not_beyond = left-behind (tiling_of c.args.machine.now) c.args.frame.now c.loop-number.frame c.loop-number.invariant.0.grows
      c.args.tiles.now _ (its-tile ((goal.at.returns-in_err-found-clause-ends c).After-index))
      c.loop-number.invariant.0.least c.other_half.new.frame c.in_err-found.ensures.ends.least;
  least = grind (arith, common_steps);
  within = grind (arith, common_steps);
  answered = λ can.
      let t = tiling_of c.args.machine.now in
      absurd (cc (c.in_err-found.ensures.ends.answered
      (subst (λ y. CanBeJoined t y (given_tile c.args.tiles.now c.loop-number.number))
      (sym (full-later t c.args.frame.now c.loop-number.frame c.loop-number.invariant.0.grows))
      (can c.loop-number.number no_tile (below-count ((goal.at.returns-in_err-found-clause-ends c).After-index))))));
  cause = if_err-is _ c.from_residual-in_err-found.result c.in_err-found.field-0.0 c.from_residual-in_err-found.ensures.1
      (cause-of (tiling_of c.args.machine.now) c.args.frame.now c.loop-number.frame
      c.loop-number.invariant.0.grows c.args.tiles.now _ (its-tile ((goal.at.returns-in_err-found-clause-ends c).After-index))
      c.other_half.new.frame c.in_err-found.field-0.0 c.in_err-found.ensures.ends.cause);
}

pub returns-in_err-put_covered-clause-ends : goal.returns-in_err-put_covered-clause-ends
returns-in_err-put_covered-clause-ends c = record {
  frame = GrowsTo-then (tiling_of c.args.machine.now) c.args.frame.now c.loop-number.frame c.other_half.new.frame
      c.loop-number.invariant.0.grows c.in_ok-found.ensures.ends.frame;
  not_beyond = left-behind (tiling_of c.args.machine.now) c.args.frame.now c.loop-number.frame c.loop-number.invariant.0.grows
      c.args.tiles.now _ (its-tile ((goal.at.returns-in_err-put_covered-clause-ends c).After-index))
      c.loop-number.invariant.0.least c.other_half.new.frame c.in_ok-found.ensures.ends.least;
  least = grind (arith, common_steps);
  within = grind (arith, common_steps);
  answered = grind (arith, common_steps);
  cause = grind (arith, common_steps);
}

pub returns-clause-ends : goal.returns-clause-ends
returns-clause-ends c = record {
  frame = grind (arith, common_steps);
  not_beyond = c.loop-number.invariant.0.least;
  least = record {
    inside = subst (All (IsGluedInside (tiling_of c.args.machine.now) c.args.frame.now
        (length c.loop-number.frame.digits))) (take_all c.loop-number.number c.args.tiles.now
        (subst (λ n. n ≤ c.loop-number.number) c.len-count.ensures c.loop-number-test.false))
        c.loop-number.invariant.0.inside;
    least = c.loop-number.invariant.0.least;
  };
  within = subst (All (CanBeJoined (tiling_of c.args.machine.now)
      (full (tiling_of c.args.machine.now) c.args.frame.now)))
      (take_all c.loop-number.number c.args.tiles.now
      (subst (λ n. n ≤ c.loop-number.number) c.len-count.ensures c.loop-number-test.false))
      c.loop-number.invariant.0.joined;
  answered = grind (arith, common_steps);
  cause = grind (arith, common_steps);
}
