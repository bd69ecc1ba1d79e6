use Rattle.std.proofs.Common.{◌+◌, All, List, [], ◌++◌, length, sym, subst, arith, take_all, append-nil}
use Rattle.std.proofs.lemmas.Grind.{common_steps}
use Rattle.std.specs.List.{Contains}
use Rattle.std.proofs.lemmas.List.{get_or_default}
use Rattle.std.proofs.lemmas.List.Elements.{All-nil}
use Rattle.rule_model.specs.Tiling.{tiling_of}
use Rattle.tile_place.specs.declared.placed_tile.PlacedTile.{PlacedTile}
use Rattle.theory_walks.specs.Ancestors.{full}
use Rattle.half_glue.specs.declared.pairs.Pair.{Pair}
use Rattle.half_glue.specs.Depth.{IsGluedInside}
use Rattle.half_glue.specs.Found.{no_tile, given_tile}
use Rattle.half_glue.specs.Given.{IsGiven}
use Rattle.half_glue.specs.Keys.{AreKeysOf}
use Rattle.half_glue.specs.Limits.{CanBeJoined}
use Rattle.half_glue.specs.Pairs.{ArePresent, IsLoose, added_pairs}
use Rattle.half_glue.specs.Sides.{AreSides}
use Rattle.half_glue.proofs.Halves.{given-key}
use Rattle.theory_walks.proofs.Ancestors.{full-later}
use Rattle.theory_walks.proofs.Outcomes.{if_err-is}
use Rattle.theory_walks.proofs.Walks.{GrowsTo-self, GrowsTo-then}
use Rattle.half_glue.proofs.SettledTiles.{left-behind, cause-of, one-more}
use Rattle.half_glue.proofs.ArePaired.{ArePaired, all-paired}
use Rattle.half_glue.proofs.PairedOn.{all-on, paired-on}
use Rattle.half_glue.proofs.Taking.{taken-too}
use Rattle.half_glue.proofs.paired.paired.Goals.{After-other_half}
use Rattle.half_glue.proofs.paired.paired.Goals as goal

-- the number is that of a tile
its-tile : (c : After-other_half) → Contains c.args.tiles.now (given_tile c.args.tiles.now c.loop-number.number)
its-tile c =
    let i = c.loop-number.number in
    let below = c.loop-number-test.true in
    (i, below, get_or_default c.args.tiles.now i (given_tile c.args.tiles.now i) no_tile below)

pub sorted_keys-requires : goal.sorted_keys-requires
sorted_keys-requires c = record {
  few = c.requires.to_glue.few;
  fit = λ k d l. given-key c.args.machine.now c.glue_laws.ensures
      c.args.frame.now c.requires.to_glue.frame _ (c.requires.to_glue.given k d l);
}

pub other_half-requires-clause-sought : goal.other_half-requires-clause-sought
other_half-requires-clause-sought c = record {
  keys = subst (AreKeysOf c.args.tiles.now) (sym c.as_slice-2.ensures.value)
      (record { same = c.in_ok-keys.ensures.same; sorted = c.in_ok-keys.ensures.sorted });
  sides = subst (AreSides (tiling_of c.args.machine.now)) (sym c.as_slice.ensures.value) c.in_ok-sides.ensures;
}

pub other_half-requires-clause-to_find : goal.other_half-requires-clause-to_find
other_half-requires-clause-to_find c = record {
  to_glue = record {
    frame = c.loop-number.invariant.0.grows.is_frame;
    few = c.requires.to_glue.few;
    given = all-on c.args.machine.now c.glue_laws.ensures c.args.frame.now c.loop-number.frame c.requires.to_glue.frame
        c.loop-number.invariant.0.grows c.args.tiles.now c.requires.to_glue.given;
  };
  below = c.loop-number-test.true;
}

pub loop-number-init : goal.loop-number-init
loop-number-init c =
    let t = tiling_of c.args.machine.now in
    let f = c.args.frame.now in
    let tiles : List PlacedTile = c.args.tiles.now in
    let none : ArePaired t f tiles 0 0 [] [] = record {
      few = omega arith;
      few_crossed = omega arith;
      given = subst (All (IsGiven t f)) (sym (append-nil tiles)) c.requires.to_glue.given;
      present = All-nil (ArePresent (length (tiles ++ [])));
      loose = All-nil (IsLoose t f tiles);
      taken = λ k l. absurd (omega (arith, l));
    } in (
      record {
        grows = GrowsTo-self t f c.requires.to_glue.frame;
        inside = All-nil (IsGluedInside t f (length f.digits));
        joined = All-nil (CanBeJoined t (full t f));
        least = λ k l h. absurd (omega (arith, l, h));
      },
      subst (λ (xs : List PlacedTile). ArePaired t f tiles 0 0 xs c.in_ok-with_capacity.field-0.items) (sym c.new.ensures.items)
          (subst (λ (ps : List Pair). ArePaired t f tiles 0 0 [] ps) (sym c.in_ok-with_capacity.ensures.items) none),
    )

pub loop-number-preserved : goal.loop-number-preserved
loop-number-preserved c =
    let m = c.args.machine.now in
    let L = c.glue_laws.ensures in
    let t = tiling_of m in
    let old = c.args.frame.now in
    let now = c.loop-number.frame in
    let after = c.other_half.new.frame in
    let tiles : List PlacedTile = c.args.tiles.now in
    let i = c.loop-number.number in
    let below = c.loop-number-test.true in
    let x = given_tile tiles i in
    let settled = c.loop-number.invariant.0 in
    let up = c.in_ok-found.ensures.ends.frame in
    let all_now = all-on m L old now c.requires.to_glue.frame settled.grows tiles c.requires.to_glue.given in
    let all_after = all-on m L now after settled.grows.is_frame up tiles all_now in
    let paired = paired-on m L now after settled.grows.is_frame up tiles 0 i c.loop-number.made.crossed.items
    c.loop-number.made.pairs.items (omega (arith, below)) all_now c.loop-number.invariant.1 in
    let ps : List Pair = c.loop-number.made.pairs.items ++ added_pairs tiles i (length c.loop-number.made.crossed.items) c.in_ok-found.found in (
      one-more m L old now c.requires.to_glue.frame tiles c.requires.to_glue.given i below x
          (get_or_default tiles i x no_tile below) settled after up c.in_ok-found.ensures.joined.inside
          c.in_ok-found.ensures.joined.can_be_joined c.in_ok-found.ensures.ends.least,
      subst (λ (ps : List Pair). ArePaired t after tiles 0 (i + 1) c.put.new.made.crossed.items ps) (sym c.in_ok-put.ensures.pairs)
          (subst (λ (xs : List PlacedTile). ArePaired t after tiles 0 (i + 1) xs ps) (sym c.in_ok-put.ensures.crossed)
          (taken-too t after tiles 0 i below c.loop-number.made.crossed.items c.loop-number.made.pairs.items
          all_after paired c.in_ok-found.found c.in_ok-found.ensures.joined.found)),
    )

pub returns-clause-paired : goal.returns-clause-paired
returns-clause-paired c =
    all-paired (tiling_of c.args.machine.now) c.loop-number.frame c.args.tiles.now 0 c.loop-number.number
    c.loop-number.made.crossed.items c.loop-number.made.pairs.items
    (omega arith) c.loop-number.auto.number-end (λ l. omega (arith, l, c.loop-number-test.false)) c.loop-number.invariant.1

pub returns-in_err-found-clause-ends : goal.returns-in_err-found-clause-ends
returns-in_err-found-clause-ends c = record {
  frame = GrowsTo-then (tiling_of c.args.machine.now) c.args.frame.now c.loop-number.frame c.other_half.new.frame
      c.loop-number.invariant.0.grows c.in_err-found.ensures.ends.frame;
  not_beyond = left-behind (tiling_of c.args.machine.now) c.args.frame.now c.loop-number.frame c.loop-number.invariant.0.grows
      c.args.tiles.now _ (its-tile ((goal.at.returns-in_err-found-clause-ends c).After-other_half))
      c.loop-number.invariant.0.least c.other_half.new.frame c.in_err-found.ensures.ends.least;
  least = grind (arith, common_steps);
  within = grind (arith, common_steps);
  answered = λ can.
      let t = tiling_of c.args.machine.now in
      absurd (cc (c.in_err-found.ensures.ends.answered
      (subst (λ y. CanBeJoined t y (given_tile c.args.tiles.now c.loop-number.number))
      (sym (full-later t c.args.frame.now c.loop-number.frame c.loop-number.invariant.0.grows))
      (can c.loop-number.number no_tile c.loop-number-test.true))));
  cause = if_err-is _ c.from_residual-in_err-found.result c.in_err-found.field-0.0 c.from_residual-in_err-found.ensures.1
      (cause-of (tiling_of c.args.machine.now) c.args.frame.now c.loop-number.frame
      c.loop-number.invariant.0.grows c.args.tiles.now _ (its-tile ((goal.at.returns-in_err-found-clause-ends c).After-other_half))
      c.other_half.new.frame c.in_err-found.field-0.0 c.in_err-found.ensures.ends.cause);
}

pub returns-in_err-put-clause-ends : goal.returns-in_err-put-clause-ends
returns-in_err-put-clause-ends c = record {
  frame = GrowsTo-then (tiling_of c.args.machine.now) c.args.frame.now c.loop-number.frame c.other_half.new.frame
      c.loop-number.invariant.0.grows c.in_ok-found.ensures.ends.frame;
  not_beyond = left-behind (tiling_of c.args.machine.now) c.args.frame.now c.loop-number.frame c.loop-number.invariant.0.grows
      c.args.tiles.now _ (its-tile ((goal.at.returns-in_err-put-clause-ends c).After-other_half))
      c.loop-number.invariant.0.least c.other_half.new.frame c.in_ok-found.ensures.ends.least;
  least = grind (arith, common_steps);
  within = grind (arith, common_steps);
  answered = grind (arith, common_steps);
  cause = grind (arith, common_steps);
}

pub returns-clause-ends : goal.returns-clause-ends
returns-clause-ends c = record {
  frame = grind (arith, common_steps);
  not_beyond = c.loop-number.invariant.0.least;
  least = record {
    inside = subst (All (IsGluedInside (tiling_of c.args.machine.now) c.args.frame.now
        (length c.loop-number.frame.digits))) (take_all c.loop-number.number c.args.tiles.now
        c.loop-number-test.false) c.loop-number.invariant.0.inside;
    least = c.loop-number.invariant.0.least;
  };
  within = subst (All (CanBeJoined (tiling_of c.args.machine.now)
      (full (tiling_of c.args.machine.now) c.args.frame.now)))
      (take_all c.loop-number.number c.args.tiles.now c.loop-number-test.false)
      c.loop-number.invariant.0.joined;
  answered = grind (arith, common_steps);
  cause = grind (arith, common_steps);
}
