use Rattle.std.proofs.Common.{List, length, Ok, sym, ap, subst, arith}
use Rattle.rule_model.specs.Tiling.{tiling_of}
use Rattle.tile_place.specs.declared.placed_tile.PlacedTile.{PlacedTile}
use Rattle.half_glue.specs.Ends.{GluesTo}
use Rattle.half_glue.specs.Given.{AreToGlue}
use Rattle.half_glue.specs.WholeTiles.{AreWholeTilesOf}
use Rattle.half_glue.proofs.HandedOn.{handed-on, well-ended, full-ended}
use Rattle.half_glue.proofs.Wholes.{all-keyed, all-no_deeper, are-wholes}
use Rattle.half_glue.proofs.glue.glue.Goals as goal

pub paired-requires : goal.paired-requires
paired-requires c = record {
  to_glue = subst (AreToGlue (tiling_of c.args.machine.now) c.args.frame.now) (sym c.as_slice-given.ensures.value) c.requires.to_glue;
}

pub arranged-requires-clause-keyed : goal.arranged-requires-clause-keyed
arranged-requires-clause-keyed c = record {
  few =
      let l = c.in_ok-made.ensures.paired.few in
      let k = c.requires.to_glue.few in
      let same = ap length c.as_slice-given.ensures.value in
      omega (arith, l, k, same);
  numbered = c.in_ok-made.ensures.paired.present;
  fit = all-keyed c.args.machine.now c.glue_laws.ensures c.paired.new.frame c.in_ok-made.ensures.ends.frame.is_frame
      c.as_slice-given.result.now c.in_ok-made.made.crossed.items c.in_ok-made.made.pairs.items
      c.in_ok-made.ensures.paired;
}

pub arranged-requires-clause-no_deeper : goal.arranged-requires-clause-no_deeper
arranged-requires-clause-no_deeper c =
    all-no_deeper c.args.machine.now c.glue_laws.ensures c.paired.new.frame
    c.in_ok-made.ensures.ends.frame.is_frame c.as_slice-given.result.now c.in_ok-made.made.crossed.items
    c.in_ok-made.made.pairs.items c.in_ok-made.ensures.paired

pub returns-clause-whole_tiles : goal.returns-clause-whole_tiles
returns-clause-whole_tiles c =
    subst (λ (ts : List PlacedTile). AreWholeTilesOf (tiling_of c.args.machine.now) c.paired.new.frame ts c.in_ok-arranged.field-0.items)
    c.as_slice-given.ensures.value
    (are-wholes c.args.machine.now c.glue_laws.ensures c.paired.new.frame c.in_ok-made.ensures.ends.frame.is_frame
    c.as_slice-given.result.now c.in_ok-made.made.crossed.items c.in_ok-made.made.pairs.items
    c.in_ok-made.ensures.paired c.in_ok-arranged.field-0.items c.in_ok-arranged.ensures.same)

pub returns-clause-ends : goal.returns-clause-ends
returns-clause-ends c =
    let t = tiling_of c.args.machine.now in
    subst (λ (ts : List PlacedTile). GluesTo t c.args.frame.now c.paired.new.frame ts (Ok c.in_ok-arranged.field-0)) c.as_slice-given.ensures.value
    (well-ended t c.args.frame.now c.paired.new.frame c.as_slice-given.result.now c.in_ok-made.made c.in_ok-arranged.field-0
    c.in_ok-made.ensures.ends)

pub returns-in_err-made-clause-ends : goal.returns-in_err-made-clause-ends
returns-in_err-made-clause-ends c =
    let t = tiling_of c.args.machine.now in
    subst (λ (ts : List PlacedTile). GluesTo t c.args.frame.now c.paired.new.frame ts c.from_residual.result) c.as_slice-given.ensures.value
    (handed-on t c.args.frame.now c.paired.new.frame c.as_slice-given.result.now c.in_err-made.field-0.0
    c.from_residual.result c.from_residual.ensures.1 c.in_err-made.ensures.ends)

pub returns-in_err-arranged-clause-ends : goal.returns-in_err-arranged-clause-ends
returns-in_err-arranged-clause-ends c =
    let t = tiling_of c.args.machine.now in
    let r = c.from_residual-in_err-arranged in
    subst (λ (ts : List PlacedTile). GluesTo t c.args.frame.now c.paired.new.frame ts r.result) c.as_slice-given.ensures.value
    (full-ended t c.args.frame.now c.paired.new.frame c.as_slice-given.result.now c.in_ok-made.made r.result r.ensures.1
    c.in_ok-made.ensures.ends)
