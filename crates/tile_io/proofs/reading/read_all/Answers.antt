use Rattle.std.proofs.Common.{◌+◌, arith, take, length-take}
use Rattle.tile_io.specs.ReadingAll.{GivesPart}
use Rattle.tile_io.specs.declared.read_all_fault.ReadAllFault.TheVariants.{NoMemory}
use Rattle.tile_io.proofs.ReadingLemmas.{one_over, no_memory, at_error}
use Rattle.tile_io.proofs.reading.read_all.Goals as goal

pub returns-then-count-room-clause-part : goal.returns-then-count-room-clause-part
returns-then-count-room-clause-part g c =
    let count = c.in_ok-count.count in
    one_over _ _ _ c.loop-bytes.bytes.items (take count c.read.new.buf) c.args.most c.loop-bytes.invariant.given c.in_ok-count.ensures.gives
    (omega (
      arith,
      c.loop-bytes.bytes.ok.0,
      c.len.ensures,
      c.if-count-room.true,
      c.in_ok-count.ensures.within.0,
      c.min-wanted.ensures,
      c.read.auto.buf,
      c.loop-bytes.invariant.at_most,
      length-take count c.read.new.buf,
      length-take (c.min-wanted.result + 1) c.loop-bytes.buf,
    ))

pub returns-in_err-extend_from_slice-clause-part :
    goal.returns-in_err-extend_from_slice-clause-part
returns-in_err-extend_from_slice-clause-part g c =
    let count = c.in_ok-count.count in
    let left = g.R.Source.left in
    at_error c.from_residual-in_err-extend_from_slice.result NoMemory (GivesPart (left c.args.source.now) (left c.read.new.self) c.args.most)
    (c.from_residual-in_err-extend_from_slice.ensures.1)
    (no_memory _ _ _ c.loop-bytes.bytes.items (take count c.read.new.buf) c.args.most c.loop-bytes.invariant.given c.in_ok-count.ensures.gives
    (omega (
      arith,
      c.loop-bytes.bytes.ok.0,
      c.len.ensures,
      c.if-count-room.false,
      c.in_ok-count.ensures.within.0,
      c.loop-bytes.invariant.at_most,
      length-take count c.read.new.buf,
    )))
