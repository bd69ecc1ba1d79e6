use Rattle.std.proofs.Common.{List, ℕ, ◌++◌, ◌≤◌, length, take, ap, ◌∙◌, arith, length-append}
use Rattle.std.proofs.lemmas.List.{take_all, length-take}
use Rattle.theory_addresses.proofs.Lists.{AllByRecursion-among}
use Rattle.theory_addresses.proofs.Ranges.{place-among}
use Rattle.transducer_core.specs.RowBlocks.{blocks_of}
use Rattle.transducer_core.proofs.RowKept.{placed_none, placed_more, words_short, last_of_row}
use Rattle.transducer_core.proofs.Standing
use Rattle.transducer_core.proofs.merging.place_row.Goals as goal

pub loop-number-init : goal.loop-number-init
loop-number-init c = λ blocks h. placed_none blocks c.args.kept.now.words.items c.args.kept.now.ends.items c.args.starts.now.items h

pub keep-requires-clause-there : goal.keep-requires-clause-there
keep-requires-clause-there c =
    let p = c.loop-number.invariant c.requires.kept.0 c.requires.kept.1 in
    let wrote = c.in_ok-write_block.ensures in (
      c.requires.kept.0 ++ p.more,
      wrote.0,
      last_of_row (c.requires.kept.0 ++ p.more) wrote.0
          c.loop-number.kept.words.items c.write_block.new.words.items c.loop-number.kept.ends.items
          c.len-last.result p.kept_are wrote.2 (c.len-last.ensures ∙ c.loop-number.kept.words.ok.0),
    )

pub keep-requires-clause-room : goal.keep-requires-clause-room
keep-requires-clause-room c =
    let p = c.loop-number.invariant c.requires.kept.0 c.requires.kept.1 in
    let wrote = c.in_ok-write_block.ensures in
    let short = AllByRecursion-among (λ (b : List ℕ). length b ≤ 16) wrote.0
    (blocks_of c.args.which c.args.row.now) (place-among wrote.0 (blocks_of c.args.which c.args.row.now)
    c.loop-number.number wrote.1) c.requires.short in
    let grown = words_short c.requires.kept.0 (take c.loop-number.number
    (blocks_of c.args.which c.args.row.now)) c.args.kept.now.words.items c.args.kept.now.ends.items
    c.loop-number.kept.words.items c.loop-number.kept.ends.items c.args.starts.now.items
    c.loop-number.starts.items c.requires.kept.1 p in
    omega (
      arith,
      ap (λ (l : List ℕ). length l) wrote.2,
      length-append c.loop-number.kept.words.items wrote.0,
      short,
      grown,
      length-take c.loop-number.number (blocks_of c.args.which c.args.row.now),
      c.requires.room,
      c.requires.few,
      c.block_count-number-end.ensures,
      c.loop-number-test.true,
    )

pub loop-number-preserved : goal.loop-number-preserved
loop-number-preserved c = λ blocks h.
    let p = c.loop-number.invariant blocks h in
    let wrote = c.in_ok-write_block.ensures in
    let short = AllByRecursion-among (λ (b : List ℕ). length b ≤ 16) wrote.0
    (blocks_of c.args.which c.args.row.now) (place-among wrote.0 (blocks_of c.args.which c.args.row.now)
    c.loop-number.number wrote.1) c.requires.short in
    let next = Standing.take_at (blocks_of c.args.which c.args.row.now) c.loop-number.number wrote.0 wrote.1 in
    let last = last_of_row (blocks ++ p.more) wrote.0 c.loop-number.kept.words.items
    c.write_block.new.words.items c.loop-number.kept.ends.items c.len-last.result p.kept_are wrote.2
    (c.len-last.ensures ∙ c.loop-number.kept.words.ok.0) in
    let one = c.in_ok-keep.ensures (blocks ++ p.more) wrote.0 last in
    rw next (placed_more blocks (take c.loop-number.number (blocks_of c.args.which c.args.row.now)) wrote.0
    c.loop-number.kept.words.items c.loop-number.kept.ends.items c.args.starts.now.items
    c.loop-number.starts.items c.keep.new.kept.words.items c.keep.new.kept.ends.items
    c.push.new.self.items c.in_ok-keep.field-0 short p one c.in_ok-push.ensures.items)

pub returns : goal.returns
returns c = λ blocks h.
    let whole = take_all c.loop-number.number (blocks_of c.args.which c.args.row.now)
    (omega (arith, c.block_count-number-end.ensures, c.loop-number-test.false)) in
    rw whole at (c.loop-number.invariant blocks h)
