use Rattle.std.proofs.Common.{◌≡◌, ◌-◌, ◌/◌, length, map, set, arith, ap, ◌∙◌}
use Rattle.std.proofs.Math.ListN.{length-set}
use Rattle.theory_addresses.specs.Contact.{ChildEdge}
use Rattle.tile_shape.specs.Views.{step_of}
use Rattle.transducer_core.proofs.DigitFalls
use Rattle.transducer_core.proofs.Falls
use Rattle.transducer_core.proofs.Falls.{Down}
use Rattle.transducer_core.proofs.descent.write_down.Goals.{then-level-eq1, else-level-eq1}
use Rattle.transducer_core.proofs.descent.write_down.Goals as goal

pub overflow_cast-parent : goal.overflow_cast-parent
overflow_cast-parent g c = omega (
  arith,
  DigitFalls.parent_small c.args.tables.now c.args.digits.now c.args.meeting
      c.args.parts.now c.parts-blocks.result.starts.now c.parts-blocks.result.words.now
      c.child_kinds-kinds.result.now c.requires.coherent c.parts-blocks.ensures c.child_kinds-kinds.ensures.spread c.requires.met,
)

pub bounds-digits-meeting : goal.bounds-digits-meeting
bounds-digits-meeting g c = DigitFalls.inside c.args.tables.now c.args.digits.now c.args.meeting c.args.parts.now
    c.parts-blocks.result.starts.now c.parts-blocks.result.words.now c.child_kinds-kinds.result.now
    c.requires.coherent c.parts-blocks.ensures c.child_kinds-kinds.ensures.spread c.requires.met

pub row_below-requires : goal.row_below-requires
row_below-requires g c = DigitFalls.cell_there c.args.tables.now c.args.digits.now c.args.meeting c.args.parts.now
    c.parts-blocks.result.starts.now c.parts-blocks.result.words.now c.child_kinds-kinds.result.now
    c.requires.coherent c.parts-blocks.ensures c.child_kinds-kinds.ensures.spread c.requires.met
    c.part_in-met.result.child c.cell.result (ap (λ (x : ChildEdge). x.child) c.part_in-met.ensures) c.cell.ensures

pub bounds-digits-level : goal.bounds-digits-level
bounds-digits-level g c = omega (
  arith,
  DigitFalls.inside c.args.tables.now c.args.digits.now c.args.meeting
      c.args.parts.now c.parts-blocks.result.starts.now c.parts-blocks.result.words.now
      c.child_kinds-kinds.result.now c.requires.coherent c.parts-blocks.ensures c.child_kinds-kinds.ensures.spread c.requires.met,
  length-set c.args.digits.now c.args.meeting.level
      (record { child = c.part_in-met.result.child; parent = c.args.meeting.at / 256 }),
)

pub fall-side-requires : goal.fall-side-requires
fall-side-requires g c =
    let begun : Down c.args.tables.now (map step_of c.args.digits.now) c.args.meeting c.args.parts.now
    c.args.meeting.level (map step_of (set c.args.digits.now c.args.meeting.level
    (record { child = c.part_in-met.result.child; parent = c.args.meeting.at / 256 })))
    (record { row = c.row_below.result; edge = c.from.result }) =
    DigitFalls.begun c.args.tables.now c.args.digits.now c.args.meeting c.args.parts.now
    c.parts-blocks.result.starts.now c.parts-blocks.result.words.now c.child_kinds-kinds.result.now
    c.requires.coherent c.parts-blocks.ensures c.child_kinds-kinds.ensures.spread c.requires.met
    c.part_in-met.result.child c.from.result c.cell.result c.row_below.result (ap (λ (x : ChildEdge). x.child) c.part_in-met.ensures)
    (c.from.ensures ∙ (ap (λ (x : ChildEdge). x.edge) c.part_in-met.ensures)) c.cell.ensures c.row_below.ensures in
    Falls.there c.args.tables.now (map step_of c.args.digits.now) c.args.meeting c.args.parts.now
    c.parts-blocks.result.starts.now c.parts-blocks.result.words.now c.child_kinds-kinds.result.now
    c.requires.coherent c.parts-blocks.ensures c.child_kinds-kinds.ensures.spread c.requires.met
    (c.args.meeting.level - 1) c.args.meeting.level (map step_of (set c.args.digits.now c.args.meeting.level
    (record { child = c.part_in-met.result.child; parent = c.args.meeting.at / 256 })))
    (record { row = c.row_below.result; edge = c.from.result }) (omega arith) (omega arith) begun

pub loop-level-init : goal.loop-level-init
loop-level-init g c =
    let begun : Down c.args.tables.now (map step_of c.args.digits.now) c.args.meeting c.args.parts.now
    c.args.meeting.level (map step_of (set c.args.digits.now c.args.meeting.level
    (record { child = c.part_in-met.result.child; parent = c.args.meeting.at / 256 })))
    (record { row = c.row_below.result; edge = c.from.result }) =
    DigitFalls.begun c.args.tables.now c.args.digits.now c.args.meeting c.args.parts.now
    c.parts-blocks.result.starts.now c.parts-blocks.result.words.now c.child_kinds-kinds.result.now
    c.requires.coherent c.parts-blocks.ensures c.child_kinds-kinds.ensures.spread c.requires.met
    c.part_in-met.result.child c.from.result c.cell.result c.row_below.result (ap (λ (x : ChildEdge). x.child) c.part_in-met.ensures)
    (c.from.ensures ∙ (ap (λ (x : ChildEdge). x.edge) c.part_in-met.ensures)) c.cell.ensures c.row_below.ensures in
    let count : length (set c.args.digits.now c.args.meeting.level
    (record { child = c.part_in-met.result.child; parent = c.args.meeting.at / 256 })) ≡ length
    c.args.digits.now = length-set c.args.digits.now c.args.meeting.level
    (record { child = c.part_in-met.result.child; parent = c.args.meeting.at / 256 }) in
    elim c.if-level-eq1.branch [
      | then-level-eq1 w ↦
          rw (w.digits-is, w.steps-is, w.side-is, w.level-is) (record {
            even = omega (arith, w.if-level-eq1.true);
            inside = omega arith;
            count = length-set (set c.args.digits.now c.args.meeting.level
                (record { child = c.part_in-met.result.child; parent = c.args.meeting.at / 256 }))
                (c.args.meeting.level - 1) w.fall-side.new.digit ∙ count;
            cost = omega (arith, w.if-level-eq1.true, w.fall-side.ensures.one_step);
            down = DigitFalls.written_down c.args.tables.now c.args.digits.now c.args.meeting c.args.parts.now
                c.parts-blocks.result.starts.now c.parts-blocks.result.words.now
                c.child_kinds-kinds.result.now c.requires.coherent c.parts-blocks.ensures c.child_kinds-kinds.ensures.spread c.requires.met
                (c.args.meeting.level - 1) c.args.meeting.level (set c.args.digits.now c.args.meeting.level
                (record { child = c.part_in-met.result.child; parent = c.args.meeting.at / 256 }))
                (record { row = c.row_below.result; edge = c.from.result }) w.fall-side.new.digit
                w.fall-side.result (omega (arith, w.if-level-eq1.true))
                (omega (arith, w.if-level-eq1.true)) count begun w.fall-side.ensures.down;
          })
      | else-level-eq1 w ↦
          rw (w.digits-is, w.steps-is, w.side-is, w.level-is) (record {
            even = omega (arith, w.if-level-eq1.false);
            inside = omega arith;
            count = count;
            cost = omega arith;
            down = begun;
          })
    ]

pub bounds-digits-level-in-loop-level : goal.bounds-digits-level-in-loop-level
bounds-digits-level-in-loop-level g c = omega (
  arith,
  DigitFalls.inside c.args.tables.now c.args.digits.now c.args.meeting c.args.parts.now
      c.parts-blocks.result.starts.now c.parts-blocks.result.words.now c.child_kinds-kinds.result.now
      c.requires.coherent c.parts-blocks.ensures c.child_kinds-kinds.ensures.spread c.requires.met,
  c.loop-level.invariant.inside,
  c.loop-level.invariant.count,
)

pub fall-side-requires-in-loop-level : goal.fall-side-requires-in-loop-level
fall-side-requires-in-loop-level g c =
    Falls.there c.args.tables.now (map step_of c.args.digits.now) c.args.meeting c.args.parts.now
    c.parts-blocks.result.starts.now c.parts-blocks.result.words.now c.child_kinds-kinds.result.now
    c.requires.coherent c.parts-blocks.ensures c.child_kinds-kinds.ensures.spread c.requires.met
    (c.loop-level.level - 1) c.loop-level.level (map step_of c.loop-level.digits) c.loop-level.side
    (omega (arith, c.loop-level.invariant.inside)) (omega arith) c.loop-level.invariant.down

pub bounds-digits-level-in-loop-level-2 : goal.bounds-digits-level-in-loop-level-2
bounds-digits-level-in-loop-level-2 g c = omega (
  arith,
  DigitFalls.inside c.args.tables.now c.args.digits.now c.args.meeting c.args.parts.now
      c.parts-blocks.result.starts.now c.parts-blocks.result.words.now c.child_kinds-kinds.result.now
      c.requires.coherent c.parts-blocks.ensures c.child_kinds-kinds.ensures.spread c.requires.met,
  c.loop-level.invariant.inside,
  c.loop-level.invariant.count,
  length-set c.loop-level.digits
      (c.loop-level.level - 1) c.fall-side-in-loop-level.new.digit,
)

pub fall-side-requires-in-loop-level-2 : goal.fall-side-requires-in-loop-level-2
fall-side-requires-in-loop-level-2 g c =
    let lower = DigitFalls.written_down c.args.tables.now c.args.digits.now c.args.meeting c.args.parts.now
    c.parts-blocks.result.starts.now c.parts-blocks.result.words.now c.child_kinds-kinds.result.now
    c.requires.coherent c.parts-blocks.ensures c.child_kinds-kinds.ensures.spread c.requires.met
    (c.loop-level.level - 1) c.loop-level.level c.loop-level.digits c.loop-level.side
    c.fall-side-in-loop-level.new.digit c.fall-side-in-loop-level.result
    (omega (arith, c.loop-level.invariant.inside)) (omega arith) c.loop-level.invariant.count
    c.loop-level.invariant.down c.fall-side-in-loop-level.ensures.down in
    let count : length (set c.loop-level.digits (c.loop-level.level - 1) c.fall-side-in-loop-level.new.digit)
    ≡ length c.args.digits.now = length-set c.loop-level.digits (c.loop-level.level - 1)
    c.fall-side-in-loop-level.new.digit ∙ c.loop-level.invariant.count in
    Falls.there c.args.tables.now (map step_of c.args.digits.now) c.args.meeting c.args.parts.now
    c.parts-blocks.result.starts.now c.parts-blocks.result.words.now c.child_kinds-kinds.result.now
    c.requires.coherent c.parts-blocks.ensures c.child_kinds-kinds.ensures.spread c.requires.met
    (c.loop-level.level - 2) (c.loop-level.level - 1)
    (map step_of (set c.loop-level.digits (c.loop-level.level - 1) c.fall-side-in-loop-level.new.digit))
    c.fall-side-in-loop-level.result (omega (arith, c.loop-level.invariant.inside)) (omega (arith, c.loop-level.invariant.even)) lower

pub loop-level-preserved : goal.loop-level-preserved
loop-level-preserved g c =
    let lower = DigitFalls.written_down c.args.tables.now c.args.digits.now c.args.meeting c.args.parts.now
    c.parts-blocks.result.starts.now c.parts-blocks.result.words.now c.child_kinds-kinds.result.now
    c.requires.coherent c.parts-blocks.ensures c.child_kinds-kinds.ensures.spread c.requires.met
    (c.loop-level.level - 1) c.loop-level.level c.loop-level.digits c.loop-level.side
    c.fall-side-in-loop-level.new.digit c.fall-side-in-loop-level.result
    (omega (arith, c.loop-level.invariant.inside)) (omega arith) c.loop-level.invariant.count
    c.loop-level.invariant.down c.fall-side-in-loop-level.ensures.down in
    let count : length (set c.loop-level.digits (c.loop-level.level - 1) c.fall-side-in-loop-level.new.digit)
    ≡ length c.args.digits.now = length-set c.loop-level.digits (c.loop-level.level - 1)
    c.fall-side-in-loop-level.new.digit ∙ c.loop-level.invariant.count in
    record {
      even = omega (arith, c.loop-level.invariant.even);
      inside = omega (arith, c.loop-level.invariant.inside);
      count = length-set (set c.loop-level.digits (c.loop-level.level - 1)
          c.fall-side-in-loop-level.new.digit) (c.loop-level.level - 2) c.fall-side-in-loop-level-2.new.digit ∙ count;
      cost = omega (
        arith,
        c.loop-level.invariant.cost,
        c.loop-level.invariant.even,
        c.fall-side-in-loop-level.ensures.one_step,
        c.fall-side-in-loop-level-2.ensures.one_step,
      );
      down = DigitFalls.written_down c.args.tables.now c.args.digits.now c.args.meeting c.args.parts.now
          c.parts-blocks.result.starts.now c.parts-blocks.result.words.now c.child_kinds-kinds.result.now
          c.requires.coherent c.parts-blocks.ensures c.child_kinds-kinds.ensures.spread c.requires.met
          (c.loop-level.level - 2) (c.loop-level.level - 1)
          (set c.loop-level.digits (c.loop-level.level - 1) c.fall-side-in-loop-level.new.digit)
          c.fall-side-in-loop-level.result c.fall-side-in-loop-level-2.new.digit
          c.fall-side-in-loop-level-2.result (omega (arith, c.loop-level.invariant.inside))
          (omega (arith, c.loop-level.invariant.even)) count lower c.fall-side-in-loop-level-2.ensures.down;
    }

pub returns-clause-touches : goal.returns-clause-touches
returns-clause-touches g c = Falls.touches c.args.tables.now (map step_of c.args.digits.now) c.args.meeting
    c.args.parts.now c.parts-blocks.result.starts.now c.parts-blocks.result.words.now
    c.child_kinds-kinds.result.now c.requires.coherent c.parts-blocks.ensures c.child_kinds-kinds.ensures.spread
    c.requires.met c.loop-level.level (map step_of c.loop-level.digits) c.loop-level.side (omega arith) c.loop-level.invariant.down

pub returns-clause-fits : goal.returns-clause-fits
returns-clause-fits g c = Falls.fits c.args.tables.now (map step_of c.args.digits.now) c.args.meeting
    c.args.parts.now c.parts-blocks.result.starts.now c.parts-blocks.result.words.now
    c.child_kinds-kinds.result.now c.requires.coherent c.parts-blocks.ensures c.child_kinds-kinds.ensures.spread
    c.requires.met c.loop-level.level (map step_of c.loop-level.digits) c.loop-level.side (omega arith) c.loop-level.invariant.down

pub returns-clause-edge_exists : goal.returns-clause-edge_exists
returns-clause-edge_exists g c = Falls.edge c.args.tables.now (map step_of c.args.digits.now) c.args.meeting
    c.args.parts.now c.parts-blocks.result.starts.now c.parts-blocks.result.words.now
    c.child_kinds-kinds.result.now c.requires.coherent c.parts-blocks.ensures c.child_kinds-kinds.ensures.spread
    c.requires.met c.loop-level.level (map step_of c.loop-level.digits) c.loop-level.side c.loop-level.invariant.down
