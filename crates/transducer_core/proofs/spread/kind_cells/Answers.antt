use Rattle.std.proofs.Common.{◌≡◌, ◌<◌, List, ℕ, length, map, take, ap, arith, length-append}
use Rattle.std.proofs.lemmas.Grind.{elements, common_steps}
use Rattle.std.proofs.lemmas.List.{length-take, length-map}
use Rattle.transducer_core.proofs.Standing
use Rattle.transducer_core.proofs.Strides
use Rattle.transducer_core.specs.Merged.{last_cell}
use Rattle.transducer_core.proofs.spread.kind_cells.Goals as goal

pub loop-row-preserved : goal.loop-row-preserved
loop-row-preserved c =
    let rows : List (List ℕ) = map (λ r. map last_cell r.children.items) c.args.rows.now.items in
    let line : List ℕ = map last_cell c.row-item.result.children.items in
    let inside : c.loop-row.row-index < length c.args.rows.now.items = rw (← c.deref-row-items.ensures.value) c.loop-row-test.true in
    let at = Standing.mapped_at (λ r. map last_cell r.children.items) c.args.rows.now.items
    c.loop-row.row-index c.row-item.result inside
    (rw (← c.deref-row-items.ensures.value) c.row-item.is) in
    let next = Standing.take_at rows c.loop-row.row-index line at in
    let done : length (take c.loop-row.row-index rows) ≡ c.loop-row.row-index = omega (
      arith,
      length-take c.loop-row.row-index rows,
      length-map c.args.rows.now.items
          (λ r. map last_cell r.children.items),
      inside,
    ) in
    let pad = c.in_ok-fill_kinds.ensures in
    let more = Strides.spread_grown (take c.loop-row.row-index rows) line c.loop-row.flat.items
    c.push_kinds.new.list.items c.fill_kinds.new.list.items pad.0 c.in_ok-push_kinds.ensures pad.1
    (omega (arith, done, c.loop-row.invariant.size)) c.loop-row.invariant.spread in
    record {
      size = omega (
        arith,
        ap (λ (l : List ℕ). length l) c.in_ok-push_kinds.ensures,
        ap (λ (l : List ℕ). length l) pad.1,
        length-append c.loop-row.flat.items line,
        length-append c.push_kinds.new.list.items pad.0,
        length-map c.row-item.result.children.items last_cell,
        pad.2,
        c.len-in-loop-row.ensures,
        c.loop-row.invariant.size,
      );
      spread = rw next more;
      filled = rw next
          (Strides.filled_grown (take c.loop-row.row-index rows) line c.loop-row.flat.items
          c.push_kinds.new.list.items c.fill_kinds.new.list.items pad.0 c.in_ok-push_kinds.ensures pad.1
          (omega (
            arith,
            pad.2,
            length-map c.row-item.result.children.items last_cell,
            c.len-in-loop-row.ensures,
          )) pad.3 c.loop-row.invariant.filled);
    }

pub returns-clause-spread : goal.returns-clause-spread
returns-clause-spread c = grind (arith, elements)

pub returns-clause-filled : goal.returns-clause-filled
returns-clause-filled c = grind (arith, common_steps)
