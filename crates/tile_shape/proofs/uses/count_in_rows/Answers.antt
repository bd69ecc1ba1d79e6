use Rattle.std.proofs.Common.{◌≡◌, ◌+◌, length, map, ap, ◌∙◌, arith, length-append}
use Rattle.std.proofs.lemmas.List.{length-map}
use Rattle.tile_shape.specs.UsesInOrder.{uses_in_row}
use Rattle.tile_shape.proofs.UseRows.{rows_rest, rows_step, rows_end, row_short, some_use}
use Rattle.tile_shape.proofs.uses.count_in_rows.Goals as goal

pub count_in_row-count-requires : goal.count_in_row-count-requires
count_in_row-count-requires c = record {
  short = rw c.deref.ensures.value
      (row_short (λ row. row.items) c.args.rows.now c.loop-row.row-index c.row-item.result c.requires.usable
      c.loop-row-test.true c.row-item.is);
}

pub loop-row-preserved : goal.loop-row-preserved
loop-row-preserved c =
    let rest = rows_rest c.args.kind (c.loop-row.row-index + 1) (map (λ row. row.items) c.args.rows.now) in
    let here = uses_in_row c.args.kind c.loop-row.row-index 0 c.row-item.result.items in
    let split : length (rows_rest c.args.kind c.loop-row.row-index (map (λ row. row.items) c.args.rows.now)) ≡ length here + length rest =
    ap length (rows_step (λ row. row.items) c.args.rows.now c.args.kind c.loop-row.row-index c.row-item.result
    c.loop-row-test.true c.row-item.is) ∙ length-append here rest in
    let count : c.count_in_row-count.result ≡ length here =
    c.count_in_row-count.ensures.count c.loop-row.row-index
    ∙ ap (λ xs. length (uses_in_row c.args.kind c.loop-row.row-index 0 xs)) c.deref.ensures.value in
    record {
      counted = omega (arith, c.loop-row.invariant.counted, split, count);
      within = omega (arith, c.loop-row.invariant.within, c.count_in_row-count.ensures.at_most_16);
    }

pub returns-clause-some : goal.returns-clause-some
returns-clause-some c =
    let none = ap length (rows_end c.args.kind c.loop-row.row-index (map (λ row. row.items) c.args.rows.now)
    (omega (arith, length-map c.args.rows.now (λ row. row.items)))) in
    omega (
      arith,
      c.loop-row.invariant.counted,
      none,
      some_use (map (λ row. row.items) c.args.rows.now)
          c.args.kind c.requires.usable (omega (arith, length-map c.args.rows.now (λ row. row.items))),
    )
