use Rattle.std.proofs.Common.{◌≡◌, ◌+◌, ◌++◌, length, map, slice_get, ap, refl, sym, ◌∙◌, ◌-◌, arith, length-append}
use Rattle.tile_shape.specs.UsesInOrder.{uses_in_row}
use Rattle.theory_addresses.proofs.Ranges.{slice_get-append_left}
use Rattle.tile_shape.proofs.UseRows.{rows_rest, rows_step, row_short, slice_get-behind}
use Rattle.tile_shape.proofs.uses.use_in_rows.Goals as goal

pub use_in_row-requires : goal.use_in_row-requires
use_in_row-requires c = record {
  short = rw c.as_slice.ensures.value
      (row_short (λ row. row.items) c.args.rows.now c.loop-parent.parent c.index-rows-parent.result
      c.requires.usable c.loop-parent-test.true c.index-rows-parent.is);
}

pub returns-in-Ok : goal.returns-in-Ok
returns-in-Ok c =
    let rest = rows_rest c.args.kind (c.loop-parent.parent + 1) (map (λ row. row.items) c.args.rows.now) in
    let here = uses_in_row c.args.kind c.loop-parent.parent 0 c.as_slice.result.now in
    let split : rows_rest c.args.kind c.loop-parent.parent (map (λ row. row.items) c.args.rows.now) ≡ here ++ rest =
    rows_step (λ row. row.items) c.args.rows.now c.args.kind c.loop-parent.parent c.index-rows-parent.result
    c.loop-parent-test.true c.index-rows-parent.is
    ∙ ap (λ xs. uses_in_row c.args.kind c.loop-parent.parent 0 xs ++ rest) (sym c.as_slice.ensures.value) in
    sym c.loop-parent.invariant.same ∙ ap (λ xs. slice_get xs c.loop-parent.left) split
    ∙ slice_get-append_left here rest c.loop-parent.left c.in-Ok.ensures.within ∙ c.in-Ok.ensures.found

pub loop-parent-preserved : goal.loop-parent-preserved
loop-parent-preserved c =
    let rest = rows_rest c.args.kind (c.loop-parent.parent + 1) (map (λ row. row.items) c.args.rows.now) in
    let here = uses_in_row c.args.kind c.loop-parent.parent 0 c.as_slice.result.now in
    let split : rows_rest c.args.kind c.loop-parent.parent (map (λ row. row.items) c.args.rows.now) ≡ here ++ rest =
    rows_step (λ row. row.items) c.args.rows.now c.args.kind c.loop-parent.parent c.index-rows-parent.result
    c.loop-parent-test.true c.index-rows-parent.is
    ∙ ap (λ xs. uses_in_row c.args.kind c.loop-parent.parent 0 xs ++ rest) (sym c.as_slice.ensures.value) in
    let past : c.in-Err.behind ≡ c.loop-parent.left - length here = omega (arith, c.in-Err.ensures.left) in
    record {
      same = ap (slice_get rest) past ∙ sym (slice_get-behind here rest c.loop-parent.left (length here) refl
          (omega (arith, c.in-Err.ensures.left))) ∙ ap (λ xs. slice_get xs c.loop-parent.left) (sym split)
          ∙ c.loop-parent.invariant.same;
      within = omega (arith, c.loop-parent.invariant.within, ap length split, length-append here rest, c.in-Err.ensures.left);
    }
