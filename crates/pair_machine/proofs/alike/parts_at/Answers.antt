use Rattle.std.proofs.Common.{◌≡◌, ◌∙◌, ◌<◌, ◌/◌, ◌%◌, List, length, map, Some, ap, sym, arith, slice_get}
use Rattle.std.proofs.lemmas.List.{length-map}
use Rattle.edge_tables.specs.declared.child_edge.ChildEdge.{ChildEdge}
use Rattle.edge_tables.specs.Views.{as_child_edge, as_kind_tables}
use Rattle.pair_machine.proofs.RowKeys.{kind_there, parts_there, parts_past}
use Rattle.pair_machine.proofs.Places.{image_at}
use Rattle.pair_machine.proofs.alike.parts_at.Goals as goal

pub returns-then-edge-len : goal.returns-then-edge-len
returns-then-edge-len c =
    let r = c.index-row.result.now in
    let inside : c.args.number / 12 < length c.rows.result.now.items = omega (
      arith,
      length-map c.rows.result.now.items as_kind_tables,
      ap length c.rows.ensures.lists,
      c.requires,
    ) in
    let kind = kind_there c.args.tables.now c.rows.result.now.items (c.args.number / 12) r
    c.rows.ensures.lists (image_at as_kind_tables c.rows.result.now.items (c.args.number / 12)
    c.from.result r c.from.ensures inside c.index-row.ensures) in
    let edge : c.args.number % 12 < length r.parts.items = omega (arith, c.from-edge.ensures, c.len.ensures, c.if-edge-len.true) in
    let at : slice_get (map (λ v. map as_child_edge v.items) r.parts.items) (c.args.number % 12) ≡ Some (map as_child_edge c.as_slice.result.now) =
    image_at (λ v. map as_child_edge v.items) r.parts.items (c.args.number % 12) c.from-edge.result
    c.index.result.now c.from-edge.ensures edge c.index.ensures
    ∙ ap (λ (l : List ChildEdge). Some (map as_child_edge l)) (sym c.as_slice.ensures.value) in
    parts_there c.args.tables.now (c.args.number / 12) (c.args.number % 12) r c.as_slice.result.now kind at

pub returns-else-edge-len : goal.returns-else-edge-len
returns-else-edge-len c =
    let r = c.index-row.result.now in
    let inside : c.args.number / 12 < length c.rows.result.now.items = omega (
      arith,
      length-map c.rows.result.now.items as_kind_tables,
      ap length c.rows.ensures.lists,
      c.requires,
    ) in
    let kind = kind_there c.args.tables.now c.rows.result.now.items (c.args.number / 12) r
    c.rows.ensures.lists (image_at as_kind_tables c.rows.result.now.items (c.args.number / 12)
    c.from.result r c.from.ensures inside c.index-row.ensures) in
    parts_past c.args.tables.now (c.args.number / 12) (c.args.number % 12) r kind
    (omega (arith, length-map r.parts.items (λ v. map as_child_edge v.items), c.from-edge.ensures, c.len.ensures, c.if-edge-len.false))
