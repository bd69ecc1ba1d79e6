use Rattle.std.proofs.Common.{◌≡◌, ◌∙◌, ◌<◌, ℕ, Some, length, map, ap, sym, arith, get_or}
use Rattle.std.proofs.lemmas.List.{length-map}
use Rattle.std.proofs.lemmas.Option.{slice_get_within, get_or_from_slice_get}
use Rattle.pair_machine.specs.Nodes.{IsNode, row_of}
use Rattle.pair_machine.specs.Numbers.{width_of, node_number}
use Rattle.pair_machine.specs.Views.{as_node, as_row_pair}
use Rattle.pair_machine.proofs.Places.{image_at}
use Rattle.pair_machine.proofs.machine.PairMachine.row.Goals as goal

pub index-requires : goal.index-requires
index-requires c =
    let node : IsNode c.self.inside.tables (as_node c.args.node) = rw c.self.view_is c.requires.node in
    let f = c.self.invariant.found (as_node c.args.node) node in
    let number : c.number.result ≡ node_number (width_of c.self.inside.tables) (as_node c.args.node)
    = c.number.ensures ∙ ap (λ (w : ℕ). node_number w (as_node c.args.node)) c.width.ensures.width in
    omega (
      arith,
      number,
      slice_get_within c.self.inside.numbers.items
          (node_number (width_of c.self.inside.tables) (as_node c.args.node)) f.place f.numbered,
    )

pub index-requires-2 : goal.index-requires-2
index-requires-2 c =
    let node : IsNode c.self.inside.tables (as_node c.args.node) = rw c.self.view_is c.requires.node in
    let f = c.self.invariant.found (as_node c.args.node) node in
    let number : c.number.result ≡ node_number (width_of c.self.inside.tables) (as_node c.args.node)
    = c.number.ensures ∙ ap (λ (w : ℕ). node_number w (as_node c.args.node)) c.width.ensures.width in
    let place : c.from.result ≡ f.place = c.from.ensures ∙ c.index.ensures
    ∙ ap (λ (k : ℕ). get_or c.self.inside.numbers.items k c.index.result.now) number
    ∙ get_or_from_slice_get c.self.inside.numbers.items
    (node_number (width_of c.self.inside.tables) (as_node c.args.node)) f.place c.index.result.now
    f.numbered in
    omega (
      arith,
      place,
      slice_get_within (map (λ row. map as_row_pair row.items) c.self.inside.rows.items) f.place
          (row_of c.self.inside.tables (as_node c.args.node)) f.there,
      length-map c.self.inside.rows.items (λ row. map as_row_pair row.items),
    )

pub returns : goal.returns
returns c =
    let node : IsNode c.self.inside.tables (as_node c.args.node) = rw c.self.view_is c.requires.node in
    let f = c.self.invariant.found (as_node c.args.node) node in
    let number : c.number.result ≡ node_number (width_of c.self.inside.tables) (as_node c.args.node)
    = c.number.ensures ∙ ap (λ (w : ℕ). node_number w (as_node c.args.node)) c.width.ensures.width in
    let place : c.from.result ≡ f.place = c.from.ensures ∙ c.index.ensures
    ∙ ap (λ (k : ℕ). get_or c.self.inside.numbers.items k c.index.result.now) number
    ∙ get_or_from_slice_get c.self.inside.numbers.items
    (node_number (width_of c.self.inside.tables) (as_node c.args.node)) f.place c.index.result.now
    f.numbered in
    let inside : f.place < length c.self.inside.rows.items =
    omega (
      arith,
      slice_get_within (map (λ row. map as_row_pair row.items) c.self.inside.rows.items) f.place
          (row_of c.self.inside.tables (as_node c.args.node)) f.there,
      length-map c.self.inside.rows.items (λ row. map as_row_pair row.items),
    ) in
    let at = image_at (λ row. map as_row_pair row.items) c.self.inside.rows.items f.place c.from.result
    c.index-2.result.now place inside c.index-2.ensures in
    let two : Some (map as_row_pair c.index-2.result.now.items) ≡ Some (row_of c.self.inside.tables (as_node c.args.node)) = sym at ∙ f.there in
    let one : map as_row_pair c.index-2.result.now.items ≡ row_of c.self.inside.tables (as_node c.args.node) = cc in
    record { row = rw (← c.self.view_is) one; coherent = rw (← c.self.view_is) c.self.invariant.coherent }
