use Rattle.std.proofs.Common.{◌≡◌, ◌∙◌, ◌-◌, ℕ, map, ap, sym, subst, refl, arith, List, [], ◌∷◌, ◌++◌, Some}
use Rattle.std.proofs.lemmas.List.{map-append}
use Rattle.edge_tables.specs.Views.{as_child_edge}
use Rattle.theory_addresses.specs.Tables.{part_of, part_count}
use Rattle.theory_addresses.proofs.TableBounds.{part_there}
use Rattle.theory_addresses.proofs.Mated.{same_parts}
use Rattle.pair_machine.specs.Views.{as_node, as_row_pair}
use Rattle.pair_machine.proofs.AllFound.{row_upto, row_upto-none, row_upto-more, row_upto-all}
use Rattle.pair_machine.proofs.Finding.{node_mated}
use Rattle.pair_machine.proofs.row.row_of.Goals as goal

pub parts-count-requires : goal.parts-count-requires
parts-count-requires c = record { exists = rw (node_mated c.args.tables.now (as_node c.args.node) c.requires.coherent c.requires.node).own_is refl }

pub loop-p-init : goal.loop-p-init
loop-p-init c = rw (row_upto-none c.args.tables.now (as_node c.args.node), c.new-row.ensures.items) refl

pub part-mine-requires : goal.part-mine-requires
part-mine-requires c = record {
  exists = part_there c.args.tables.now c.args.node.kind c.args.node.edge
      c.loop-p.p (omega (arith, c.parts-count.ensures.count));
}

pub part-theirs-requires : goal.part-theirs-requires
part-theirs-requires c =
    let same = same_parts c.args.tables.now c.args.node.kind c.args.node.edge c.args.node.other
    c.args.node.back c.requires.coherent (node_mated c.args.tables.now (as_node c.args.node)
    c.requires.coherent c.requires.node) in
    record {
      exists = part_there c.args.tables.now c.args.node.other c.args.node.back
          (c.parts-count.result - 1 - c.loop-p.p) (omega (arith, c.parts-count.ensures.count, same));
    }

pub loop-p-preserved : goal.loop-p-preserved
loop-p-preserved c =
    let theirs : part_of c.args.tables.now c.args.node.other c.args.node.back
    (part_count c.args.tables.now c.args.node.kind c.args.node.edge - 1 - c.loop-p.p) ≡ Some
    (as_child_edge c.part-theirs.result) =
    subst (λ (n : ℕ). part_of c.args.tables.now c.args.node.other c.args.node.back (n - 1 - c.loop-p.p) ≡ Some
    (as_child_edge c.part-theirs.result)) c.parts-count.ensures.count c.part-theirs.ensures in
    ap (map as_row_pair) c.in_ok-push.ensures.items
    ∙ map-append as_row_pair c.loop-p.row.items
    ((record { mine = c.part-mine.result; theirs = c.part-theirs.result }) ∷ [])
    ∙ ap (λ (l : List _). l ++ (record {
      mine = as_child_edge c.part-mine.result;
      theirs = as_child_edge c.part-theirs.result;
    }) ∷ []) c.loop-p.invariant
    ∙ sym (row_upto-more c.args.tables.now (as_node c.args.node) c.loop-p.p (as_child_edge c.part-mine.result)
    (as_child_edge c.part-theirs.result) c.part-mine.ensures theirs)

pub returns : goal.returns
returns c =
    let end : c.loop-p.p ≡ part_count c.args.tables.now c.args.node.kind c.args.node.edge = omega (arith, c.parts-count.ensures.count) in
    c.loop-p.invariant ∙ ap (row_upto c.args.tables.now (as_node c.args.node)) end ∙ row_upto-all c.args.tables.now (as_node c.args.node)
