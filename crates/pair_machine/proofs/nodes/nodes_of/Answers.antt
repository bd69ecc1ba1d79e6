use Rattle.std.proofs.Common.{◌≡◌, ◌∙◌, ◌<◌, map, length, ap, sym, arith, get_or, []}
use Rattle.std.proofs.Math.ListN.{get_or-map}
use Rattle.std.proofs.lemmas.List.{length-map}
use Rattle.theory_addresses.specs.Search.{IsAmong}
use Rattle.pair_machine.specs.Nodes.{IsNode}
use Rattle.pair_machine.specs.Views.{as_node}
use Rattle.pair_machine.proofs.Places.{read-among}
use Rattle.pair_machine.proofs.AllFound.{covers_nodes, covers_length, rows_more, all_found}
use Rattle.pair_machine.proofs.Finding.{first-node, row-node}
use Rattle.pair_machine.proofs.Marks.{kept_in}
use Rattle.pair_machine.proofs.nodes.nodes_of.Goals as goal

pub loop-next-init : goal.loop-next-init
loop-next-init c =
    let covers = c.in_ok-add_first.ensures in
    record {
      within = omega arith;
      seen = covers.seen_now;
      nodes = covers_nodes c.args.tables.now (map as_node c.in_ok-found.found.list.items) (map as_node c.add_first.new.self.list.items) _ _ _ covers
          (λ n i. first-node c.args.tables.now (length c.args.tables.now.kinds) n i)
          (λ n i. let j : IsAmong n [] = rw c.in_ok-found.ensures.empty at i in elim j [ ]);
      firsts = covers.all;
      rows = λ m n i. elim i [ ];
    }

pub row_of-requires-clause-node : goal.row_of-requires-clause-node
row_of-requires-clause-node c =
    let lt : c.loop-next.next < length c.loop-next.found.list.items = omega (arith, c.len.ensures) in
    let i = read-among as_node c.loop-next.found.list.items c.loop-next.next c.index-node.result.now lt in
    let node = c.loop-next.invariant.nodes (as_node (get_or c.loop-next.found.list.items c.loop-next.next c.index-node.result.now)) i in
    rw c.index-node.ensures node

pub add_row-requires-clause-node : goal.add_row-requires-clause-node
add_row-requires-clause-node c =
    let lt : c.loop-next.next < length c.loop-next.found.list.items = omega (arith, c.len.ensures) in
    let i = read-among as_node c.loop-next.found.list.items c.loop-next.next c.index-node.result.now lt in
    let node = c.loop-next.invariant.nodes (as_node (get_or c.loop-next.found.list.items c.loop-next.next c.index-node.result.now)) i in
    rw c.index-node.ensures node

pub loop-next-preserved : goal.loop-next-preserved
loop-next-preserved c =
    let lt : c.loop-next.next < length c.loop-next.found.list.items = omega (arith, c.len.ensures) in
    let i = read-among as_node c.loop-next.found.list.items c.loop-next.next c.index-node.result.now lt in
    let node' = c.loop-next.invariant.nodes (as_node (get_or c.loop-next.found.list.items c.loop-next.next c.index-node.result.now)) i in
    let node : IsNode c.args.tables.now (as_node c.index-node.result.now) = rw c.index-node.ensures node' in
    let covers = c.in_ok-add_row.ensures in
    let longer = covers_length _ _ _ _ _ covers in
    let at : get_or (map as_node c.loop-next.found.list.items) c.loop-next.next (as_node c.index-node.result.now) ≡ as_node c.index-node.result.now =
    get_or-map as_node c.loop-next.found.list.items c.loop-next.next c.index-node.result.now ∙ ap as_node (sym c.index-node.ensures) in
    record {
      within = omega (arith, longer, lt, length-map c.loop-next.found.list.items as_node, length-map c.add_row.new.self.list.items as_node);
      seen = covers.seen_now;
      nodes = covers_nodes c.args.tables.now (map as_node c.loop-next.found.list.items) (map as_node c.add_row.new.self.list.items) _ _ _ covers
          (λ n j. row-node c.args.tables.now (as_node c.index-node.result.now) n node j) c.loop-next.invariant.nodes;
      firsts = λ n j. kept_in n covers (c.loop-next.invariant.firsts n j);
      rows = rows_more c.args.tables.now (map as_node c.loop-next.found.list.items)
          (map as_node c.add_row.new.self.list.items) _ _ c.loop-next.next (as_node c.index-node.result.now)
          (as_node c.index-node.result.now)
          (omega (arith, lt, length-map c.loop-next.found.list.items as_node)) at covers c.loop-next.invariant.rows;
    }

pub returns-clause-all : goal.returns-clause-all
returns-clause-all c = λ n. (
  c.loop-next.invariant.nodes n,
  all_found c.args.tables.now (map as_node c.loop-next.found.list.items) c.loop-next.next
      c.width.ensures.coherent (omega (arith, c.len.ensures, length-map c.loop-next.found.list.items as_node))
      c.loop-next.invariant.firsts c.loop-next.invariant.rows n,
)
