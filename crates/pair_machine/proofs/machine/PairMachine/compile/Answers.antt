use Rattle.std.proofs.Common.{◌≡◌, ◌∙◌, ◌≤◌, ℕ, map, length, ap, sym, subst, arith, get_or}
use Rattle.std.proofs.lemmas.Grind.{common_steps}
use Rattle.std.proofs.Math.ListN.{get_or-map}
use Rattle.std.proofs.lemmas.List.{length-map}
use Rattle.theory_addresses.specs.Search.{IsAmong}
use Rattle.theory_addresses.specs.Tables.{Tables}
use Rattle.pair_machine.specs.declared.node.Node as program
use Rattle.pair_machine.specs.Nodes.{Node, IsNode}
use Rattle.pair_machine.specs.Numbers.{width_of, node_number}
use Rattle.pair_machine.specs.Machine.{IsMachine}
use Rattle.pair_machine.specs.Views.{as_node, as_row_pair}
use Rattle.pair_machine.proofs.Places.{read-among}
use Rattle.pair_machine.proofs.Finding.{node_small}
use Rattle.pair_machine.proofs.Marks.{number_within}
use Rattle.pair_machine.proofs.NumberedNodes.{Numbered, numbered_more, machine_of}
use Rattle.pair_machine.proofs.machine.PairMachine.compile.Goals as goal

abbrev none : program.Node
none = record { kind = 0; edge = 0; other = 0; back = 0 }

pub number_of-requires-clause-node : goal.number_of-requires-clause-node
number_of-requires-clause-node c =
    let i : IsAmong (as_node (get_or c.deref-node-items.result.now c.loop-node.node-index none)) (map as_node c.in_ok-nodes.nodes.items) =
    rw (← c.deref-node-items.ensures.value) (read-among as_node c.deref-node-items.result.now c.loop-node.node-index none (omega arith)) in
    (c.in_ok-nodes.ensures.all (as_node (get_or c.deref-node-items.result.now c.loop-node.node-index none))).0 i

pub index_mut-requires : goal.index_mut-requires
index_mut-requires c =
    let i : IsAmong (as_node (get_or c.deref-node-items.result.now c.loop-node.node-index none)) (map as_node c.in_ok-nodes.nodes.items) =
    rw (← c.deref-node-items.ensures.value) (read-among as_node c.deref-node-items.result.now c.loop-node.node-index none (omega arith)) in
    let node = (c.in_ok-nodes.ensures.all (as_node (get_or c.deref-node-items.result.now c.loop-node.node-index none))).0 i in
    let within = number_within (width_of c.args.tables.now) (as_node (get_or c.deref-node-items.result.now c.loop-node.node-index none))
    (node_small c.args.tables.now (as_node (get_or c.deref-node-items.result.now c.loop-node.node-index none)) c.width-width.ensures.coherent node) in
    let number : c.number.result ≡ node_number (width_of c.args.tables.now)
    (as_node (get_or c.deref-node-items.result.now c.loop-node.node-index none)) =
    c.number.ensures ∙ ap (λ (w : ℕ). node_number w
    (as_node (get_or c.deref-node-items.result.now c.loop-node.node-index none)))
    c.width-width.ensures.width in
    omega (arith, number, within, c.loop-node.invariant.numbered.size)

pub loop-node-preserved : goal.loop-node-preserved
loop-node-preserved c =
    let i : IsAmong (as_node (get_or c.deref-node-items.result.now c.loop-node.node-index none)) (map as_node c.in_ok-nodes.nodes.items) =
    rw (← c.deref-node-items.ensures.value) (read-among as_node c.deref-node-items.result.now c.loop-node.node-index none (omega arith)) in
    let node = (c.in_ok-nodes.ensures.all (as_node (get_or c.deref-node-items.result.now c.loop-node.node-index none))).0 i in
    let are : (m : Node) → IsAmong m (map as_node c.deref-node-items.result.now) → IsNode c.args.tables.now m =
    λ m j. let k : IsAmong m (map as_node c.in_ok-nodes.nodes.items) = rw (← c.deref-node-items.ensures.value)
    j in (c.in_ok-nodes.ensures.all m).0 k in
    let number : c.number.result ≡ node_number (width_of c.args.tables.now)
    (as_node (get_or c.deref-node-items.result.now c.loop-node.node-index none)) =
    c.number.ensures ∙ ap (λ (w : ℕ). node_number w
    (as_node (get_or c.deref-node-items.result.now c.loop-node.node-index none)))
    c.width-width.ensures.width in
    record {
      numbered = rw number
          (numbered_more c.args.tables.now (map as_node c.deref-node-items.result.now) c.loop-node.node-index
          c.loop-node.numbers.items (map (λ r. map as_row_pair r.items) c.loop-node.rows.list.items)
          (map (λ r. map as_row_pair r.items) c.number_of.new.self.list.items)
          (as_node (get_or c.deref-node-items.result.now c.loop-node.node-index none)) (as_node none)
          c.in_ok-numbers-2.field-0 c.width-width.ensures.coherent are
          (omega (arith, length-map c.deref-node-items.result.now as_node))
          (get_or-map as_node c.deref-node-items.result.now c.loop-node.node-index none) node
          c.loop-node.invariant.numbered c.in_ok-numbers-2.ensures.kept);
      indexed = c.in_ok-numbers-2.ensures.indexed;
    }

pub invariant_of-result : goal.invariant_of-result
invariant_of-result c =
    let numbered : Numbered c.args.tables.now (map as_node c.in_ok-nodes.nodes.items) c.loop-node.node-index
    c.loop-node.numbers.items (map (λ r. map as_row_pair r.items) c.loop-node.rows.list.items) =
    rw (← c.deref-node-items.ensures.value) c.loop-node.invariant.numbered in
    let end : c.loop-node.node-index ≡ length (map as_node c.in_ok-nodes.nodes.items) =
    omega (arith, length-map c.in_ok-nodes.nodes.items as_node, ap length c.deref-node-items.ensures.value) in
    let few : length (map as_node c.in_ok-nodes.nodes.items) ≤ 36864 = omega
    (arith, length-map c.in_ok-nodes.nodes.items as_node, c.in_ok-nodes.ensures.few) in
    let made = machine_of c.args.tables.now c.some_meets_itself-meets_itself.result
    (map as_node c.in_ok-nodes.nodes.items) c.loop-node.node-index c.loop-node.numbers.items
    (map (λ r. map as_row_pair r.items) c.loop-node.rows.list.items)
    c.width-width.ensures.coherent c.some_meets_itself-meets_itself.ensures c.in_ok-nodes.ensures.once c.in_ok-nodes.ensures.all few end numbered in
    subst (λ (t : Tables). IsMachine t c.some_meets_itself-meets_itself.result
    (map as_node c.in_ok-nodes.nodes.items) c.loop-node.numbers.items
    (map (λ r. map as_row_pair r.items) c.loop-node.rows.list.items)) (sym c.in_ok-copy.ensures) made

pub loop-node-init : goal.loop-node-init
loop-node-init c = grind (arith, common_steps)

pub returns : goal.returns
returns c = grind (arith, common_steps)
