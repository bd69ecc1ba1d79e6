use Rattle.std.proofs.Common.{map, [], ◌∷◌}
use Rattle.theory_addresses.proofs.Mated.{contact_exists}
use Rattle.pair_machine.specs.Numbers.{width_of}
use Rattle.pair_machine.specs.Views.{as_node}
use Rattle.pair_machine.specs.Searching.{child_nodes}
use Rattle.pair_machine.proofs.NodeLoops.{child_nodes-none}
use Rattle.pair_machine.proofs.Finding.{child_inner, child_outer, other_child, small_first}
use Rattle.pair_machine.proofs.Marks.{covers_none, covers_more, covers_as}
use Rattle.pair_machine.proofs.nodes.Found.add_child.Goals as goal
use Rattle.pair_machine.proofs.nodes.Found.add_child.Goals.{in-Inner+in_ok-add-in-Inner, in-Outer}

pub loop-edge-init : goal.loop-edge-init
loop-edge-init c = rw (child_nodes-none c.args.tables.now c.args.parent c.args.child)
    (covers_none (width_of c.args.tables.now) (map as_node c.args.self.now.list.items)
    c.args.self.now.seen.items c.requires.seen)

pub contact-requires : goal.contact-requires
contact-requires c = record {
  exists = contact_exists c.args.tables.now c.args.parent c.args.child c.child_kind-kind.result
      c.loop-edge.edge c.requires.coherent c.child_kind-kind.ensures
      ((c.edges-edge-end.ensures.exist c.loop-edge.edge).1 c.loop-edge-test.true);
}

pub child_kind-other-requires : goal.child_kind-other-requires
child_kind-other-requires c = record {
  exists = other_child c.args.tables.now c.args.parent c.args.child
      c.loop-edge.edge c.in-Inner.there c.in-Inner.back c.requires.coherent c.in-Inner.ensures;
}

pub add-requires-clause-small : goal.add-requires-clause-small
add-requires-clause-small c =
    rw c.width-width.ensures.width
    (small_first c.args.tables.now c.args.parent c.args.child c.loop-edge.edge c.in-Inner.there
    c.in-Inner.back c.child_kind-kind.result c.child_kind-other.result
    c.requires.coherent c.in-Inner.ensures c.child_kind-kind.ensures c.child_kind-other.ensures)

pub loop-edge-preserved : goal.loop-edge-preserved
loop-edge-preserved c = elim c.match-contact.branch [
  | in-Inner+in_ok-add-in-Inner w ↦ rw w.self-is
      (covers_as (map as_node c.args.self.now.list.items) (map as_node w.add.new.self.list.items)
      (width_of c.args.tables.now) w.add.new.self.seen.items _ _
      (child_inner c.args.tables.now c.args.parent c.args.child c.loop-edge.edge w.in-Inner.there
      w.in-Inner.back c.child_kind-kind.result w.child_kind-other.result w.in-Inner.ensures
      c.child_kind-kind.ensures w.child_kind-other.ensures)
      (covers_more (map as_node c.args.self.now.list.items) (map as_node c.loop-edge.self.list.items)
      (map as_node w.add.new.self.list.items) (width_of c.args.tables.now) c.loop-edge.self.seen.items
      w.add.new.self.seen.items
      (child_nodes c.args.tables.now c.args.parent c.args.child c.loop-edge.edge)
      ((record {
        kind = c.child_kind-kind.result;
        edge = c.loop-edge.edge;
        other = w.child_kind-other.result;
        back = w.in-Inner.back;
      }) ∷ [])
      c.loop-edge.invariant (rw (← c.width-width.ensures.width) w.in_ok-add-in-Inner.ensures)))
  | in-Outer w ↦ rw w.self-is
      (covers_as (map as_node c.args.self.now.list.items) (map as_node c.loop-edge.self.list.items)
      (width_of c.args.tables.now) c.loop-edge.self.seen.items _ _
      (child_outer c.args.tables.now c.args.parent c.args.child c.loop-edge.edge _ _ w.in-Outer.ensures) c.loop-edge.invariant)
]
