use Rattle.std.proofs.Common.{map, length}
use Rattle.theory_addresses.specs.Tables.{contacts_of}
use Rattle.pair_machine.specs.Numbers.{width_of}
use Rattle.pair_machine.specs.Views.{as_node}
use Rattle.pair_machine.specs.Searching.{child_nodes, kind_nodes}
use Rattle.pair_machine.proofs.NodeLoops.{kind_nodes-none, kind_nodes-more}
use Rattle.pair_machine.proofs.Marks.{covers_none, covers_more}
use Rattle.pair_machine.proofs.nodes.Found.add_kind.Goals as goal

pub loop-child-init : goal.loop-child-init
loop-child-init c = rw (kind_nodes-none c.args.tables.now c.args.parent)
    (covers_none (width_of c.args.tables.now) (map as_node c.args.self.now.list.items)
    c.args.self.now.seen.items c.requires.seen)

pub loop-child-preserved : goal.loop-child-preserved
loop-child-preserved c = rw (kind_nodes-more c.args.tables.now c.args.parent c.loop-child.child)
    (covers_more (map as_node c.args.self.now.list.items) (map as_node c.loop-child.self.list.items)
    (map as_node c.add_child.new.self.list.items) (width_of c.args.tables.now)
    c.loop-child.self.seen.items c.add_child.new.self.seen.items
    (kind_nodes c.args.tables.now c.args.parent c.loop-child.child)
    (child_nodes c.args.tables.now c.args.parent c.loop-child.child
    (length (contacts_of c.args.tables.now c.args.parent c.loop-child.child)))
    c.loop-child.invariant c.in_ok-add_child.ensures)
