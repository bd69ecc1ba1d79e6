use Rattle.std.proofs.Common.{map, length}
use Rattle.theory_addresses.specs.Tables.{kind_tables}
use Rattle.pair_machine.specs.Numbers.{width_of}
use Rattle.pair_machine.specs.Views.{as_node}
use Rattle.pair_machine.specs.Searching.{kind_nodes, first_nodes}
use Rattle.pair_machine.proofs.NodeLoops.{first_nodes-none, first_nodes-more}
use Rattle.pair_machine.proofs.Marks.{covers_none, covers_more}
use Rattle.pair_machine.proofs.nodes.Found.add_first.Goals as goal

pub loop-parent-init : goal.loop-parent-init
loop-parent-init c = rw (first_nodes-none c.args.tables.now)
    (covers_none (width_of c.args.tables.now) (map as_node c.args.self.now.list.items)
    c.args.self.now.seen.items c.requires.seen)

pub loop-parent-preserved : goal.loop-parent-preserved
loop-parent-preserved c = rw (first_nodes-more c.args.tables.now c.loop-parent.parent)
    (covers_more (map as_node c.args.self.now.list.items) (map as_node c.loop-parent.self.list.items)
    (map as_node c.add_kind.new.self.list.items) (width_of c.args.tables.now)
    c.loop-parent.self.seen.items c.add_kind.new.self.seen.items
    (first_nodes c.args.tables.now c.loop-parent.parent)
    (kind_nodes c.args.tables.now c.loop-parent.parent
    (length (kind_tables c.args.tables.now c.loop-parent.parent).children))
    c.loop-parent.invariant c.in_ok-add_kind.ensures)
