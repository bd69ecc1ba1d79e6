use Rattle.pair_machine.specs.Kept.{ArePairsKept}
use Rattle.pair_machine.proofs.Keeping.{between_upto}
use Rattle.pair_machine.proofs.partners.Partners.of_children.Given as goal

abbrev pub invariant-loop-edge : goal.invariant-loop-edge
invariant-loop-edge l = ArePairsKept l.partners (between_upto l.tables l.kind l.mine l.theirs l.edge)
