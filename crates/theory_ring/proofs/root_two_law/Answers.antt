use Rattle.std.proofs.Common.{refl}
use Rattle.theory_ring.specs.Ring.{integers}
use Rattle.theory_ring.proofs.Integers.{integers_laws}
use Rattle.theory_ring.proofs.Squares.{no_root_two}
use Rattle.theory_ring.proofs.Ordered.{root_two_laws, root_two_order, root_two_positive}
use Rattle.theory_ring.proofs.root_two_law.Goals as goal

pub returns : goal.returns
returns c = record {
  ring = root_two_laws integers integers_laws;
  order = root_two_order;
  irrational = no_root_two;
  root_squared = refl;
  root_positive = root_two_positive;
}
