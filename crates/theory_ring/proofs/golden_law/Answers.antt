use Rattle.std.proofs.Common.{refl}
use Rattle.theory_ring.specs.Ring.{integers}
use Rattle.theory_ring.proofs.Integers.{integers_laws}
use Rattle.theory_ring.proofs.Squares.{no_root_five}
use Rattle.theory_ring.proofs.Ordered.{golden_laws, golden_order, golden_positive}
use Rattle.theory_ring.proofs.golden_law.Goals as goal

pub returns : goal.returns
returns c = record {
  ring = golden_laws integers integers_laws;
  order = golden_order;
  irrational = no_root_five;
  ratio_squared = refl;
  ratio_positive = golden_positive;
}
