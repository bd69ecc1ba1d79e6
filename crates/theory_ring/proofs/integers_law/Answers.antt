use Rattle.theory_ring.proofs.Integers.{integers_laws}
use Rattle.theory_ring.proofs.Ordered.{integers_order}
use Rattle.theory_ring.proofs.integers_law.Goals as goal

pub returns : goal.returns
returns c = record { ring = integers_laws; order = integers_order }
