use Rattle.theory_addresses.proofs.Touching
use Rattle.transducer_core.proofs.laws.boundary_law.Goals as goal

pub returns : goal.returns
returns c = λ t a b e f top cuts coherent fits fits' edge trace touches. Touching.trace_excludes_touch a b coherent fits fits' edge trace touches
