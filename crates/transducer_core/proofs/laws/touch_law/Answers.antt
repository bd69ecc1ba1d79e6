use Rattle.theory_addresses.proofs.Touching.{Touches-sym}
use Rattle.transducer_core.proofs.laws.touch_law.Goals as goal

pub returns : goal.returns
returns c = λ t a b e f coherent fits fits' edge touches. Touches-sym a b coherent fits fits' edge touches
