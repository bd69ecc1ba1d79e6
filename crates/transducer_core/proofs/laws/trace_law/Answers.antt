use Rattle.theory_addresses.proofs.Traces.{IsTrace-unique}
use Rattle.transducer_core.proofs.laws.trace_law.Goals as goal

pub returns : goal.returns
returns c = λ t a e top other cuts others trace trace'. IsTrace-unique trace trace'
