use Rattle.dissect_check.proofs.Accepted.{limits-where, edge_to_edge-where, none-clauses}
use Rattle.dissect_check.proofs.laws.clauses_law.Goals as goal

pub returns : goal.returns
returns c = λ e o l. (λ h. (limits-where e o l h, edge_to_edge-where e o l h), λ both. none-clauses e o l both.0 both.1)
