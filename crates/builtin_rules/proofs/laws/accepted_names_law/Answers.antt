use Rattle.builtin_rules.proofs.Acceptance.{is_edge_to_edge}
use Rattle.builtin_rules.proofs.Evaluated.{passes}
use Rattle.builtin_rules.proofs.Numbered.{numbered}
use Rattle.builtin_rules.proofs.laws.accepted_names_law.Goals as goal

pub returns : goal.returns
returns c = λ name. record { numbered = numbered name; edge_to_edge = is_edge_to_edge _ _ _ _ (passes name) }
