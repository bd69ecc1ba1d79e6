use Rattle.dissect_check.proofs.ListedChildren.{children-usable}
use Rattle.dissect_check.proofs.laws.accepted_children_law.Goals as goal

pub returns : goal.returns
returns c = children-usable
