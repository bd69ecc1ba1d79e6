use Rattle.std.proofs.Common.{refl}
use Rattle.c_values.specs.Rules.{padded}
use Rattle.c_values.proofs.plain_edge_type.PlainEdgeType.blank.Goals as goal

pub returns : goal.returns
unfolding padded
returns c = refl
