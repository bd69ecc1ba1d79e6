use Rattle.std.proofs.Common.{sym, subst}
use Rattle.builtin_rules.specs.Placeable.{IsPlaceable}
use Rattle.builtin_rules.proofs.Placeable.{placeable}
use Rattle.builtin_rules.proofs.placing.NamedPlacing.of.Goals as goal

pub invariant_of-result : goal.invariant_of-result
invariant_of-result c = subst IsPlaceable (sym c.numbers.ensures.rule) (placeable c.args.name)
