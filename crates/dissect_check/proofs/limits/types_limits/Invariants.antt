use Rattle.std.proofs.Common.{◌≡◌, None}
use Rattle.theory_addresses.specs.Search.{first_below}
use Rattle.rule_model.specs.Views.{as_rule}
use Rattle.dissect_check.specs.FirstFault.{type_limits}
use Rattle.dissect_check.proofs.limits.types_limits.Given as goal

abbrev pub invariant-loop-ty : goal.invariant-loop-ty
invariant-loop-ty l = first_below (type_limits l.rule.order (as_rule l.rule)) l.ty ≡ None
