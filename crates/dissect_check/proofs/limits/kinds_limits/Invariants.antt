use Rattle.std.proofs.Common.{◌≡◌, None}
use Rattle.theory_addresses.specs.Search.{first_below}
use Rattle.rule_model.specs.Views.{as_rule}
use Rattle.dissect_check.specs.FirstFault.{kind_limits}
use Rattle.dissect_check.proofs.limits.kinds_limits.Given as goal

abbrev pub invariant-loop-kind : goal.invariant-loop-kind
invariant-loop-kind l = first_below (kind_limits l.rule.order (as_rule l.rule)) l.kind ≡ None
