use Rattle.std.proofs.Common.{◌≡◌, false, take}
use Rattle.std.specs.Prelude.{nat_eq}
use Rattle.std.specs.List.{list_any}
use Rattle.theory_substitution.specs.Rule.{Child, children_of}
use Rattle.theory_addresses.specs.Search.{some_below}
use Rattle.cyclo_points.specs.Order.{NumberOf}
use Rattle.rule_model.specs.Views.{rule_of}
use Rattle.dissect_check.proofs.uses.is_used.Given as goal

abbrev pub invariant-loop-parent : goal.invariant-loop-parent
invariant-loop-parent l = some_below l.parent
    (λ p. list_any (λ (c : Child (NumberOf l.rule.order)). nat_eq c.kind l.kind)
    (children_of (rule_of l.rule) p)) ≡ false

abbrev pub invariant-loop-child : goal.invariant-loop-child
invariant-loop-child l = list_any (λ (c : Child (NumberOf l.rule.order)). nat_eq c.kind l.kind)
    (take l.child (children_of (rule_of l.rule) l.parent)) ≡ false
