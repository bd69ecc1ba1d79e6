use Rattle.std.proofs.Common.{◌≡◌, ℕ, ◌-◌, ◌<◌, get_or}
use Rattle.theory_substitution.specs.RuleParts.{mate, parts}
use Rattle.rule_model.specs.Views.{rule_of}
use Rattle.dissect_check.proofs.subdivisions.is_mirrored.Given as goal

abbrev pub invariant-loop-i : goal.invariant-loop-i
invariant-loop-i l =
    (j : ℕ) → j < l.i → get_or (parts (rule_of l.rule) l.mate) j 0 ≡ mate (rule_of l.rule) (get_or (parts (rule_of l.rule) l.ty) (l.count - 1 - j) 0)
