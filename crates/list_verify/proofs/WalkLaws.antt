-- What the laws of a walk bring to its steps.
use Rattle.theory_walks.proofs.Brought.{Brings}
use Rattle.rule_model.specs.declared.rule.Rule.{Rule}
use Rattle.list_verify.specs.ListLaws.{HasListLaws, HasWalkLaws}

pub brings : (m : Rule) → HasWalkLaws m → Brings HasListLaws m
brings m W = record {
  settled = record { accepted = W.accepted; usable = W.usable; same_child_kinds = W.same_child_kinds };
  fits = λ base start n h. W.still_fits base start n h;
  laws = W.laws;
}
