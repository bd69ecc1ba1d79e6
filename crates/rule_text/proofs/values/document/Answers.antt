use Rattle.std.proofs.Common.{List, All, map, subst, arith, rules}
use Rattle.rule_model.specs.declared.kind_row.KindRow.{KindRow}
use Rattle.rule_model.specs.Views.{as_kind}
use Rattle.rule_text.specs.Written.{HasFours}
use Rattle.rule_text.proofs.values.document.Goals as goal

pub returns-clause-fours : goal.returns-clause-fours
returns-clause-fours c = (
  c.in_ok-point.ensures.fours,
  subst (λ (rows : List KindRow). All HasFours (map as_kind rows))
      c.as_slice-3.ensures.value c.in_ok-kinds.ensures.fours,
)

pub returns-in_err-put-6 : goal.returns-in_err-put-6
returns-in_err-put-6 c = grind arith

pub returns-in_err-put-4 : goal.returns-in_err-put-4
returns-in_err-put-4 c = grind arith

pub returns-in_err-put-5 : goal.returns-in_err-put-5
returns-in_err-put-5 c = search rules fits 100

pub returns-in_err-put-3 : goal.returns-in_err-put-3
returns-in_err-put-3 c = grind arith

pub returns-in_err-numbers : goal.returns-in_err-numbers
returns-in_err-numbers c = grind arith

pub returns-in_err-point : goal.returns-in_err-point
returns-in_err-point c = grind arith
