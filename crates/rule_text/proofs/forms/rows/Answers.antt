use Rattle.std.proofs.Common.{◌≡◌, List, ℤ, Option, IfOk, option_map, map, subst}
use Rattle.rule_text.specs.Forms.{row}
use Rattle.rule_text.proofs.Items.{array-read}
use Rattle.rule_text.proofs.forms.rows.Goals as goal

pub returns-in-Some-clause-read : goal.returns-in-Some-clause-read
returns-in-Some-clause-read c =
    subst (λ (o : Option (List (List ℤ))). IfOk c.rows_of.result (λ found. option_map (λ v. map (λ w. w.items) v.items) found ≡ o))
    (array-read (row c.args.len) _ c.in-Some.values.now c.as_slice.result.now c.in-Some.ensures c.as_slice.ensures.value)
    c.rows_of.ensures.read
