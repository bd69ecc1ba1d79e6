use Rattle.std.proofs.Common.{◌≡◌, List, ℤ, Option, IfOk, option_map, subst}
use Rattle.toml.specs.Data.{as_integer}
use Rattle.rule_text.proofs.Items.{array-read}
use Rattle.rule_text.proofs.forms.integers.Goals as goal

pub returns-in-Some : goal.returns-in-Some
returns-in-Some c =
    subst (λ (o : Option (List ℤ)). IfOk c.integers_of.result (λ found. option_map (λ v. v.items) found ≡ o))
    (array-read as_integer _ c.in-Some.values.now c.as_slice.result.now c.in-Some.ensures c.as_slice.ensures.value)
    c.integers_of.ensures
