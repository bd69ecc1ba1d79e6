use Rattle.std.proofs.Common.{◌≡◌, List, Option, IfOk, option_map, map, subst}
use Rattle.toml.specs.Data.{as_table, Members}
use Rattle.toml.specs.View.{table_view}
use Rattle.rule_text.proofs.Items.{array-read}
use Rattle.rule_text.proofs.forms.tables.Goals as goal

pub returns-in-Some : goal.returns-in-Some
returns-in-Some c =
    subst (λ (o : Option (List Members)). IfOk c.tables_of.result (λ found. option_map (λ v. map (λ t. table_view t.now) v.items) found ≡ o))
    (array-read as_table _ c.in-Some.values.now c.as_slice.result.now c.in-Some.ensures c.as_slice.ensures.value)
    c.tables_of.ensures
