use Rattle.std.proofs.Common.{◌∙◌, arith}
use Rattle.std.proofs.lemmas.Grind.{common_steps}
use Rattle.toml.specs.View.{view}
use Rattle.rule_model.specs.Views.{as_type}
use Rattle.rule_text.specs.Written.{type_data}
use Rattle.rule_text.proofs.Items.{list_data-all}
use Rattle.rule_text.proofs.values.types.Goals as goal

pub returns : goal.returns
returns c = c.from.ensures ∙ list_data-all view type_data as_type c.args.rows.now c.loop-row.values.items
    c.loop-row.row-index c.loop-row-test.false c.loop-row.invariant

pub loop-row-preserved : goal.loop-row-preserved
loop-row-preserved c = grind (arith, common_steps)
