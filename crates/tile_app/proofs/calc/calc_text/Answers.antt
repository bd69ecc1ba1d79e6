use Rattle.std.proofs.Common.{IfErr, IfOk, subst}
use Rattle.rule_model.specs.Tiling.{tiling_of}
use Rattle.tile_app.specs.Reading.{IsScriptPrinted, IsScriptRefused}
use Rattle.tile_app.proofs.calc.calc_text.Goals as goal

-- the machine's rule is the checked rule
pub returns-clause-printed : goal.returns-clause-printed
returns-clause-printed g c =
    let left = g.R.Source.left c.args.source.now in
    let rest = g.R.Source.left c.script_output.new.source in
    subst (λ m. IfOk c.script_output.result (λ text. IsScriptPrinted (tiling_of m) left rest text.items))
    c.in_ok-machine.ensures.its_rule c.script_output.ensures.printed

pub returns-clause-refused : goal.returns-clause-refused
returns-clause-refused g c =
    let left = g.R.Source.left c.args.source.now in
    let rest = g.R.Source.left c.script_output.new.source in
    subst (λ m. IfErr c.script_output.result (IsScriptRefused (tiling_of m) left rest))
    c.in_ok-machine.ensures.its_rule c.script_output.ensures.refused
