use Rattle.std.proofs.Common.{IfSome, sym, subst}
use Rattle.plane_geom.specs.declared.window.Window.{Window}
use Rattle.rule_model.specs.Tiling.{tiling_of}
use Rattle.window_cover.specs.Descending.{IsJudged}
use Rattle.window_cover.specs.Windows.{IsWindow}
use Rattle.window_cover.proofs.runs.Runs.stands.Goals as goal

pub judged-requires-clause-window : goal.judged-requires-clause-window
judged-requires-clause-window c = subst IsWindow (sym c.window.ensures) c.requires.window

pub returns-clause-judged : goal.returns-clause-judged
returns-clause-judged c = subst (λ (w : Window). IfSome c.judged.result
    (IsJudged (tiling_of c.args.machine.now) w c.args.all c.args.level c.args.part.now))
    c.window.ensures c.judged.ensures.judged
