use Rattle.std.proofs.Common.{[], ◌∷◌, codes, decimal, sym, ◌∙◌, append_assoc}
use Rattle.std.proofs.lemmas.Result.{IfOk-weaker}
use Rattle.cyclo_points.specs.Text.{newline}
use Rattle.tile_app.proofs.verify.right_line.Goals as goal

pub returns : goal.returns
returns c = IfOk-weaker c.format.result _ _ (λ text e. e
    ∙ sym (append_assoc (codes "right ") (decimal c.args.lines) (newline ∷ []))) c.format.ensures.ok
