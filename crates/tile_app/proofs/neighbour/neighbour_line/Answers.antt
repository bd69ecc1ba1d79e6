use Rattle.std.proofs.Common.{◌∙◌, sym, append_assoc, [], ◌∷◌}
use Rattle.std.specs.Fmt.{decimal}
use Rattle.std.proofs.lemmas.Result.{IfOk-weaker}
use Rattle.tile_shape.specs.Text.{address_text}
use Rattle.tile_shape.specs.Views.{address_of}
use Rattle.cyclo_points.specs.Text.{blank, newline}
use Rattle.tile_app.proofs.neighbour.neighbour_line.Goals as goal

pub returns : goal.returns
returns c =
    IfOk-weaker c.format.result _ _
    (λ text e. e ∙ sym (append_assoc (address_text (address_of c.args.across.now)) (blank ∷ decimal c.args.edge) (newline ∷ []))) c.format.ensures.ok
