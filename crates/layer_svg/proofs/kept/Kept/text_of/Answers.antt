use Rattle.std.proofs.Common.{ap, ◌∙◌, arith}
use Rattle.layer_api.specs.SvgText.{vertex_text}
use Rattle.layer_svg.proofs.Keeping.{same_vertex}
use Rattle.layer_svg.proofs.kept.Kept.text_of.Goals as goal

pub returns : goal.returns
returns c = λ v k. (k.within, k.text (omega arith) ∙ ap (vertex_text v) (same_vertex c.args.self.now.vertex c.args.vertex.now c.if-ne.ensures))
