use Rattle.std.proofs.Common.{ap, ◌∙◌}
use Rattle.window_cover.specs.Found.{CoverValue, first_of}
use Rattle.window_cover.proofs.Works.{first-unpacked}
use Rattle.window_cover.proofs.cover.Cover.first_open.Goals as goal

pub returns : goal.returns
returns c = c.first.ensures ∙ first-unpacked c.self.inside.border ∙ ap (λ (v : CoverValue). first_of v.border) c.self.view_is
