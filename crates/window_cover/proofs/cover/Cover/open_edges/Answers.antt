use Rattle.std.proofs.Common.{length, sym, ap, ◌∙◌}
use Rattle.std.proofs.lemmas.List.{length-map}
use Rattle.window_cover.specs.Found.{CoverValue}
use Rattle.window_cover.specs.Packed.{unpacked}
use Rattle.window_cover.proofs.cover.Cover.open_edges.Goals as goal

pub returns : goal.returns
returns c = c.count.ensures ∙ sym (length-map c.self.inside.border unpacked) ∙ ap (λ (v : CoverValue). length v.border) c.self.view_is
