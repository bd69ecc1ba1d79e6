use Rattle.std.proofs.Common.{refl, ap, ◌∙◌, arith, length, map}
use Rattle.std.proofs.lemmas.List.{length-map}
use Rattle.theory_walks.specs.Frames.{FrameValue, whole}
use Rattle.theory_addresses.specs.Address.{kind_at}
use Rattle.tile_shape.specs.Views.{step_of}
use Rattle.theory_walks.proofs.Walks.{kind_at_level}
use Rattle.lazy_walk.proofs.frame.Frame.kind_at.Goals as goal

pub returns-else-level-eq0 : goal.returns-else-level-eq0
returns-else-level-eq0 c =
    kind_at_level c.self.inside.base.kind c.args.level c.self.inside.digits.items c.deref.result.now
    (map step_of c.self.inside.digits.items) (record { child = 0; parent = 0 }) (omega arith)
    (omega (
      arith,
      c.requires,
      length-map c.self.inside.digits.items step_of,
      ap
          (λ (f : FrameValue). length f.digits) c.self.view_is,
    )) c.deref.ensures.0 refl
    ∙ ap (λ (f : FrameValue). kind_at (whole f) c.args.level) c.self.view_is
