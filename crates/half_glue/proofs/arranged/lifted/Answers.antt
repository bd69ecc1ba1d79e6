use Rattle.tile_shape.proofs.Seen.{address-known}
use Rattle.half_glue.proofs.arranged.lifted.Goals as goal

pub returns : goal.returns
returns c = λ i. record { kind = c.args.tile.now.kind; motion = c.args.tile.now.motion; addr = address-known c.lift.result _ c.lift.ensures i }
