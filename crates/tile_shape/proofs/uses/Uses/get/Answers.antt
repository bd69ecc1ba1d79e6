use Rattle.tile_shape.specs.Views.{step_of}
use Rattle.tile_shape.proofs.UseRows.{use_is_child}
use Rattle.tile_shape.proofs.uses.Uses.get.Goals as goal

pub returns-clause-its_kind : goal.returns-clause-its_kind
returns-clause-its_kind c = use_is_child c.args.self.now c.args.kind c.args.i (step_of c.use_in_rows.result) (cc)
