use Rattle.rule_model.specs.Tiling.{tiling_of}
use Rattle.tile_app.proofs.tile.tile_at.Goals as goal

pub returns-clause-named : goal.returns-clause-named
returns-clause-named c = c.tile_among.ensures.named (tiling_of c.args.checked.now) c.uses.ensures

pub returns-clause-refused : goal.returns-clause-refused
returns-clause-refused c = c.tile_among.ensures.refused (tiling_of c.args.checked.now) c.uses.ensures

pub returns-clause-told : goal.returns-clause-told
returns-clause-told c = c.tile_among.ensures.told (tiling_of c.args.checked.now) c.uses.ensures
