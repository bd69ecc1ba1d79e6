use Rattle.tile_shape.specs.Views.{address_of}
use Rattle.tile_app.proofs.Named.{tile_named, no_tile_named, tile_told}
use Rattle.tile_app.proofs.tile.tile_among.Goals as goal

pub returns-clause-named : goal.returns-clause-named
returns-clause-named c t are =
    tile_named t c.args.text.now c.as_bytes.result.now c.as_bytes.ensures.value c.args.uses.now are address_of
    c.read_address.result c.read_address.ensures.read

pub returns-clause-refused : goal.returns-clause-refused
returns-clause-refused c t are =
    no_tile_named t c.args.text.now c.as_bytes.result.now c.as_bytes.ensures.value c.args.uses.now are
    c.read_address.result c.read_address.ensures.refused c.read_address.ensures.fault

pub returns-clause-told : goal.returns-clause-told
returns-clause-told c t are =
    tile_told t c.args.text.now c.as_bytes.result.now c.as_bytes.ensures.value c.args.uses.now are c.read_address.result c.read_address.ensures.exact
