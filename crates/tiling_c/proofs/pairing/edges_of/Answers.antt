use Rattle.tile_place.proofs.KindEdges.{edges_counted}
use Rattle.tile_shape.specs.Views.{address_of}
use Rattle.tiling_c.proofs.Backs.{edges_few}
use Rattle.tiling_c.proofs.pairing.edges_of.Goals as goal

pub returns-clause-count : goal.returns-clause-count
returns-clause-count c =
    edges_counted c.tables.result.now c.checked.result.now c.args.machine.now c.args.tile.now.kind
    c.edges.result c.tables.ensures.contacts c.checked.ensures.rule c.edges.ensures.count

pub returns-clause-at_most_12 : goal.returns-clause-at_most_12
returns-clause-at_most_12 c =
    edges_few c.args.machine.now c.checked.ensures.usable (address_of c.args.tile.now) c.edges.result c.requires.fits
    (edges_counted c.tables.result.now c.checked.result.now c.args.machine.now c.args.tile.now.kind
    c.edges.result c.tables.ensures.contacts c.checked.ensures.rule c.edges.ensures.count)
