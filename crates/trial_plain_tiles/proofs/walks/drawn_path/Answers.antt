use Rattle.std.proofs.Common.{◌<◌, subst}
use Rattle.tile_place.proofs.KindEdges.{edges_counted}
use Rattle.trial_plain_tiles.proofs.walks.drawn_path.Goals as goal

pub cross_grow-requires-clause-edge_exists : goal.cross_grow-requires-clause-edge_exists
cross_grow-requires-clause-edge_exists g c =
    let edge = c.in-Some.edge in
    subst (λ n. edge < n)
    (edges_counted c.tables.result.now c.checked.result.now c.args.machine.now c.loop.tile.kind c.edges.result
    c.tables.ensures.contacts c.checked.ensures.rule c.edges.ensures.count)
    c.if-edge-edges.false
