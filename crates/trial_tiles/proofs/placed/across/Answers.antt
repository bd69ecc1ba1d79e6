use Rattle.std.proofs.Common.{◌<◌, subst}
use Rattle.tile_place.proofs.KindEdges.{edges_counted}
use Rattle.trial_tiles.proofs.placed.across.Goals as goal

pub cross-requires-clause-edge_exists : goal.cross-requires-clause-edge_exists
cross-requires-clause-edge_exists g c =
    let edge = c.args.edge in
    subst (λ n. edge < n)
    (edges_counted c.tables.result.now c.checked-checked.result.now c.args.machine.now c.args.addr.now.kind
    c.edges.result c.tables.ensures.contacts c.checked-checked.ensures.rule c.edges.ensures.count)
    c.if-edge-edges.false
