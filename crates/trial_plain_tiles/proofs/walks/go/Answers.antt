use Rattle.std.proofs.Common.{◌<◌, subst}
use Rattle.tile_place.proofs.KindEdges.{edges_counted}
use Rattle.trial_plain_tiles.proofs.walks.go.Goals as goal

pub step-requires-clause-edge_exists : goal.step-requires-clause-edge_exists
step-requires-clause-edge_exists g c =
    let edge = c.args.edge in
    subst (λ n. edge < n)
    (edges_counted c.tables-2.result.now c.checked-2.result.now c.args.machine.now c.args.tile.now.addr.kind
    c.edges.result c.tables-2.ensures.contacts c.checked-2.ensures.rule c.edges.ensures.count)
    c.if-edge-edges.false
