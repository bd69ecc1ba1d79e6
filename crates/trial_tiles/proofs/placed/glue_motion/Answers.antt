use Rattle.std.proofs.Common.{◌<◌, subst}
use Rattle.tile_place.proofs.KindEdges.{edges_counted}
use Rattle.trial_tiles.proofs.placed.glue_motion.Goals as goal

pub meets-requires-clause-edge_exists : goal.meets-requires-clause-edge_exists
meets-requires-clause-edge_exists c =
    let edge = c.args.edge in
    subst (λ n. edge < n)
    (edges_counted c.tables-tables.result.now c.checked.result.now c.args.machine.now c.args.kind
    c.edges.result c.tables-tables.ensures.contacts c.checked.ensures.rule c.edges.ensures.count)
    c.if-edge-edges.false

pub meets-requires-clause-other_exists : goal.meets-requires-clause-other_exists
meets-requires-clause-other_exists c =
    let edge = c.args.other_edge in
    subst (λ n. edge < n)
    (edges_counted c.tables-tables.result.now c.checked.result.now c.args.machine.now c.args.other
    c.edges-else-edge-edges.result c.tables-tables.ensures.contacts c.checked.ensures.rule
    c.edges-else-edge-edges.ensures.count)
    c.if-other_edge-edges.false

pub glue_motion-requires-clause-edge_exists : goal.glue_motion-requires-clause-edge_exists
glue_motion-requires-clause-edge_exists c =
    let edge = c.args.edge in
    subst (λ n. edge < n)
    (edges_counted c.tables-tables.result.now c.checked.result.now c.args.machine.now c.args.kind
    c.edges.result c.tables-tables.ensures.contacts c.checked.ensures.rule c.edges.ensures.count)
    c.if-edge-edges.false

pub glue_motion-requires-clause-other_exists : goal.glue_motion-requires-clause-other_exists
glue_motion-requires-clause-other_exists c =
    let edge = c.args.other_edge in
    subst (λ n. edge < n)
    (edges_counted c.tables-tables.result.now c.checked.result.now c.args.machine.now c.args.other
    c.edges-else-edge-edges.result c.tables-tables.ensures.contacts c.checked.ensures.rule
    c.edges-else-edge-edges.ensures.count)
    c.if-other_edge-edges.false
