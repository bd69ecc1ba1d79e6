use Rattle.std.proofs.Common.{arith}
use Rattle.theory_addresses.proofs.TableBounds.{type_bounds}
use Rattle.tile_place.proofs.turned_vertices.most_edges.Goals as goal

pub returns : goal.returns
returns c = λ k e h.
    let low = (type_bounds c.args.tables.now k e h).0 in
    c.loop-kind.invariant.each k e (omega (arith, low, c.kinds-kind-end.ensures.count, c.loop-kind-test.false)) h
