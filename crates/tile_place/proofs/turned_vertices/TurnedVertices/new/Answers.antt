use Rattle.std.proofs.Common.{IsSome, map, sym, subst, arith}
use Rattle.theory_addresses.specs.Tables.{Tables, type_of}
use Rattle.rule_model.specs.Tiling.{tiling_of}
use Rattle.tile_place.specs.TurnedVertices.{widened, AreTurned}
use Rattle.tile_place.proofs.TurnedPlaces.{enough}
use Rattle.tile_place.proofs.turned_vertices.TurnedVertices.new.Goals as goal

pub push_by_order-requires-clause-hold : goal.push_by_order-requires-clause-hold
push_by_order-requires-clause-hold c =
    let tables = c.most_edges-sides.ensures in
    enough (tiling_of c.args.checked.now) c.most_edges-sides.result
    (λ k e h. tables k e (subst (λ (ts : Tables). IsSome (type_of ts k e)) (sym c.tables.ensures.contacts)
    h))

pub returns : goal.returns
returns c =
    subst (λ n. AreTurned (tiling_of c.args.checked.now)
    (record {
      sides = c.most_edges-sides.result;
      turns = n;
      points = map widened c.push_by_order.new.points.items;
    })) (sym c.n-turns.ensures)
    c.in_ok-push_by_order.ensures

pub returns-in_err-points : goal.returns-in_err-points
returns-in_err-points c = grind arith

pub returns-in_err-push_by_order : goal.returns-in_err-push_by_order
returns-in_err-push_by_order c = grind arith
