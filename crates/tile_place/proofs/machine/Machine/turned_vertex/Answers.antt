use Rattle.std.proofs.Common.{sym, subst}
use Rattle.rule_model.specs.declared.rule.Rule.{Rule}
use Rattle.rule_model.specs.Tiling.{tiling_of}
use Rattle.tile_place.specs.TurnedVertices.{IsTurned, AreTurned}
use Rattle.tile_place.proofs.TurnedPlaces.{vertex-there}
use Rattle.tile_place.proofs.machine.Machine.turned_vertex.Goals as goal

pub at-requires : goal.at-requires
at-requires c =
    let are = subst (λ (r : Rule). AreTurned (tiling_of r) c.self.inside.vertices) c.self.view_is c.self.invariant.vertices_are in
    record {
      exists = (vertex-there (tiling_of c.args.self.now) c.self.inside.vertices are c.args.kind
          c.args.steps c.args.number c.requires.exists c.requires.turn_below c.requires.vertex_exists).0;
    }

pub returns : goal.returns
returns c =
    let are = subst (λ (r : Rule). AreTurned (tiling_of r) c.self.inside.vertices) c.self.view_is c.self.invariant.vertices_are in
    subst (IsTurned (tiling_of c.args.self.now) c.args.kind c.args.steps c.args.number) (sym c.at.ensures)
    (vertex-there (tiling_of c.args.self.now) c.self.inside.vertices are c.args.kind c.args.steps
    c.args.number c.requires.exists c.requires.turn_below c.requires.vertex_exists).1
