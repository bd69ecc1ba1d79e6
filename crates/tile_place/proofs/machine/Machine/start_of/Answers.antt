use Rattle.std.proofs.Common.{◌<◌, sym, subst}
use Rattle.theory_substitution.specs.RuleParts.{edge_count}
use Rattle.rule_model.specs.Tiling.{tiling_of}
use Rattle.rule_model.specs.Views.{rule_of}
use Rattle.tile_place.specs.TurnedVertices.{IsTurned}
use Rattle.tile_place.proofs.Gluing.{kind_listed}
use Rattle.tile_place.proofs.machine.Machine.start_of.Goals as goal

pub turned_vertex-requires-clause-exists : goal.turned_vertex-requires-clause-exists
turned_vertex-requires-clause-exists c = kind_listed c.args.self.now c.args.kind c.args.edge c.requires.turned_edge.exists

pub turned_vertex-requires-clause-vertex_exists : goal.turned_vertex-requires-clause-vertex_exists
turned_vertex-requires-clause-vertex_exists c =
    subst (λ e. e < edge_count (rule_of c.args.self.now) c.args.kind) (sym c.from.ensures) c.requires.turned_edge.exists

pub returns : goal.returns
returns c = subst (λ e. IsTurned (tiling_of c.args.self.now) c.args.kind c.args.steps e c.turned_vertex.result) c.from.ensures c.turned_vertex.ensures
