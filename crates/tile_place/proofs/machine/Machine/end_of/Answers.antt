use Rattle.std.proofs.Common.{◌≡◌, ◌<◌, ◌∙◌, suc, length, cond, nat_lt, sym, ap, ap₂, subst, arith}
use Rattle.theory_substitution.specs.RuleParts.{edge_count, next}
use Rattle.rule_model.specs.declared.rule.Rule.{Rule}
use Rattle.rule_model.specs.Tiling.{tiling_of}
use Rattle.rule_model.specs.Views.{rule_of}
use Rattle.tile_place.specs.TurnedVertices.{IsTurned}
use Rattle.tile_place.proofs.Gluing.{kind_listed}
use Rattle.tile_place.proofs.TurnedPlaces.{end-below}
use Rattle.tile_place.proofs.machine.Machine.end_of.Goals as goal
use Rattle.tile_place.proofs.machine.Machine.end_of.Goals.{After-next_of-end}

pub vertices-requires : goal.vertices-requires
vertices-requires c = record {
  exists = subst (λ (r : Rule). c.args.kind < length (rule_of r).kinds)
      (sym c.checked.ensures.rule) (kind_listed c.args.self.now c.args.kind c.args.edge c.requires.turned_edge.exists);
}

pub next_of-end-requires : goal.next_of-end-requires
next_of-end-requires c =
    let m = c.args.self.now in
    let edges : length c.vertices.result.now ≡ edge_count (rule_of m) c.args.kind
    = c.vertices.ensures.each_edge ∙ ap (λ (r : Rule). edge_count (rule_of r) c.args.kind)
    c.checked.ensures.rule in
    let listed = c.requires.turned_edge.exists in
    record { exists = omega (arith, edges, listed, c.from.ensures) }

pub turned_vertex-requires-clause-exists : goal.turned_vertex-requires-clause-exists
turned_vertex-requires-clause-exists c = kind_listed c.args.self.now c.args.kind c.args.edge c.requires.turned_edge.exists

end_is : (c : After-next_of-end) → c.next_of-end.result ≡ next (rule_of c.args.self.now) c.args.kind c.args.edge
end_is c =
    let edges : length c.vertices.result.now ≡ edge_count (rule_of c.args.self.now) c.args.kind
    = c.vertices.ensures.each_edge ∙ ap (λ (r : Rule). edge_count (rule_of r) c.args.kind)
    c.checked.ensures.rule in
    c.next_of-end.ensures ∙ ap₂ (λ n e. cond (nat_lt (suc e) n) (suc e) 0) edges c.from.ensures

pub turned_vertex-requires-clause-vertex_exists : goal.turned_vertex-requires-clause-vertex_exists
turned_vertex-requires-clause-vertex_exists c =
    let m = c.args.self.now in
    subst (λ e. e < edge_count (rule_of m) c.args.kind) (sym (end_is c))
    (end-below (edge_count (rule_of m) c.args.kind) c.args.edge c.requires.turned_edge.exists)

pub returns : goal.returns
returns c = subst (λ e. IsTurned (tiling_of c.args.self.now) c.args.kind c.args.steps e
    c.turned_vertex.result) (end_is c.before) c.turned_vertex.ensures
