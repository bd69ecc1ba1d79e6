use Rattle.std.proofs.Common.{sym, subst}
use Rattle.rule_model.specs.declared.rule.Rule.{Rule}
use Rattle.rule_model.specs.Tiling.{tiling_of}
use Rattle.tile_place.specs.EdgeTurns.{AreGreatest}
use Rattle.tile_place.proofs.Gluing.{kind_listed}
use Rattle.tile_place.proofs.TurnedPlaces.{IsEdgeTurn, edge-there}
use Rattle.tile_place.proofs.machine.Machine.edge_turn.Goals as goal

pub at-requires : goal.at-requires
at-requires c =
    let m = c.args.self.now in
    let are = subst (λ (r : Rule). AreGreatest (tiling_of r) c.self.inside.edges) c.self.view_is c.self.invariant.edges_are in
    record {
      exists = (edge-there (tiling_of m) c.self.inside.edges are c.args.kind c.args.edge
          (kind_listed m c.args.kind c.args.edge c.requires.exists) c.requires.exists).0;
    }

pub returns : goal.returns
returns c =
    let m = c.args.self.now in
    let are = subst (λ (r : Rule). AreGreatest (tiling_of r) c.self.inside.edges) c.self.view_is c.self.invariant.edges_are in
    subst (IsEdgeTurn (tiling_of m) c.args.kind c.args.edge) (sym c.at.ensures)
    (edge-there (tiling_of m) c.self.inside.edges are c.args.kind c.args.edge
    (kind_listed m c.args.kind c.args.edge c.requires.exists) c.requires.exists).1
