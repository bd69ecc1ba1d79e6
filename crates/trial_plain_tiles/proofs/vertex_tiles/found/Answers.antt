use Rattle.std.proofs.Common.{rules, ◌<◌, subst}
use Rattle.theory_addresses.specs.Address.{Address}
use Rattle.rule_model.specs.Tiling.{tiling_of}
use Rattle.tile_place.specs.Crossed.{edges_of}
use Rattle.tile_place.proofs.KindEdges.{edges_counted}
use Rattle.trial_plain_tiles.proofs.vertex_tiles.found.Goals as goal

pub find-requires : goal.find-requires
find-requires g c =
    let vertex = c.args.vertex in
    let t = tiling_of c.args.machine.now in
    record {
      vertex = record {
        frame = search rules;
        exists = subst (λ (a : Address). vertex < edges_of t a.kind) c.base.ensures
            (subst (λ n. vertex < n)
            (edges_counted c.tables.result.now c.checked.result.now c.args.machine.now c.base.result.now.kind
            c.edges.result c.tables.ensures.contacts c.checked.ensures.rule c.edges.ensures.count)
            c.if-vertex-edges.false);
      };
    }
