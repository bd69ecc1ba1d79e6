use Rattle.std.proofs.Common.{rules, ◌<◌, subst}
use Rattle.theory_addresses.specs.Address.{Address}
use Rattle.rule_model.specs.Tiling.{tiling_of}
use Rattle.tile_place.specs.Crossed.{edges_of}
use Rattle.tile_place.proofs.KindEdges.{edges_counted}
use Rattle.trial_rule_files.proofs.crowded.round.Goals as goal

pub find-requires : goal.find-requires
find-requires g c =
    record {
      vertex = record {
        frame = search rules;
        exists = subst (λ (a : Address). 1 < edges_of (tiling_of c.args.machine.now) a.kind) c.base.ensures
            (subst (λ n. 1 < n)
            (edges_counted c.tables.result.now c.checked.result.now c.args.machine.now c.base.result.now.kind
            c.edges.result c.tables.ensures.contacts c.checked.ensures.rule c.edges.ensures.count)
            c.if-edges-gt-VERTEX.true);
      };
    }
