use Rattle.std.proofs.Common.{rules, ◌<◌, sym, ◌∙◌, subst}
use Rattle.theory_addresses.specs.Address.{Address}
use Rattle.rule_model.specs.Tiling.{tiling_of}
use Rattle.tile_place.specs.Crossed.{edges_of}
use Rattle.tile_place.proofs.KindEdges.{edges_counted}
use Rattle.trial_tiles.proofs.stars.star_text.Goals as goal

pub star-found-requires : goal.star-found-requires
star-found-requires g c =
    let vertex = c.args.vertex in
    let m = c.deref-3.result.now in
    let same = c.checked.ensures.rule ∙ c.deref-2.ensures ∙ sym c.deref-3.ensures in
    record {
      vertex = record {
        frame = search rules;
        exists = subst (λ (a : Address). vertex < edges_of (tiling_of m) a.kind) c.base.ensures
            (subst (λ n. vertex < n)
            (edges_counted c.tables.result.now c.checked.result.now m c.base.result.now.kind c.edges.result
            c.tables.ensures.contacts same c.edges.ensures.count)
            c.if-vertex-edges.false);
      };
    }
