use Rattle.std.proofs.Common.{rules, ◌≡◌, ◌<◌, ◌++◌, length, replicate, sym, ap, ◌∙◌, subst, arith}
use Rattle.std.proofs.lemmas.Result.{on_ok_weaker}
use Rattle.layer_list.specs.Counts.{IsCensus, counted}
use Rattle.layer_list.specs.declared.census_layer.CensusLayer.{CensusLayer}
use Rattle.layer_list.proofs.Counting.{more}
use Rattle.layer_list.proofs.census_layer.CensusLayerLayer.put_many.Goals as goal

pub returns-clause-ok : goal.returns-clause-ok
returns-clause-ok c =
    let size : length c.args.self.now.counts ≡ 256 = search rules in
    let small : c.args.tile.now.class < 256 = omega arith in
    let own = ap (λ n. counted c.args.self.now c.args.tile.now.class n) c.from.ensures in
    let more_tiles = replicate c.args.count c.args.tile.now in
    on_ok_weaker c.count.result
    (λ same tiles h. subst
    (λ (l : CensusLayer). IsCensus l.counts l.all l.ended l.text.items l.view.kinds (tiles ++ more_tiles)) (sym (same ∙ own))
    (more _ _ _ _ _ tiles c.args.tile.now c.args.count size small c.requires.open h)) c.count.ensures.counted
