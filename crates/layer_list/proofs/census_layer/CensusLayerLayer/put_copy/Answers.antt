use Rattle.std.proofs.Common.{rules, ◌≡◌, ◌<◌, [], ◌∷◌, ◌++◌, length, sym, subst, arith}
use Rattle.std.proofs.lemmas.Result.{on_ok_weaker}
use Rattle.layer_list.specs.Counts.{IsCensus}
use Rattle.layer_list.specs.declared.census_layer.CensusLayer.{CensusLayer}
use Rattle.layer_list.proofs.Counting.{more}
use Rattle.layer_list.proofs.census_layer.CensusLayerLayer.put_copy.Goals as goal

pub returns-clause-ok : goal.returns-clause-ok
returns-clause-ok c =
    let size : length c.args.self.now.counts ≡ 256 = search rules in
    let small : c.args.tile.now.class < 256 = omega arith in
    on_ok_weaker c.count.result
    (λ same tiles h. subst (λ (l : CensusLayer). IsCensus l.counts l.all l.ended l.text.items l.view.kinds (tiles ++ c.args.tile.now ∷ [])) (sym same)
    (more _ _ _ _ _ tiles c.args.tile.now 1 size small c.requires.open h)) c.count.ensures.counted
