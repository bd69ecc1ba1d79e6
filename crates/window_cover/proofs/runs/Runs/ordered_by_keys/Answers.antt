use Rattle.std.proofs.Common.{List, map, ap, ◌∙◌, subst}
use Rattle.std.specs.List.Sorted.{IsPermutation}
use Rattle.std.proofs.lemmas.Result.{IfOk-weaker}
use Rattle.tile_place.specs.declared.order_key.OrderKey.{OrderKey}
use Rattle.window_cover.specs.Keys.{keys_from}
use Rattle.window_cover.specs.Runs.{seen}
use Rattle.window_cover.specs.Words.{tile_number}
use Rattle.window_cover.proofs.Shuffled.{shuffled}
use Rattle.window_cover.proofs.Words.{numbers-kept}
use Rattle.window_cover.proofs.runs.Runs.ordered_by_keys.Goals as goal

pub returns-clause-ordered : goal.returns-clause-ordered
returns-clause-ordered c =
    let found = seen c.args.self.now in
    let ks = c.sort_unstable.new.self.items in
    let same : IsPermutation (keys_from 0 found) ks = subst (λ (own : List OrderKey). IsPermutation own ks)
    c.in_ok-keys.ensures.keys c.sort_unstable.ensures.permutation in
    IfOk-weaker c.numbers_in_keys.result _ _
    (λ numbers e. record {
      keys = ks;
      same = same;
      sorted = c.sort_unstable.ensures.sorted;
      numbered = ap (map tile_number) (e ∙ ap (map (λ (k : OrderKey). k.number)) c.as_slice.ensures.value)
          ∙ numbers-kept found ks (shuffled found ks same).keys c.keys.ensures.few;
    }) c.numbers_in_keys.ensures
