use Rattle.std.proofs.Common.{ℕ, List, length, map, sym, ap, ◌∙◌, subst, arith}
use Rattle.std.proofs.lemmas.List.{with_items_is}
use Rattle.std.proofs.lemmas.List.Sorted.{length_permutation}
use Rattle.window_cover.specs.Keys.{AreOrdered}
use Rattle.window_cover.specs.Runs.{seen}
use Rattle.window_cover.specs.Words.{tile_number}
use Rattle.window_cover.proofs.Words.{length-words_from, ordered-by_words}
use Rattle.window_cover.proofs.runs.Runs.ordered_by_words.Goals as goal

pub sort_words-requires : goal.sort_words-requires
sort_words-requires c =
    let own = ap (λ (ws : List ℕ). length ws) (c.as_mut_slice.ensures.value ∙ c.in_ok-words.ensures.words) in
    omega (arith, own, length-words_from c.args.fields.now 0 (seen c.args.self.now), c.words.ensures.few)

pub returns-clause-ordered : goal.returns-clause-ordered
returns-clause-ordered c =
    let found = seen c.args.self.now in
    let own = c.as_mut_slice.result.now in
    let ws = c.sort_words.new.words in
    let long = length_permutation own ws c.sort_words.ensures.permutation in
    let held = ap (λ (xs : List ℕ). length xs) c.as_mut_slice.ensures.value in
    subst (λ xs. AreOrdered found (map tile_number xs)) (sym (with_items_is c.in_ok-words.words ws (omega (arith, long, held))))
    (ordered-by_words c.args.fields.now found c.requires.hold c.words.ensures.keyed c.words.ensures.few own ws
    (c.as_mut_slice.ensures.value ∙ c.in_ok-words.ensures.words) c.sort_words.ensures.permutation c.sort_words.ensures.sorted)
