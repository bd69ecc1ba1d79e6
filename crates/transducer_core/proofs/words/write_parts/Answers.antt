use Rattle.std.proofs.Common.{◌-◌, ◌∷◌, [], ◌++◌, List, ℕ, map, take, sym, ap, ◌∙◌, arith, append_assoc}
use Rattle.std.proofs.lemmas.List.{length-map}
use Rattle.theory_addresses.proofs.Ranges.{slice_get-image}
use Rattle.edge_tables.specs.Views.{as_child_edge}
use Rattle.transducer_core.specs.Words.{word_of_part, part_words}
use Rattle.transducer_core.proofs.FlatEntries.{reversed}
use Rattle.transducer_core.proofs.Standing
use Rattle.transducer_core.proofs.words.write_parts.Goals as goal

pub loop-done-preserved : goal.loop-done-preserved
loop-done-preserved c =
    let own = c.len-count.result - 1 - c.loop-done.done in
    let edges = map as_child_edge c.args.block.now.items in
    let read = Standing.read_at c.args.block.now.items own c.index-part.result.now
    (omega (arith, c.len-count.ensures, c.loop-done-test.true)) c.index-part.ensures in
    let there = slice_get-image word_of_part (as_child_edge c.index-part.result.now) edges own
    (slice_get-image as_child_edge c.index-part.result.now c.args.block.now.items own read) in
    let here = reversed (map word_of_part edges) own c.loop-done.done
    (word_of_part (as_child_edge c.index-part.result.now))
    (omega (
      arith,
      c.len-count.ensures,
      c.loop-done-test.true,
      length-map edges word_of_part,
      length-map
          c.args.block.now.items as_child_edge,
    )) there in
    let more = Standing.take_at (part_words edges) c.loop-done.done (word_of_part (as_child_edge c.index-part.result.now)) here in
    c.in_ok-push.ensures.items ∙ ap (λ (l : List ℕ). l ++ c.part_word.result ∷ []) c.loop-done.invariant
    ∙ append_assoc c.args.words.now.items (take c.loop-done.done (part_words edges))
    (c.part_word.result ∷ [])
    ∙ ap (λ (n : ℕ). c.args.words.now.items ++ (take c.loop-done.done (part_words edges) ++ n ∷ []))
    c.part_word.ensures ∙ ap (λ (l : List ℕ). c.args.words.now.items ++ l) (sym more)
