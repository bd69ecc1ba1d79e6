use Rattle.std.proofs.Common.{◌≡◌, arith, length, true, false, List, [], ◌∷◌, ◌++◌, sym, ap, ◌∙◌, append-nil}
use Rattle.half_glue.specs.declared.pairs.Pair.{Pair}
use Rattle.theory_addresses.specs.Search.{chosen_below}
use Rattle.half_glue.specs.Keys.{is_new_key, pair_at}
use Rattle.half_glue.proofs.Keyed.{chosen-more}
use Rattle.half_glue.proofs.covered_order.picked.Goals.{then-is_new+in_ok-push, else-is_new}
use Rattle.half_glue.proofs.covered_order.picked.Goals as goal

pub loop-place-preserved : goal.loop-place-preserved
loop-place-preserved c =
    let pairs : List Pair = c.args.pairs.now in
    let ks = c.args.keys.now in
    let n = c.loop-place.place in
    elim c.if-is_new.branch [
      | then-is_new+in_ok-push w ↦
          ap (λ v. v.items) w.picked-is ∙ w.in_ok-push.ensures.items
          ∙ ap (λ (ws : List Pair). ws ++ pair_at pairs ks n ∷ []) c.loop-place.invariant
          ∙ sym (chosen-more (is_new_key ks) (pair_at pairs ks) n true (sym c.is_new.ensures ∙ w.if-is_new.true))
      | else-is_new w ↦
          ap (λ v. v.items) w.picked-is ∙ c.loop-place.invariant ∙ sym (append-nil _)
          ∙ sym (chosen-more (is_new_key ks) (pair_at pairs ks) n false (sym c.is_new.ensures ∙ w.if-is_new.false))
    ]

pub returns : goal.returns
returns c =
    let all_done : c.loop-place.place ≡ length c.args.keys.now = omega (arith, c.loop-place-test.false, c.loop-place.auto.place-end) in
    c.loop-place.invariant ∙ ap (chosen_below (is_new_key c.args.keys.now) (pair_at c.args.pairs.now c.args.keys.now)) all_done
