use Rattle.std.proofs.Common.{◌≡◌, ◌+◌, Bool, List, length, Option, IfSome, sym, ap, ◌∙◌, subst}
use Rattle.rule_model.specs.Tiling.{tiling_of}
use Rattle.theory_walks.specs.Frames.{FrameValue, IsFrameOf}
use Rattle.half_glue.specs.declared.pairs.Pair.{Pair}
use Rattle.half_glue.specs.Given.{AreGiven}
use Rattle.half_glue.specs.Inner.{IsInnerPair, AreInner, AreRising}
use Rattle.half_glue.proofs.TakenTiles.{inner-more, rising-more, rising-on}
use Rattle.half_glue.proofs.inner_pairs.inner_pairs.Goals.{in-Some+in_ok-push, in_default}
use Rattle.half_glue.proofs.inner_pairs.inner_pairs.Goals as goal

pub loop-number-preserved : goal.loop-number-preserved
loop-number-preserved c =
    let t = tiling_of c.args.search.now.machine.now in
    let tiles = c.args.search.now.tiles.now in
    let n = c.loop-number.number in
    let before : List Pair = c.loop-number.pairs.items in
    let inv = c.loop-number.invariant in
    elim c.match-inner_pair.branch [
      | in-Some+in_ok-push w ↦
          let p : Pair = w.in-Some.pair in
          let items = ap (λ v. v.items) w.pairs-is ∙ w.in_ok-push.ensures.items in
          let first = subst (λ (o : Option Pair). IfSome o (λ q. q.first ≡ n)) w.in-Some.is c.inner_pair.ensures.first in
          let inner = subst (λ (o : Option Pair). IfSome o
          (λ q. (f : FrameValue) → IsFrameOf t f → AreGiven t f tiles → IsInnerPair t f tiles q)) w.in-Some.is
          c.inner_pair.ensures.inner in
          record {
            as_many = subst (λ (xs : List Bool). length xs ≡ length tiles) (sym w.taken-is) (w.mark.ensures.as_many ∙ inv.as_many);
            rising = subst (AreRising (n + 1)) (sym items) (rising-more n before p inv.rising first);
            inner = λ f is given. subst (λ (xs : List Bool). AreInner t f tiles c.match-inner_pair.pairs.items xs) (sym w.taken-is)
                (subst (λ (ps : List Pair). AreInner t f tiles ps w.mark.new.taken) (sym items)
                (inner-more t f tiles before c.loop-number.taken w.mark.new.taken p (inv.inner f is given) (inner f is given) w.mark.ensures.marked));
          }
      | in_default w ↦
          let items = ap (λ v. v.items) w.pairs-is in
          record {
            as_many = subst (λ (xs : List Bool). length xs ≡ length tiles) (sym w.taken-is) inv.as_many;
            rising = subst (AreRising (n + 1)) (sym items) (rising-on n before inv.rising);
            inner = λ f is given. subst (λ (xs : List Bool). AreInner t f tiles c.match-inner_pair.pairs.items xs) (sym w.taken-is)
                (subst (λ (ps : List Pair). AreInner t f tiles ps c.loop-number.taken) (sym items) (inv.inner f is given));
          }
    ]
