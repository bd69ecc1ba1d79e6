use Rattle.std.proofs.Common.{◌∙◌, inl, inr, ℕ, List, ap, sym, subst, arith, length, length-append, [], ◌∷◌, slice_get}
use Rattle.pair_machine.specs.Alike.{IsFirstAlike}
use Rattle.pair_machine.proofs.Places.{place_more}
use Rattle.pair_machine.proofs.alike.firsts_alike.Goals as goal

pub loop-number-preserved : goal.loop-number-preserved
loop-number-preserved c = record {
  size = omega (
    arith,
    ap length c.in_ok-push.ensures.items,
    length-append c.loop-number.firsts.items
        (c.first_alike.result ∷ []),
    c.loop-number.invariant.size,
  );
  each = λ n first h. elim (place_more c.loop-number.firsts.items c.first_alike.result first n
      (ap (λ (l : List ℕ). slice_get l n) (sym c.in_ok-push.ensures.items) ∙ h)) [
        | inl a ↦ c.loop-number.invariant.each n first a
        | inr b ↦ subst (λ (k : ℕ). IsFirstAlike c.args.tables.now k first) (sym (b.0 ∙ c.loop-number.invariant.size))
            (subst (IsFirstAlike c.args.tables.now c.loop-number.number) (sym b.1) c.first_alike.ensures)
      ];
}
