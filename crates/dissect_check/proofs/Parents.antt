-- Inflated prototiles, kind by kind.
use Rattle.std.proofs.Common.{◌≡◌, ℕ, ◌+◌, inl, inr, List, [], ◌∷◌, ◌++◌, length, get_or, sym, ap, ◌∙◌, subst, arith}
use Rattle.std.proofs.lemmas.Bool.{cases_lt}
use Rattle.std.proofs.lemmas.List.{length-append}
use Rattle.std.proofs.Math.ListN.{get_or-append}
use Rattle.std.proofs.Math.Seq.{get_or-append_seam}
use Rattle.rule_model.specs.declared.rule.Rule.{Rule}
use Rattle.dissect_check.specs.declared.inflated.Inflated.{Inflated}
use Rattle.dissect_check.specs.Views.{IsInflated, AreInflated}

-- one kind more
pub one_more : (r : Rule) (n : ℕ) (parents more : List Inflated) (p : Inflated) → more ≡ parents ++ p ∷ []
    → AreInflated r n parents → IsInflated r n p → AreInflated r (n + 1) more
one_more r n parents more p is h last = record {
  count = let c = h.count in let l = length-append parents (p ∷ []) in ap length is ∙ omega (arith, c, l);
  each = λ k d below. elim (cases_lt k n) [
    | inl early ↦ subst (IsInflated r k) (sym (ap (λ xs. get_or xs k d) is
        ∙ get_or-append parents (p ∷ []) d k (let c = h.count in omega (arith, early, c)))) (h.each k d early)
    | inr late ↦ let same : k ≡ n = omega (arith, late, below) in
        subst (λ m. IsInflated r m (get_or more m d)) (sym same)
        (subst (IsInflated r n) (sym (ap (λ xs. get_or xs n d) is
        ∙ ap (λ m. get_or (parents ++ p ∷ []) m d) (sym h.count) ∙ get_or-append_seam parents p [] d))
        last)
  ];
}
