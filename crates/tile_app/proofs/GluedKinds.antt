-- Glue edges that are written down kind by kind.
use Rattle.std.proofs.Common.{◌≡◌, inl, inr, ℕ, ◌+◌, ◌<◌, List, Option, None, Some, IfSome, length, get_or, set, unwrap_or, refl, sym, ◌∙◌, subst, arith}
use Rattle.std.proofs.lemmas.List.{get_or-set_same, get_or-set_other}
use Rattle.std.proofs.lemmas.Bool.{cases_lt}
use Rattle.rule_model.specs.Glue.{IsGlueEdge, IsOnlyGlueEdge}
use Rattle.theory_substitution.specs.Rule.{Rule}

module _ {A : Type 0} (r : Rule A) where
  -- what is found of a kind that has one glue edge
  pub found : (k : ℕ) (o : Option ℕ) → (o ≡ None → (e : ℕ) → ¬ IsGlueEdge r k e) → IfSome o (IsOnlyGlueEdge r k)
      → (e : ℕ) → IsOnlyGlueEdge r k e → unwrap_or o 0 ≡ e
  found k None none only e is = absurd (none refl e is.glue_edge)
  found k (Some x) none only e is = is.only x only.glue_edge

  -- the kinds below a number are written down
  abbrev pub AreFirstEdges : ℕ → List ℕ → Type 0
  AreFirstEdges n edges = (k e d : ℕ) → k < n → IsOnlyGlueEdge r k e → get_or edges k d ≡ e

  -- and one more
  pub one-more : (n : ℕ) (edges : List ℕ) (x : ℕ) → n < length edges → AreFirstEdges n edges
      → ((e : ℕ) → IsOnlyGlueEdge r n e → x ≡ e) → AreFirstEdges (n + 1) (set edges n x)
  one-more n edges x inside before its k e d below is = elim (cases_lt k n) [
    | inl b ↦ get_or-set_other edges n k x d (λ same. absurd (omega (arith, b, same))) ∙ before k e d b is
    | inr b ↦
        let same : n ≡ k = omega (arith, b, below) in
        subst (λ i. get_or (set edges n x) i d ≡ e) same
        (get_or-set_same edges n x d inside ∙ its e (subst (λ i. IsOnlyGlueEdge r i e) (sym same) is))
  ]
