-- The only glue edge of a kind is the first one.
use Rattle.std.proofs.Common.{◌≡◌, inl, inr, ℕ, zero, suc, ◌<◌, Bool, true, false, cond, List, [], ◌∷◌, ◌++◌, Option, Some, None, refl, sym, ap, ◌∙◌, subst, arith}
use Rattle.std.specs.Prelude.{find, unwrap_or}
use Rattle.theory_addresses.specs.Search.{below}
use Rattle.theory_addresses.proofs.Searches.{below_or_at}
use Rattle.theory_substitution.specs.Rule.{Rule}
use Rattle.theory_substitution.specs.RuleParts.{edge_count, edge_type}
use Rattle.rule_model.specs.Glue.{is_glued, IsOnlyGlueEdge}
use Rattle.half_glue.specs.Outline.{glue_edge_of}

module _ {A : Type 0} (p : A → Bool) where
  found-before : (xs ys : List A) (x : A) → find p xs ≡ Some x → find p (xs ++ ys) ≡ Some x
  found-before [] ys x e = absurd (cc (e))
  found-before (y ∷ xs) ys x e = at_test (p y) e (found-before xs ys x)
    where
      at_test : (b : Bool) → cond b (Some y) (find p xs) ≡ Some x
          → (find p xs ≡ Some x → find p (xs ++ ys) ≡ Some x) → cond b (Some y) (find p (xs ++ ys)) ≡ Some x
      at_test true e rest = e
      at_test false e rest = rest e

  none-before : (xs ys : List A) → find p xs ≡ None → find p (xs ++ ys) ≡ find p ys
  none-before [] ys e = refl
  none-before (y ∷ xs) ys e = at_test (p y) e (none-before xs ys)
    where
      at_test : (b : Bool) → cond b (Some y) (find p xs) ≡ None
          → (find p xs ≡ None → find p (xs ++ ys) ≡ find p ys)
          → cond b (Some y) (find p (xs ++ ys)) ≡ find p ys
      at_test true e rest = absurd (cc (e))
      at_test false e rest = rest e

module _ (p : ℕ → Bool) where
  -- none below n passes
  find-none : (n : ℕ) → ((i : ℕ) → i < n → p i ≡ true → ⊥) → find p (below (λ i. i) n) ≡ None
  find-none zero h = refl
  find-none (suc n) h = none-before p (below (λ i. i) n) (n ∷ []) (find-none n (λ i l. h i (omega (arith, l)))) ∙ at_test (p n) refl
    where
      at_test : (b : Bool) → p n ≡ b → cond b (Some n) None ≡ None
      at_test true e = absurd (h n (omega arith) e)
      at_test false e = refl

  -- one below n passes, and no other
  find-only : (e n : ℕ) → e < n → p e ≡ true → ((i : ℕ) → i < n → p i ≡ true → i ≡ e) → find p (below (λ i. i) n) ≡ Some e
  find-only e zero l h only = absurd (omega (arith, l))
  find-only e (suc n) l h only =
      elim (below_or_at e n l) [
        | inl less ↦ found-before p (below (λ i. i) n) (n ∷ []) e (find-only e n less h (λ i k. only i (omega (arith, k))))
        | inr same ↦ none-before p (below (λ i. i) n) (n ∷ [])
            (find-none n (λ i k t. absurd (apart i k (only i (omega (arith, k)) t) same))) ∙ last same
      ]
    where
      apart : (i : ℕ) → i < n → i ≡ e → e ≡ n → ⊥
      apart i k s t = omega (arith, k, s, t)

      last : e ≡ n → cond (p n) (Some n) None ≡ Some e
      last same = ap (λ b. cond b (Some n) None) (subst (λ i. p i ≡ true) same h) ∙ ap Some (sym same)

pub glue-edge-is : {A : Type 0} (r : Rule A) (k e : ℕ) → IsOnlyGlueEdge r k e → glue_edge_of r k ≡ e
glue-edge-is r k e h =
    ap (λ (x : Option ℕ). unwrap_or x 0)
    (find-only (λ i. is_glued r (edge_type r k i)) e (edge_count r k) h.glue_edge.exists h.glue_edge.glued
    (λ i l g. h.only i (record { exists = l; glued = g })))
