-- Laws of searches: no fault at any place, and the first fault as a loop finds it.
use Rattle.std.proofs.Common.{◌≡◌, ℕ, zero, suc, ◌+◌, ◌<◌, Bool, true, false, [], ◌∷◌, ◌++◌, Option, Some, None, refl, sym, ap, ◌∙◌, subst, arith, ◌⊎◌, inl, inr, add-one}
use Rattle.std.proofs.lemmas.Bool.{cases_lt}
use Rattle.theory_addresses.specs.Search.{unless, or_else, first_below, below}

pub below_or_at : (i n : ℕ) → i < suc n → (i < n) ⊎ (i ≡ n)
below_or_at i n l = elim (cases_lt i n) [ inl q ↦ inl q | inr q ↦ inr (omega arith) ]

module _ {F : Type 0} where
  pub unless-none : (b : Bool) (e : F) → unless b e ≡ None → b ≡ true
  unless-none true e h = refl
  unless-none false e h = absurd (cc)

  pub or_else-none : (a b : Option F) → or_else a b ≡ None → (a ≡ None) × (b ≡ None)
  or_else-none None b h = (refl, h)
  or_else-none (Some e) b h = absurd (cc)

  -- no fault below n: none at any place
  pub first_below-each : (f : ℕ → Option F) (n : ℕ) → first_below f n ≡ None → (i : ℕ) → i < n → f i ≡ None
  first_below-each f zero h i l = absurd (omega arith)
  first_below-each f (suc n) h i l =
      let p = or_else-none (first_below f n) (f n) h in
      elim (below_or_at i n l) [ inl q ↦ first_below-each f n p.0 i q | inr q ↦ subst (λ j. f j ≡ None) (sym q) p.1 ]

  pub first_below-all : (f : ℕ → Option F) (n : ℕ) → ((i : ℕ) → i < n → f i ≡ None) → first_below f n ≡ None
  first_below-all f zero h = refl
  first_below-all f (suc n) h = ap (λ x. or_else x (f n)) (first_below-all f n (λ i l. h i (omega arith))) ∙ h n (omega arith)

  -- one place more
  pub first_below-more : (f : ℕ → Option F) (n : ℕ) → first_below f n ≡ None → first_below f (n + 1) ≡ f n
  first_below-more f n h = ap (first_below f) (add-one n) ∙ ap (λ x. or_else x (f n)) h

  pub first_below-step : (f : ℕ → Option F) (n : ℕ) → first_below f n ≡ None → f n ≡ None → first_below f (n + 1) ≡ None
  first_below-step f n h k = first_below-more f n h ∙ k

  -- no fault below i, and one at i
  pub first_below-found : (f : ℕ → Option F) (i n : ℕ) (e : F) → first_below f i ≡ None → f i ≡ Some e → i < n → first_below f n ≡ Some e
  first_below-found f i zero e h k l = absurd (omega arith)
  first_below-found f i (suc n) e h k l =
      elim (below_or_at i n l) [
        | inl q ↦ ap (λ x. or_else x (f n)) (first_below-found f i n e h k q)
        | inr q ↦ ap (λ x. or_else x (f n)) (subst (λ j. first_below f j ≡ None) q h) ∙ subst (λ j. f j ≡ Some e) q k
      ]

  -- the same, as a loop leaves
  pub first_below-stop : (f : ℕ → Option F) (i n : ℕ) (e : F) → first_below f i ≡ None → f i ≡ Some e → i < n → Some e ≡ first_below f n
  first_below-stop f i n e h k l = sym (first_below-found f i n e h k l)

  -- what a first fault says: its place, and that no place before it has one
  pub record FirstAt (f : ℕ → Option F) (n : ℕ) (e : F) : Type 0 where
    pub at : ℕ
    pub below : at < n
    pub here : f at ≡ Some e
    pub before : (j : ℕ) → j < at → f j ≡ None

  pub first_below-some : (f : ℕ → Option F) (n : ℕ) (e : F) → first_below f n ≡ Some e → FirstAt f n e
  first_below-some f zero e h = absurd (cc)
  first_below-some f (suc n) e h = by_case (first_below f n) refl h (first_below-some f n e)
    where
      later : FirstAt f n e → FirstAt f (suc n) e
      later p = record { at = p.at; below = let q = p.below in omega arith; here = p.here; before = p.before }

      by_case : (o : Option F) → first_below f n ≡ o → or_else o (f n) ≡ Some e → (first_below f n ≡ Some e → FirstAt f n e) → FirstAt f (suc n) e
      by_case None p q r = record { at = n; below = omega arith; here = q; before = first_below-each f n p }
      by_case (Some d) p q r = later (r (p ∙ q))

pub below-more : {A : Type 0} (f : ℕ → A) (n : ℕ) → below f (n + 1) ≡ below f n ++ f n ∷ []
below-more f n = ap (below f) (add-one n)
