-- Ends are tested the same exactly where they are.
use Rattle.std.proofs.Common.{◌≡◌, ◌⊎◌, inl, inr, ℕ, true, false, refl, sym, ap, ap₂, ◌∙◌, subst}
use Rattle.std.specs.Cmp.{IsEquivalence}
use Rattle.std.proofs.lemmas.Bool.{cases_Bool, and_parts, and_from, eqb-true, eq-eqb}
use Rattle.window_cover.specs.declared.ends.Ends.{Ends}
use Rattle.window_cover.specs.Border.{have_same_ends, Waiting}

pub have_same_ends-refl : (a : Ends) → have_same_ends a a ≡ true
have_same_ends-refl a =
    and_from _ _ (eq-eqb a.start_low a.start_low refl) (and_from _ _ (eq-eqb a.start_high a.start_high refl)
    (and_from _ _ (eq-eqb a.end_low a.end_low refl) (eq-eqb a.end_high a.end_high refl)))

abbrev of_words : ℕ → ℕ → ℕ → ℕ → Ends
of_words w x y z = record { start_low = w; start_high = x; end_low = y; end_high = z }

-- word by word
pub same_words : {w x y z s t u v : ℕ} → w ≡ s → x ≡ t → y ≡ u → z ≡ v → of_words w x y z ≡ of_words s t u v
same_words {w} {x} {y} {z} {s} {t} {u} {v} e f g h =
    ap₂ (λ (a b : ℕ). of_words a b y z) e f ∙ ap₂ (λ (c d : ℕ). of_words s t c d) g h

pub have_same_ends-exact : (a b : Ends) → have_same_ends a b ≡ true → a ≡ b
have_same_ends-exact a b h =
    let p = and_parts _ _ h in
    let q = and_parts _ _ p.1 in
    let r = and_parts _ _ q.1 in
    same_words (eqb-true a.start_low b.start_low p.0) (eqb-true a.start_high b.start_high q.0)
    (eqb-true a.end_low b.end_low r.0) (eqb-true a.end_high b.end_high r.1)

pub have_same_ends-symm : (a b : Ends) → have_same_ends a b ≡ have_same_ends b a
have_same_ends-symm a b = at_tests (cases_Bool (have_same_ends a b)) (cases_Bool (have_same_ends b a))
  where
    at_tests : (have_same_ends a b ≡ true) ⊎ (have_same_ends a b ≡ false) → (have_same_ends b a ≡ true)
        ⊎ (have_same_ends b a ≡ false) → have_same_ends a b ≡ have_same_ends b a
    at_tests (inl e) f = subst (λ (x : Ends). have_same_ends a x ≡ have_same_ends x a) (have_same_ends-exact a b e) refl
    at_tests (inr e) (inl f) = sym (subst (λ (x : Ends). have_same_ends b x ≡ have_same_ends x b) (have_same_ends-exact b a f) refl)
    at_tests (inr e) (inr f) = e ∙ sym f

pub waiting-laws : IsEquivalence (λ (o p : Waiting). have_same_ends o.ends p.ends)
waiting-laws = record {
  refl = λ o. have_same_ends-refl o.ends;
  symm = λ o p. have_same_ends-symm o.ends p.ends;
  congr = λ o p q e. ap (λ (x : Ends). have_same_ends x q.ends) (have_same_ends-exact o.ends p.ends e);
}
