-- The kinds of the edges of a type, as loops over kinds and their edges gather them.
use Rattle.std.specs.Prelude.{nat_eq}
use Rattle.std.specs.List.{AllByRecursion, flat_map}
use Rattle.std.proofs.Common.{◌≡◌, ◌≢◌, ℕ, zero, suc, ◌+◌, ◌<◌, ◌≤◌, Bool, true, false, cond, List, [], ◌∷◌, ◌++◌, length, take, get_or, refl, sym, ap, ◌∙◌, subst, arith, append_assoc}
use Rattle.std.proofs.lemmas.List.{take_more, append-nil}
use Rattle.std.proofs.lemmas.Bool.{eq-eqb, ne_eqb}
use Rattle.theory_substitution.specs.Rule.{Rule}
use Rattle.theory_substitution.specs.RuleParts.{edge_types}
use Rattle.theory_addresses.specs.Search.{below}
use Rattle.theory_edge_to_edge.specs.Glue.{once_each}
use Rattle.theory_addresses.proofs.Lists.{AllByRecursion-each, AllByRecursion-append, AllByRecursion-flat_map}
use Rattle.dissect_check.specs.declared.few.Few.TheVariants.{One}
use Rattle.dissect_check.specs.Few.{few_of, one_more}
use Rattle.dissect_check.proofs.LieAmong.{few_of-push}

few_of-one : (xs : List ℕ) (k : ℕ) → few_of xs ≡ One k → xs ≡ (k ∷ [])
few_of-one [] k h = absurd (cc)
few_of-one (x ∷ []) k h = cc
few_of-one (x ∷ (y ∷ ys)) k h = absurd (cc)

-- ---- one edge more
module _ (k ty : ℕ) where
  once_each-push : (ts : List ℕ) (t : ℕ) → once_each k ty (ts ++ t ∷ []) ≡ once_each k ty ts ++ cond (nat_eq t ty) (k ∷ []) []
  once_each-push [] t = refl
  once_each-push (s ∷ ts) t = by_test (nat_eq s ty) (once_each-push ts t)
    where
      by_test : (b : Bool) → once_each k ty (ts ++ t ∷ []) ≡ once_each k ty ts ++ cond (nat_eq t ty) (k ∷ []) []
          → cond b (k ∷ once_each k ty (ts ++ t ∷ [])) (once_each k ty (ts ++ t ∷ [])) ≡ cond b
          (k ∷ once_each k ty ts) (once_each k ty ts) ++ cond (nat_eq t ty) (k ∷ []) []
      by_test true h = ap (λ ks. k ∷ ks) h
      by_test false h = h

  -- behind those of earlier kinds, edge number e has the type, or hasn't
  module _ (front ts : List ℕ) (e : ℕ) (l : e < length ts) where
    pushed : once_each k ty (take (e + 1) ts) ≡ once_each k ty (take e ts) ++ cond (nat_eq (get_or ts e 0) ty) (k ∷ []) []
    pushed = ap (once_each k ty) (take_more ts e 0 l) ∙ once_each-push (take e ts) (get_or ts e 0)

    pub one_more_edge : get_or ts e 0 ≡ ty → one_more (few_of (front ++ once_each k ty (take e ts)))
        k ≡ few_of (front ++ once_each k ty (take (e + 1) ts))
    one_more_edge h =
        sym (few_of-push (front ++ once_each k ty (take e ts)) k)
        ∙ ap few_of (append_assoc front (once_each k ty (take e ts)) (k ∷ []))
        ∙ ap (λ b. few_of (front ++ (once_each k ty (take e ts) ++ cond b (k ∷ []) []))) (sym (eq-eqb (get_or ts e 0) ty h))
        ∙ ap (λ ks. few_of (front ++ ks)) (sym pushed)

    pub no_more_edge : get_or ts e 0 ≢ ty → few_of (front ++ once_each k ty (take e ts)) ≡ few_of (front ++ once_each k ty (take (e + 1) ts))
    no_more_edge h =
        ap (λ ks. few_of (front ++ ks)) (sym (append-nil (once_each k ty (take e ts))))
        ∙ ap (λ b. few_of (front ++ (once_each k ty (take e ts) ++ cond b (k ∷ []) []))) (sym (ne_eqb (get_or ts e 0) ty h))
        ∙ ap (λ ks. few_of (front ++ ks)) (sym pushed)

  -- each is k
  once_each-same : (ts : List ℕ) → AllByRecursion (λ m. m ≡ k) (once_each k ty ts)
  once_each-same [] = tt
  once_each-same (t ∷ ts) = by_test (nat_eq t ty) (once_each-same ts)
    where
      by_test : (b : Bool) → AllByRecursion (λ m. m ≡ k) (once_each k ty ts)
          → AllByRecursion (λ m. m ≡ k) (cond b (k ∷ once_each k ty ts) (once_each k ty ts))
      by_test true h = (refl, h)
      by_test false h = h

-- ---- each of them is the number of a kind
below-within : (n m : ℕ) → n ≤ m → AllByRecursion (λ k. k < m) (below (λ k. k) n)
below-within zero m l = tt
below-within (suc n) m l = AllByRecursion-append (λ k. k < m) (below (λ k. k) n) (n ∷ []) (below-within n m (omega arith)) (omega arith, tt)

module _ {A : Type 0} (r : Rule A) (ty n : ℕ) where
  -- those of the first n kinds
  abbrev pub holders_below : List ℕ
  holders_below = flat_map (λ k. once_each k ty (edge_types r k)) (below (λ k. k) n)

  each_below : AllByRecursion (λ k. k < n) holders_below
  each_below =
      AllByRecursion-flat_map (λ k. k < n) (λ k. once_each k ty (edge_types r k)) (below (λ k. k) n)
      (AllByRecursion-each (λ k. k < n) (λ k. AllByRecursion (λ m. m < n) (once_each k ty (edge_types r k))) (below (λ k. k) n)
      (λ k l. AllByRecursion-each (λ m. m ≡ k) (λ m. m < n) (once_each k ty (edge_types r k))
      (λ m e. subst (λ j. j < n) (sym e) l) (once_each-same k ty (edge_types r k)))
      (below-within n n (omega arith)))

  pub one-below : (k : ℕ) → few_of holders_below ≡ One k → k < n
  one-below k h = (subst (AllByRecursion (λ m. m < n)) (few_of-one holders_below k h) each_below).0
