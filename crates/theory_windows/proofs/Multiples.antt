-- A multiple that makes several numbers positive at once.
use Rattle.std.proofs.Common.{◌≡◌, ℕ, zero, suc, ◌+◌, List, [], ◌∷◌, ℤ, pos, negsuc, ◌+ℤ◌, ◌<ℤ◌, refl, sym, ap, ◌∙◌, subst, arith}
use Rattle.std.proofs.lemmas.Int.{ints}
use Rattle.theory_ring.specs.Ring.{Ops, Laws}
use Rattle.theory_ring.specs.Sign.{Signed, OrderLaws, Passes, IsPositive}
use Rattle.theory_ring.proofs.Normaliser.{var, neg, ring, ◌⊕◌, ◌⊖◌, ◌⊗◌}
use Rattle.theory_plane.proofs.BoxPoints.{whole_positive}
use Rattle.std.specs.List.{AllByRecursion}

-- the number k of steps of size g from r
pub record Steps (S : Signed) : Type 0 where
  pub size : S.ops.carrier
  pub from : S.ops.carrier

-- k steps lead to a positive number
abbrev pub reaches : (S : Signed) → S.ops.carrier → Steps S → Type 0
reaches S k g = IsPositive S (S.ops.add (S.ops.mul k g.size) g.from)

module _ (S : Signed) (L : Laws S.ops) (O : OrderLaws S) where
  abbrev R : Ops
  R = S.ops

  reaches-more : (j k : R.carrier) (g : Steps S) → IsPositive S g.size → IsPositive S j → reaches S k g → reaches S (R.add j k) g
  reaches-more j k g size_pos j_pos h =
      ap S.sign (ring R L (j ∷ (k ∷ (g.size ∷ (g.from ∷ [])))) ((var 0 ⊕ var 1) ⊗ var 2 ⊕ var 3) ((var 0 ⊗ var 2) ⊕ (var 1 ⊗ var 2 ⊕ var 3)) refl)
      ∙ O.sign-add _ _ (O.sign-mul _ _ j_pos size_pos) h

  all_more : (j k : R.carrier) (gs : List (Steps S)) → IsPositive S j
      → AllByRecursion (λ g. IsPositive S g.size) gs → AllByRecursion (reaches S k) gs
      → AllByRecursion (reaches S (R.add j k)) gs
  all_more j k [] j_pos p h = tt
  all_more j k (g ∷ gs) j_pos p h = (reaches-more j k g p.0 j_pos h.0, all_more j k gs j_pos p.1 h.1)

  pub as_suc : (k : ℤ) → pos 0 <ℤ k → (n : ℕ) × (k ≡ pos (suc n))
  as_suc (pos zero) h = absurd (omega (arith, ints))
  as_suc (pos (suc n)) h = (n, refl)
  as_suc (negsuc n) h = absurd (omega (arith, ints))

  one_reaches : (g : Steps S) → IsPositive S g.size → (n : ℕ) × reaches S (R.int (pos (suc n))) g
  one_reaches g p =
      let k : Passes S g.size (R.neg g.from) = O.passes g.size (R.neg g.from) p in
      let m : (n : ℕ) × (k.0 ≡ pos (suc n)) = as_suc k.0 k.1 in (
        m.0,
        ap (λ z. S.sign (R.add (R.mul (R.int z) g.size) g.from)) (sym m.1)
            ∙ ap S.sign (ring R L (R.int k.0 ∷ (g.size ∷ (g.from ∷ []))) (var 0 ⊗ var 1 ⊕ var 2) (var 0 ⊗ var 1 ⊖ neg (var 2)) refl) ∙ k.2,
      )

  pub sum_whole : (m n : ℕ) → R.add (R.int (pos (suc m))) (R.int (pos (suc n))) ≡ R.int (pos (suc (m + n + 1)))
  sum_whole m n =
      let e : pos (suc m) +ℤ pos (suc n) ≡ pos (suc (m + n + 1)) = omega (arith, ints) in
      sym (L.int_add _ _) ∙ ap R.int e

  pub all_reach : (gs : List (Steps S)) → AllByRecursion (λ g. IsPositive S g.size) gs → (n : ℕ) × AllByRecursion (reaches S (R.int (pos (suc n)))) gs
  all_reach [] p = (0, tt)
  all_reach (g ∷ gs) p = join (one_reaches g p.0) (all_reach gs p.1)
    where
      join : (n : ℕ) × reaches S (R.int (pos (suc n))) g → (n : ℕ)
          × AllByRecursion (reaches S (R.int (pos (suc n)))) gs → (n : ℕ)
          × AllByRecursion (reaches S (R.int (pos (suc n)))) (g ∷ gs)
      join a b = (
        a.0 + b.0 + 1,
        (
          subst (λ k. reaches S k g) (L.add_comm _ _ ∙ sum_whole a.0 b.0)
              (reaches-more (R.int (pos (suc b.0))) (R.int (pos (suc a.0))) g p.0 (whole_positive S L O b.0)
              a.1),
          subst (λ k. AllByRecursion (reaches S k) gs) (sum_whole a.0 b.0)
              (all_more (R.int (pos (suc a.0))) (R.int (pos (suc b.0))) gs (whole_positive S L O a.0) p.1
              b.1),
        ),
      )
