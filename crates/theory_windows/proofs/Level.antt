-- The level of a tile in a frame, by digits.
use Rattle.std.proofs.Common.{◌≡◌, ◌↔◌, ℕ, suc, zero, ◌≤◌, Bool, true, false, List, [], ◌∷◌, length, take, drop, ◌++◌, ◌+◌, ◌-◌, refl, sym, ap, ap₂, ◌∙◌, arith}
use Rattle.std.proofs.lemmas.List.{take-append-drop, length-append, length-drop}
use Rattle.theory_windows.specs.Level.{level_with, level_of, LevelTells, LiftsTell}

module _ {D : Type 0} (same : D → D → Bool) (tells : (d e : D) → (same d e ≡ true) ↔ (d ≡ e)) where
  -- of lists that begin alike
  heads : (d e : D) (ds es : List D) → d ∷ ds ≡ e ∷ es → d ≡ e
  heads d e ds es f = ap first f
    where
      first : List D → D
      first [] = d
      first (x ∷ xs) = x

  tails : (d e : D) (ds es : List D) → d ∷ ds ≡ e ∷ es → ds ≡ es
  tails d e ds es f = ap rest f
    where
      rest : List D → List D
      rest [] = []
      rest (x ∷ xs) = xs

  -- at number 0
  both-zero : (l : ℕ) (b : Bool) → level_with l b ≤ 0 → (l ≤ 0) × (b ≡ true)
  both-zero zero true h = (omega arith, refl)
  both-zero zero false h = absurd (omega arith)
  both-zero (suc l) b h = absurd (omega arith)

  zero-both : (l : ℕ) (b : Bool) → l ≤ 0 → b ≡ true → level_with l b ≤ 0
  zero-both zero true h e = omega arith
  zero-both zero false h e = absurd (cc e)
  zero-both (suc l) b h e = absurd (omega arith)

  -- at a further number
  one-less : (l : ℕ) (b : Bool) (n : ℕ) → level_with l b ≤ suc n → l ≤ n
  one-less zero b n h = omega arith
  one-less (suc l) b n h = omega arith

  one-more : (l : ℕ) (b : Bool) (n : ℕ) → l ≤ n → level_with l b ≤ suc n
  one-more zero true n h = omega arith
  one-more zero false n h = omega arith
  one-more (suc l) b n h = omega arith

  shorter : (d e : D) (ds es : List D) → length (d ∷ ds) ≡ length (e ∷ es) → length ds ≡ length es
  shorter d e ds es h = omega arith

  pub tells-to : (ds es : List D) → length ds ≡ length es → (n : ℕ) → level_of same ds es ≤ n → drop n ds ≡ drop n es
  tells-to [] [] h n k = refl
  tells-to [] (e ∷ es) h n k = absurd (omega arith)
  tells-to (d ∷ ds) [] h n k = absurd (omega arith)
  tells-to (d ∷ ds) (e ∷ es) h zero k =
      let b = both-zero (level_of same ds es) (same d e) k in
      ap₂ (λ x xs. x ∷ xs) ((tells d e).0 b.1) (tells-to ds es (shorter d e ds es h) zero b.0)
  tells-to (d ∷ ds) (e ∷ es) h (suc n) k = tells-to ds es (shorter d e ds es h) n (one-less (level_of same ds es) (same d e) n k)

  pub tells-from : (ds es : List D) → length ds ≡ length es → (n : ℕ) → drop n ds ≡ drop n es → level_of same ds es ≤ n
  tells-from [] es h n k = omega arith
  tells-from (d ∷ ds) [] h n k = absurd (omega arith)
  tells-from (d ∷ ds) (e ∷ es) h zero k =
      zero-both (level_of same ds es) (same d e) (tells-from ds es (shorter d e ds es h) zero (tails d e ds es k)) ((tells d e).1 (heads d e ds es k))
  tells-from (d ∷ ds) (e ∷ es) h (suc n) k = one-more (level_of same ds es) (same d e) n (tells-from ds es (shorter d e ds es h) n k)

pub level_tells : {D : Type 0} → LevelTells D
level_tells same tells ds es h n = (tells-to same tells ds es h n, tells-from same tells ds es h n)

seam : {D : Type 0} (ds xs : List D) → drop (length ds) (ds ++ xs) ≡ xs
seam [] xs = refl
seam (d ∷ ds) xs = seam ds xs

lifted-length : {D : Type 0} (ds es : List D) → length ds ≤ length es → length (ds ++ drop (length ds) es) ≡ length es
lifted-length ds es h = length-append ds (drop (length ds) es)
    ∙ ap (λ k. length ds + k) (length-drop (length ds) es) ∙ filled (length ds) (length es) h
  where
    filled : (a b : ℕ) → a ≤ b → a + (b - a) ≡ b
    filled a b k = omega arith

pub lifts_tell : {D : Type 0} → LiftsTell D
lifts_tell {D} same tells es = record {
  lift = λ ds h. tells-from same tells (ds ++ drop (length ds) es) es (lifted-length ds es h) (length ds) (seam ds (drop (length ds) es));
  lifted = λ ds h n k. sym (take-append-drop n ds) ∙ ap (λ xs. take n ds ++ xs) (tells-to same tells ds es h n k);
}
