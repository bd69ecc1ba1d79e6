-- A text cut at its first mark.
use Rattle.std.proofs.Common.{◌≡◌, ℕ, ◌+◌, ◌-◌, ◌<◌, ◌≤◌, Bool, true, false, cond, not, nat_eq, List, [], ◌∷◌, length, take, drop, get_or, refl, ap, sym, ◌∙◌, arith, length-drop}
use Rattle.std.proofs.lemmas.Bool.{false_from_ne_true}
use Rattle.std.proofs.lemmas.List.{take_all}
use Rattle.std.proofs.lemmas.List.Splits.{slice_split_first}
use Rattle.std.proofs.lemmas.List.Sums.{position_or_len_is}
use Rattle.std.specs.List.{position_or_len, slice_split, onto_first}

module _ (mark : ℕ) where
  abbrev pub is_mark : ℕ → Bool
  is_mark byte = nat_eq byte mark

  -- the place of the first mark, or the length
  first_at : (xs : List ℕ) (place : ℕ) → place ≤ length xs
      → ((k : ℕ) → k < place → is_mark (get_or xs k 0) ≡ true → ⊥)
      → (place < length xs → is_mark (get_or xs place 0) ≡ true) → position_or_len is_mark xs ≡ place
  first_at xs place l before there = position_or_len_is is_mark xs place 0 l (λ k m. false_from_ne_true (is_mark (get_or xs k 0)) (before k m)) there

  alone_by : (b : Bool) (x : ℕ) (xs : List ℕ)
      → (length xs ≤ position_or_len is_mark xs → slice_split is_mark xs ≡ xs ∷ [])
      → length (x ∷ xs) ≤ cond (not b) (1 + position_or_len is_mark xs) 0
      → cond b ([] ∷ slice_split is_mark xs) (onto_first x (slice_split is_mark xs)) ≡ (x ∷ xs) ∷ []
  alone_by true x xs same h = absurd (omega (arith, h))
  alone_by false x xs same h = ap (onto_first x) (same (omega (arith, h)))

  alone : (xs : List ℕ) → length xs ≤ position_or_len is_mark xs → slice_split is_mark xs ≡ xs ∷ []
  alone [] h = refl
  alone (x ∷ xs) h = alone_by (is_mark x) x xs (alone xs) h

  -- a text without a mark is one part
  pub whole : (xs : List ℕ) → ((k : ℕ) → k < length xs → is_mark (get_or xs k 0) ≡ true → ⊥) → slice_split is_mark xs ≡ xs ∷ []
  whole xs before = let e = first_at xs (length xs) (omega arith) before (λ n. absurd (omega (arith, n))) in alone xs (omega (arith, e))

  -- one with a mark is the part before the first, and those behind it
  pub parted : (xs : List ℕ) (place : ℕ) → place < length xs
      → ((k : ℕ) → k < place → is_mark (get_or xs k 0) ≡ true → ⊥) → is_mark (get_or xs place 0) ≡ true
      → slice_split is_mark xs ≡ take place xs ∷ slice_split is_mark (take (length xs - (place + 1)) (drop (place + 1) xs))
  parted xs place l before there =
      let e = first_at xs place (omega (arith, l)) before (λ m. there) in
      slice_split_first is_mark xs 0 (omega (arith, l, e))
      ∙ ap (λ n. take n xs ∷ slice_split is_mark (drop (n + 1) xs)) e
      ∙ ap (λ rest. take place xs ∷ slice_split is_mark rest)
      (sym (take_all (length xs - (place + 1)) (drop (place + 1) xs)
      (let n = length-drop (place + 1) xs in omega (arith, n))))
