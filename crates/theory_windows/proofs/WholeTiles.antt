-- Whole tiles cover a window where their parts do.
use Rattle.std.proofs.Common.{◌≡◌, ℕ, zero, suc, ◌+◌, List, [], ◌∷◌, flat_map, ℤ, pos, ◌+ℤ◌, refl, sym, ap, ap₂, ◌∙◌, Bool, true, cond, int_eq, arith}
use Rattle.std.proofs.lemmas.Int.{ints}
use Rattle.theory_ring.specs.Sign.{Signed}
use Rattle.theory_plane.specs.Plane.{TestPoint, IsTestPoint}
use Rattle.theory_plane.specs.Crossing.{count, member}
use Rattle.theory_plane.specs.Box.{OpenBox, in_box}
use Rattle.theory_dissection.specs.Sums.{sum_over, number_of}
use Rattle.std.specs.List.{AllByRecursion}
use Rattle.theory_addresses.specs.Search.{IsAmong}
use Rattle.theory_windows.specs.Patch.{Patch, IsDissected, Covers}
use Rattle.theory_windows.specs.WholeTiles.{WholeTile, CountAsTheirParts, WholesCoverBox}
use Rattle.theory_dissection.proofs.Sums.{sum-ext_on, sum-flat_map}
use Rattle.theory_addresses.proofs.Lists.{AllByRecursion-among, AllByRecursion-from, IsAmong-flat_map}
use Rattle.theory_windows.proofs.Members.{same_whole, number-one, some-passes}
use Rattle.theory_dissection.proofs.ZeroOrOne.{sum-number}

-- ---- natural numbers whose sum is 1
abbrev sum_of : {A : Type 0} → (A → ℕ) → List A → ℕ
sum_of n [] = 0
sum_of n (x ∷ xs) = n x + sum_of n xs

none-one : {A : Type 0} (n : A → ℕ) (xs : List A) → sum_of n xs ≡ 0 → number_of (λ x. int_eq (pos (n x)) (pos 1)) xs ≡ 0
none-one n [] e = refl
none-one n (x ∷ xs) e = ap (λ k. cond (int_eq (pos k) (pos 1))
    (suc (number_of (λ x. int_eq (pos (n x)) (pos 1)) xs)) (number_of (λ x. int_eq (pos (n x)) (pos 1)) xs))
    (head (n x) (sum_of n xs) e) ∙ none-one n xs (tail (n x) (sum_of n xs) e)
  where
    head : (a b : ℕ) → a + b ≡ 0 → a ≡ 0
    head a b h = omega arith

    tail : (a b : ℕ) → a + b ≡ 0 → b ≡ 0
    tail a b h = omega arith

one-one : {A : Type 0} (n : A → ℕ) (xs : List A) → sum_of n xs ≡ 1 → number_of (λ x. int_eq (pos (n x)) (pos 1)) xs ≡ 1
one-one n [] e = absurd (omega arith)
one-one {A} n (x ∷ xs) e = at_head (n x) e (one-one n xs) (none-one n xs)
  where
    at_head : (k : ℕ) → k + sum_of n xs ≡ 1 → (sum_of n xs ≡ 1
        → number_of (λ y. int_eq (pos (n y)) (pos 1)) xs ≡ 1)
        → (sum_of n xs ≡ 0 → number_of (λ y. int_eq (pos (n y)) (pos 1)) xs ≡ 0)
        → cond (int_eq (pos k) (pos 1)) (suc (number_of (λ y. int_eq (pos (n y)) (pos 1)) xs)) (number_of (λ y. int_eq (pos (n y)) (pos 1)) xs) ≡ 1
    at_head zero h f g = f (omega arith)
    at_head (suc zero) h f g = ap suc (g (omega arith))
    at_head (suc (suc k)) h f g = absurd (omega arith)

sum-naturals : {A : Type 0} (n : A → ℕ) (xs : List A) → sum_over (λ x. pos (n x)) xs ≡ pos (sum_of n xs)
sum-naturals n [] = refl
sum-naturals n (x ∷ xs) = ap (λ z. pos (n x) +ℤ z) (sum-naturals n xs) ∙ joined (n x) (sum_of n xs)
  where
    joined : (a b : ℕ) → pos a +ℤ pos b ≡ pos (a + b)
    joined a b = omega (arith, ints)

number-same : {A : Type 0} (p q : A → Bool) (xs : List A) → AllByRecursion (λ x. p x ≡ q x) xs → number_of p xs ≡ number_of q xs
number-same p q [] h = refl
number-same p q (x ∷ xs) h = ap₂ (λ b n. cond b (suc n) n) h.0 (number-same p q xs h.1)

module _ (S : Signed) {T : Type 0} (P : Patch S T) (D : IsDissected S T P) (box : OpenBox S.ops.carrier)
    (found : List T) (C : Covers S T P box found) (wholes : List (WholeTile S T))
    (G : CountAsTheirParts S T P found wholes)
    (p : TestPoint S.ops.carrier) (test : IsTestPoint S p) (inside : in_box S box p ≡ true) where
  abbrev all : List T
  all = flat_map (λ (w : WholeTile S T). w.parts) wholes

  abbrev count_at : T → ℤ
  count_at t = count S (P.outline t) p

  -- the number of the parts that hold the point
  abbrev holders : List T → ℕ
  holders ts = number_of (λ t. member S (P.outline t) p) ts

  of_patch : (t : T) → IsAmong t all → IsAmong t P.tiles
  of_patch t i = AllByRecursion-among (λ u. IsAmong u P.tiles) t all i G.of_patch

  holders-all : holders all ≡ 1
  holders-all =
      let h = some-passes (λ t. member S (P.outline t) p) found (C p test inside) in
      let i : IsAmong h.0 all = AllByRecursion-among (λ t. IsAmong t all) h.0 found h.1 G.all in
      number-one (λ t. member S (P.outline t) p) h.0 all G.once i h.2 (λ u j k. D.one_holder u h.0 (of_patch u j) (of_patch h.0 i) p test k h.2)

  sum-parts : (ts : List T) → ((t : T) → IsAmong t ts → IsAmong t P.tiles) → sum_over count_at ts ≡ pos (holders ts)
  sum-parts ts h = sum-number count_at ts (λ t i. (D.left_fan t (h t i)).zero_or_one p test)

  count-whole : (w : WholeTile S T) → IsAmong w wholes → count S w.outline p ≡ pos (holders w.parts)
  count-whole w i = AllByRecursion-among (λ (v : WholeTile S T). (q : TestPoint S.ops.carrier)
      → count S v.outline q ≡ sum_over (λ t. count S (P.outline t) q) v.parts) w wholes i G.counts p
      ∙ sum-parts w.parts (λ t j. of_patch t (IsAmong-flat_map (λ (v : WholeTile S T). v.parts) w t wholes i j))

  numbers-sum : sum_of (λ (w : WholeTile S T). holders w.parts) wholes ≡ 1
  numbers-sum = same_whole _ _ (
      sym (sum-naturals (λ (w : WholeTile S T). holders w.parts) wholes)
      ∙ sum-ext_on (λ (w : WholeTile S T). pos (holders w.parts)) (λ w. sum_over count_at w.parts) wholes
      (λ w i. sym (sum-parts w.parts (λ t j. of_patch t
      (IsAmong-flat_map (λ (v : WholeTile S T). v.parts) w t wholes i j))))
      ∙ sym (sum-flat_map count_at (λ (w : WholeTile S T). w.parts) wholes)
      ∙ sum-parts all of_patch
      ∙ ap pos holders-all)

  pub whole-one : number_of (λ (w : WholeTile S T). member S w.outline p) wholes ≡ 1
  whole-one =
      number-same _ (λ (w : WholeTile S T). int_eq (pos (holders w.parts)) (pos 1)) wholes
      (AllByRecursion-from _ wholes (λ w i. ap (λ z. int_eq z (pos 1)) (count-whole w i)))
      ∙ one-one (λ (w : WholeTile S T). holders w.parts) wholes numbers-sum

pub wholes_cover : (S : Signed) → {T : Type 0} → WholesCoverBox S T
wholes_cover S P D box found C wholes G p test inside = whole-one S P D box found C wholes G p test inside
