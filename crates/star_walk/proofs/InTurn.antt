-- A list that is written element by element, beside what it was.
use Rattle.std.proofs.Common.{◌≡◌, ℕ, zero, suc, ◌+◌, ◌<◌, List, [], ◌∷◌, ◌++◌, length, get_or, set, take, drop, refl, sym, ap, subst, arith}
use Rattle.std.specs.List.{AllZip}

-- something is left behind a place in the list
empty : {A : Type 0} (ys : List A) (j : ℕ) → j < length ys → drop j ys ≡ [] → ⊥
empty [] j h e = absurd (omega arith)
empty (y ∷ ys) zero h e = cc e
empty (y ∷ ys) (suc j) h e = empty ys j (omega arith) e

pub same-at : {A : Type 0} (old now : List A) (i : ℕ) (d : A) → i < length old → drop i now ≡ drop i old → get_or now i d ≡ get_or old i d
same-at [] now i d h e = absurd (omega arith)
same-at (o ∷ os) [] zero d h e = absurd (cc e)
same-at (o ∷ os) [] (suc i) d h e = absurd (empty os i (omega arith) (sym e))
same-at (o ∷ os) (x ∷ xs) zero d h e = cc (e)
same-at (o ∷ os) (x ∷ xs) (suc i) d h e = same-at os xs i d (omega arith) e

pub below-as : {A : Type 0} (old now : List A) (i : ℕ) → i < length now → drop i now ≡ drop i old → i < length old
below-as old [] i h e = absurd (omega arith)
below-as [] (x ∷ xs) zero h e = absurd (cc e)
below-as [] (x ∷ xs) (suc i) h e = absurd (empty xs i (omega arith) e)
below-as (o ∷ os) (x ∷ xs) zero h e = omega arith
below-as (o ∷ os) (x ∷ xs) (suc i) h e = let k = below-as os xs i (omega arith) e in omega arith

-- one more is written
written : {A : Type 0} (R : A → A → Type 0) (old now : List A) (i : ℕ) (y d : A) → i < length now
    → AllZip R (take i old) (take i now) → drop i now ≡ drop i old → R (get_or old i d) y
    → AllZip R (take (suc i) old) (take (suc i) (set now i y)) × (drop (suc i) (set now i y) ≡ drop (suc i) old)
written R old [] i y d h z e r = absurd (omega arith)
written R [] (x ∷ xs) zero y d h z e r = absurd (cc e)
written R [] (x ∷ xs) (suc i) y d h z e r = absurd z
written R (o ∷ os) (x ∷ xs) zero y d h z e r = ((r, tt), tail e)
  where
    tail : {A : Type 0} {a b : A} {us vs : List A} → a ∷ us ≡ b ∷ vs → us ≡ vs
    tail e = cc (e)
written R (o ∷ os) (x ∷ xs) (suc i) y d h z e r = let k = written R os xs i y d (omega arith) z.1 e r in ((z.0, k.0), k.1)

pub one-more : {A : Type 0} (R : A → A → Type 0) (old now : List A) (i : ℕ) (y d : A) → i < length now
    → AllZip R (take i old) (take i now) → drop i now ≡ drop i old → R (get_or old i d) y
    → AllZip R (take (i + 1) old) (take (i + 1) (set now i y)) × (drop (i + 1) (set now i y) ≡ drop (i + 1) old)
one-more R old now i y d h z e r =
    let next : suc i ≡ i + 1 = omega arith in
    subst (λ k. AllZip R (take k old) (take k (set now i y)) × (drop k (set now i y) ≡ drop k old)) next (written R old now i y d h z e r)

-- a slice of a whole list that was written stands in its place
pub whole-back : {A : Type 0} (R : A → A → Type 0) (xs ys : List A) → AllZip R xs ys → take (length xs) (ys ++ drop (length ys) xs) ≡ ys
whole-back R [] [] z = refl
whole-back R [] (y ∷ ys) z = absurd z
whole-back R (x ∷ xs) [] z = absurd z
whole-back R (x ∷ xs) (y ∷ ys) z = ap (λ zs. y ∷ zs) (whole-back R xs ys z.1)
