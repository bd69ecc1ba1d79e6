-- Searches for a number that passes a test.
use Rattle.std.proofs.Common.{◌≡◌, ℕ, zero, suc, ◌<◌, Bool, true, false, ◌||◌, List, [], ◌∷◌, length, get_or, refl, ap, ◌∙◌, arith}
use Rattle.std.specs.List.{list_any}
use Rattle.theory_addresses.specs.Search.{some_below}
use Rattle.theory_addresses.proofs.BoolLoops.{or_true}

-- a number below n that passes
pub record Found (p : ℕ → Bool) (n : ℕ) : Type 0 where
  pub at : ℕ
  pub below : at < n
  pub passes : p at ≡ true

-- what is found passes
pub found : (p : ℕ → Bool) (n : ℕ) → some_below n p ≡ true → Found p n
found p zero h = absurd (cc)
found p (suc n) h = by_case (some_below n p) refl h (found p n)
  where
    by_case : (b : Bool) → some_below n p ≡ b → b || p n ≡ true → (some_below n p ≡ true → Found p n) → Found p (suc n)
    by_case true e q rest = let r = rest e in record { at = r.at; below = let l = r.below in omega arith; passes = r.passes }
    by_case false e q rest = record { at = n; below = omega arith; passes = q }

-- an element that passes is found
pub list_any-found : (p : ℕ → Bool) (xs : List ℕ) (i : ℕ) → i < length xs → p (get_or xs i 0) ≡ true → list_any p xs ≡ true
list_any-found p [] i l h = absurd (omega arith)
list_any-found p (x ∷ xs) zero l h = ap (λ b. b || list_any p xs) h
list_any-found p (x ∷ xs) (suc i) l h = ap (λ b. p x || b) (list_any-found p xs i (omega arith) h) ∙ or_true (p x)
