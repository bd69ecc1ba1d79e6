-- A number, and the figures that follow it.
use Rattle.std.proofs.Common.{◌≡◌, ℕ, ◌+◌, ◌-◌, ◌*◌, ◌≤◌, Bool, true, false, cond, not, ◌&&◌, List, [], ◌∷◌, Option, Some, None, nat_le, nat_eq, refl, ap, sym, ◌∙◌, arith}
use Rattle.std.proofs.lemmas.Bool.{leb-false}
use Rattle.std.proofs.lemmas.Bool.Decides.{nat_tests}
use Rattle.std.specs.Option.{option_and_then}
use Rattle.tile_shape.specs.Decimal.{is_figure, continued, number_up_to}
use Rattle.tile_shape.proofs.Decimals.{past_limit}

-- a number, where it isn't above a limit
abbrev pub up_to : ℕ → Option ℕ → Option ℕ
up_to most o = option_and_then (λ k. cond (nat_le k most) (Some k) None) o

-- what figures behind a first one make of its number: none may follow `0`
abbrev pub further : ℕ → ℕ → List ℕ → Option ℕ
further most n [] = Some n
further most n (c ∷ cs) = cond (nat_eq n 0) None (up_to most (continued n (c ∷ cs)))

-- one figure more
abbrev pub figured : ℕ → ℕ → ℕ
figured n c = 10 * n + (c - 48)

more_by : (most n m : ℕ) (cs : List ℕ) (l : Bool) → nat_le m most ≡ l → (nat_eq n 0 ≡ true → ⊥) → n ≤ m
    → up_to most (continued m cs) ≡ cond l (further most m cs) None
more_by most n m [] l e h k = ap (λ b. cond b (Some m) None) e
more_by most n m (c ∷ cs) true e h k = sym (ap (λ b. cond b None (up_to most (continued m (c ∷ cs)))) (above_none n m h k))
  where
    above_none : (n m : ℕ) → (nat_eq n 0 ≡ true → ⊥) → n ≤ m → nat_eq m 0 ≡ false
    above_none n m h k = grind (arith, nat_tests)
more_by most n m (c ∷ cs) false e h k = past_limit most m (c ∷ cs) (leb-false m most e)

-- a figure behind a number other than 0 makes the number that the figures behind it go on from
pub further-figure : (most n c : ℕ) (cs : List ℕ)
    → further most n (c ∷ cs) ≡ cond (is_figure c && not (nat_eq n 0))
    (cond (nat_le (figured n c) most) (further most (figured n c) cs) None) None
further-figure most n c cs = by_tests (is_figure c) (nat_eq n 0) refl
  where
    at_least : (n c : ℕ) → n ≤ 10 * n + (c - 48)
    at_least n c = omega arith

    by_tests : (f z : Bool) → nat_eq n 0 ≡ z → cond z None
        (up_to most (cond f (continued (figured n c) cs) None)) ≡ cond (f && not z)
        (cond (nat_le (figured n c) most) (further most (figured n c) cs) None) None
    by_tests true true e = refl
    by_tests false true e = refl
    by_tests false false e = refl
    by_tests true false e = more_by most n (figured n c) cs (nat_le (figured n c) most) refl (λ t. absurd (cc (t, e))) (at_least n c)

-- and a first figure makes the number that those behind it go on from
pub first-figure : (most c : ℕ) (cs : List ℕ)
    → number_up_to most (c ∷ cs) ≡ cond (is_figure c)
    (cond (nat_le (figured 0 c) most) (further most (figured 0 c) cs) None) None
first-figure most c [] = by_test (is_figure c)
  where
    by_test : (f : Bool) → up_to most (cond f (continued (figured 0 c) []) None) ≡ cond f
        (cond (nat_le (figured 0 c) most) (further most (figured 0 c) []) None) None
    by_test true = refl
    by_test false = refl
first-figure most c (d ∷ ds) = by_tests (is_figure c) (nat_eq c 48) refl refl
  where
    low : (k : ℕ) → nat_le 0 k ≡ true
    low k = grind (arith, nat_tests)

    none_is : (m : ℕ) → m ≡ 0 → cond (nat_le m most) (further most m (d ∷ ds)) None ≡ None
    none_is m e = ap (λ k. cond (nat_le k most) (further most k (d ∷ ds)) None) e ∙ ap (λ b. cond b (further most 0 (d ∷ ds)) None) (low most)

    zero_of : (c : ℕ) → nat_eq c 48 ≡ true → 10 * 0 + (c - 48) ≡ 0
    zero_of c e = grind (arith, nat_tests)

    some_of : (c : ℕ) → is_figure c ≡ true → nat_eq c 48 ≡ false → nat_eq (10 * 0 + (c - 48)) 0 ≡ false
    some_of c f e = grind (arith, nat_tests)

    limited : (m : ℕ) (l z : Bool) → nat_le m most ≡ l → nat_eq m 0 ≡ z → z ≡ false
        → up_to most (continued m (d ∷ ds)) ≡ cond l (cond z None (up_to most (continued m (d ∷ ds)))) None
    limited m l true e k h = absurd (cc h)
    limited m true false e k h = refl
    limited m false false e k h = past_limit most m (d ∷ ds) (leb-false m most e)

    by_tests : (f z : Bool) → is_figure c ≡ f → nat_eq c 48 ≡ z
        → up_to most (cond (not z) (cond f (continued (figured 0 c) (d ∷ ds)) None) None) ≡ cond f
        (cond (nat_le (figured 0 c) most) (further most (figured 0 c) (d ∷ ds)) None) None
    by_tests false true e h = refl
    by_tests false false e h = refl
    by_tests true true e h = sym (none_is (figured 0 c) (zero_of c h))
    by_tests true false e h = limited (figured 0 c) (nat_le (figured 0 c) most) (nat_eq (figured 0 c) 0) refl refl (some_of c e h)
