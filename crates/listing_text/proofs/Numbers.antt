-- Numbers that are written are read back: decimal ones, signed ones, and shifts.
use Rattle.std.proofs.Common.{◌≡◌, ℕ, zero, suc, ℤ, pos, negsuc, ◌+◌, ◌-◌, ◌*◌, ◌/◌, ◌%◌, ◌<◌, ◌≤◌, ◌^◌, Bool, true, false, cond, not, ◌&&◌, List, [], ◌∷◌, ◌++◌, Option, Some, None, option_map, nat_le, nat_eq, refl, ap, sym, subst, ◌∙◌, arith}
use Rattle.std.proofs.lemmas.Bool.{le-leb}
use Rattle.std.proofs.lemmas.Bool.Decides.{nat_tests}
use Rattle.std.proofs.lemmas.Fmt.{decimal_by_steps}
use Rattle.std.specs.Fmt.{decimal, signed_decimal}
use Rattle.std.specs.Option.{option_and_then}
use Rattle.tile_shape.specs.Decimal.{is_figure, continued, begins_right, number_in, number_up_to}
use Rattle.tile_shape.specs.Signed.{signed_up_to, negated, minus_sign}

-- the first figure isn't `0`
abbrev starts : List ℕ → Bool
starts [] = false
starts (b ∷ bs) = not (nat_eq b 48)

-- figures that are the number m
record AreFiguresOf (m : ℕ) (ds : List ℕ) : Type 0 where
  pub value : continued 0 ds ≡ Some m
  pub begin : begins_right ds ≡ true
  pub start : 0 < m → starts ds ≡ true

continued-append : (n k c : ℕ) (ds : List ℕ) → continued n ds ≡ Some k → continued n (ds ++ c ∷ []) ≡ continued k (c ∷ [])
continued-append n k c [] h = let e : n ≡ k = cc h in ap (λ m. continued m (c ∷ [])) e
continued-append n k c (d ∷ ds) h = at_test (is_figure d) (continued-append (10 * n + (d - 48)) k c ds) h
  where
    at_test : (f : Bool) → (continued (10 * n + (d - 48)) ds ≡ Some k → continued (10 * n + (d - 48)) (ds ++ c ∷ []) ≡ continued k (c ∷ []))
        → cond f (continued (10 * n + (d - 48)) ds) None ≡ Some k → cond f (continued (10 * n + (d - 48)) (ds ++ c ∷ [])) None ≡ continued k (c ∷ [])
    at_test true behind h = behind h
    at_test false behind h = absurd (cc h)

figure : (k : ℕ) → k < 10 → is_figure (48 + k) ≡ true
figure k h = grind (arith, nat_tests)

last_figure : (n k : ℕ) → k < 10 → continued n ((48 + k) ∷ []) ≡ Some (10 * n + k)
last_figure n k h = ap (λ f. cond f (Some (10 * n + ((48 + k) - 48))) None) (figure k h) ∙ ap (λ m. Some (10 * n + m)) (omega arith)

starts-append : (c : ℕ) (ds : List ℕ) → starts ds ≡ true → (begins_right (ds ++ c ∷ []) ≡ true) × (starts (ds ++ c ∷ []) ≡ true)
starts-append c [] h = absurd (cc h)
starts-append c (b ∷ []) h = (h, h)
starts-append c (b ∷ d ∷ ds) h = (h, h)

one_figure : (m : ℕ) → m < 10 → AreFiguresOf m ((48 + m) ∷ [])
one_figure m l = record {
  value = last_figure 0 m l ∙ ap Some (omega arith);
  begin = refl;
  start = λ h. grind (arith, nat_tests);
}

more_figures : (m : ℕ) (ds : List ℕ) → 10 ≤ m → AreFiguresOf (m / 10) ds → AreFiguresOf m (ds ++ (48 + m % 10) ∷ [])
more_figures m ds l h =
    let some : 0 < m / 10 = omega (arith, l) in
    let both = starts-append (48 + m % 10) ds (h.start some) in
    record {
      value = continued-append 0 (m / 10) (48 + m % 10) ds h.value ∙ last_figure (m / 10) (m % 10) (omega arith) ∙ ap Some (omega arith);
      begin = both.0;
      start = λ p. both.1;
    }

figures : (n : ℕ) → n < 2 ^ 64 → AreFiguresOf n (decimal n)
figures n h = decimal_by_steps AreFiguresOf one_figure more_figures n h

-- a decimal number is read back, where it isn't above the limit
pub number_back : (most n : ℕ) → n ≤ most → n < 2 ^ 64 → number_up_to most (decimal n) ≡ Some n
number_back most n l h =
    let f = figures n h in
    ap (λ b. option_and_then (λ m. cond (nat_le m most) (Some m) None) (cond b (continued 0 (decimal n)) None)) f.begin
    ∙ ap (option_and_then (λ m. cond (nat_le m most) (Some m) None)) f.value
    ∙ ap (λ b. cond b (Some n) None) (le-leb n most l)

-- a number that is read has no sign before it
unsigned : (most n : ℕ) (ds : List ℕ) → number_up_to most ds ≡ Some n → signed_up_to most ds ≡ Some (pos n)
unsigned most n [] h = absurd (cc h)
unsigned most n (b ∷ bs) h = at_test (nat_eq b minus_sign) refl
  where
    none : (r : Bool) (f : Bool) → f ≡ false → option_and_then (λ m. cond (nat_le m most) (Some m) None)
        (cond r (cond f (continued (10 * 0 + (b - 48)) bs) None) None) ≡ None
    none true false e = refl
    none false false e = refl
    none r true e = absurd (cc e)

    no_figure : (b : ℕ) → nat_eq b minus_sign ≡ true → is_figure b ≡ false
    no_figure b e = grind (arith, nat_tests)

    at_test : (t : Bool) → nat_eq b minus_sign ≡ t
        → cond t (option_and_then negated (number_up_to most bs))
        (option_map pos (number_up_to most (b ∷ bs))) ≡ Some (pos n)
    at_test true e = absurd (cc (h, none (begins_right (b ∷ bs)) (is_figure b) (no_figure b e)))
    at_test false e = ap (option_map pos) h

-- the absolute value
abbrev pub size : ℤ → ℕ
size (pos n) = n
size (negsuc n) = suc n

-- a signed number is read back, where it isn't above the limit
pub signed_back : (most : ℕ) (z : ℤ) → size z ≤ most → size z < 2 ^ 64 → signed_up_to most (signed_decimal z) ≡ Some z
signed_back most (pos n) l h = unsigned most n (decimal n) (number_back most n l h)
signed_back most (negsuc n) l h = ap (option_and_then negated) (number_back most (suc n) l h)
