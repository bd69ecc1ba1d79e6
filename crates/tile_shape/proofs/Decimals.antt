-- Figures that follow make a number no smaller.
use Rattle.std.proofs.Common.{◌≡◌, ◌∙◌, ℕ, ◌+◌, ◌-◌, ◌*◌, ◌<◌, ◌≤◌, Bool, true, false, cond, List, [], ◌∷◌, Option, Some, None, get_or, drop, length, nat_le, refl, ap, arith}
use Rattle.std.proofs.lemmas.Bool.Decides.{nat_tests}
use Rattle.std.proofs.lemmas.List.{at_drop_more}
use Rattle.std.specs.Option.{option_and_then}
use Rattle.tile_shape.specs.Decimal.{is_figure, begins_right, continued, number_up_to}

no_smaller : (n m : ℕ) (cs : List ℕ) → continued n cs ≡ Some m → n ≤ m
no_smaller n m [] e = let f : n ≡ m = cc in omega arith
no_smaller n m (c ∷ cs) e = at_test (is_figure c) e (no_smaller (10 * n + (c - 48)) m cs)
  where
    at_test : (b : Bool) → cond b (continued (10 * n + (c - 48)) cs) None ≡ Some m
        → (continued (10 * n + (c - 48)) cs ≡ Some m → 10 * n + (c - 48) ≤ m) → n ≤ m
    at_test true f rest = let g = rest f in omega arith
    at_test false f rest = absurd (cc f)

above_limit : (most n m : ℕ) → most < n → n ≤ m → nat_le m most ≡ false
above_limit most n m l h = grind (arith, nat_tests)

-- past the limit it stays past it
pub past_limit : (most n : ℕ) (cs : List ℕ) → most < n → option_and_then (λ k. cond (nat_le k most) (Some k) None) (continued n cs) ≡ None
past_limit most n cs l = at_value (continued n cs) refl
  where
    at_value : (o : Option ℕ) → continued n cs ≡ o → option_and_then (λ k. cond (nat_le k most) (Some k) None) o ≡ None
    at_value None e = refl
    at_value (Some m) e = ap (λ b. cond b (Some m) None) (above_limit most n m l (no_smaller n m cs e))

-- a text whose first figures make a number past the limit has none up to it
pub number_up_to-none : (most n : ℕ) (text rest : List ℕ) → begins_right text ≡ true
    → continued 0 text ≡ continued n rest → most < n → number_up_to most text ≡ None
number_up_to-none most n text rest b e l =
    ap (λ v. option_and_then (λ k. cond (nat_le k most) (Some k) None) (cond v (continued 0 text) None)) b
    ∙ ap (option_and_then (λ k. cond (nat_le k most) (Some k) None)) e
    ∙ past_limit most n rest l

-- one figure further on
pub continued-drop : (text : List ℕ) (i n : ℕ) → i < length text → is_figure (get_or text i 0) ≡ true
    → continued n (drop i text) ≡ continued (10 * n + (get_or text i 0 - 48)) (drop (i + 1) text)
continued-drop text i n h f =
    at_drop_more (continued n) text i 0 h
    ∙ ap (λ b. cond b (continued (10 * n + (get_or text i 0 - 48)) (drop (i + 1) text)) None) f
