-- A digit of two figures with a comma behind it.
use Rattle.std.proofs.Common.{◌≡◌, ℕ, ◌-◌, ◌<◌, Bool, true, false, cond, List, [], ◌∷◌, length, drop, get_or, nat_eq, Ok, Err, refl, ap, ◌∙◌, arith}
use Rattle.std.proofs.lemmas.Bool.{eqb-true}
use Rattle.tile_shape.specs.Decimal.{is_figure}
use Rattle.tile_shape.specs.Parse.{after_mark, digit_at, number_at, number_from, figure_taken}
use Rattle.tile_shape.specs.Text.{comma, slash}

zero_is : (c : ℕ) (rest : List ℕ) → nat_eq c 48 ≡ true → ◌≡◌ {A = ℕ × List ℕ} (0, rest) (c - 48, rest)
zero_is c rest e = ap (λ n. pair n) (zero_of c (eqb-true c 48 e))
  where
    pair : ℕ → ℕ × List ℕ
    pair n = (n, rest)

    zero_of : (c : ℕ) → c ≡ 48 → 0 ≡ c - 48
    zero_of c e = omega arith

by_zero : (c : ℕ) (rest : List ℕ) (z : Bool) → nat_eq c 48 ≡ z → ◌≡◌ {A = ℕ × List ℕ} (cond z (0, rest) (c - 48, rest)) (c - 48, rest)
by_zero c rest true e = zero_is c rest e
by_zero c rest false e = refl

-- a figure before a slash or a comma is a number
before_slash : (c : ℕ) (bs : List ℕ) → is_figure c ≡ true → number_at (c ∷ slash ∷ bs) ≡ Ok (c - 48, slash ∷ bs)
unfolding number_at number_from figure_taken
before_slash c bs f =
    ap (λ b. cond b (Ok (number_from c (slash ∷ bs))) (Err (length (c ∷ slash ∷ bs)))) f
    ∙ ap (λ n. Ok n) (by_zero c (slash ∷ bs) (nat_eq c 48) refl)

before_comma : (c : ℕ) (bs : List ℕ) → is_figure c ≡ true → number_at (c ∷ comma ∷ bs) ≡ Ok (c - 48, comma ∷ bs)
unfolding number_at number_from figure_taken
before_comma c bs f =
    ap (λ b. cond b (Ok (number_from c (comma ∷ bs))) (Err (length (c ∷ comma ∷ bs)))) f
    ∙ ap (λ n. Ok n) (by_zero c (comma ∷ bs) (nat_eq c 48) refl)

behind_slash : (bs : List ℕ) → after_mark slash (slash ∷ bs) ≡ Ok bs
unfolding after_mark
behind_slash bs = refl

small_read : (c p : ℕ) (bs : List ℕ) → is_figure c ≡ true → is_figure p ≡ true
    → digit_at (c ∷ slash ∷ p ∷ comma ∷ bs) ≡ Ok (record { child = c - 48; parent = p - 48 }, comma ∷ bs)
unfolding digit_at
small_read c p bs f g = rw (before_slash c (p ∷ comma ∷ bs) f, behind_slash (p ∷ comma ∷ bs), before_comma p bs g) refl

-- the same of a text whose first bytes are these
pub small_read_at : (text : List ℕ) → 3 < length text → is_figure (get_or text 0 0) ≡ true
    → get_or text 1 0 ≡ slash → is_figure (get_or text 2 0) ≡ true → get_or text 3 0 ≡ comma
    → digit_at text ≡ Ok (record { child = get_or text 0 0 - 48; parent = get_or text 2 0 - 48 }, comma ∷ drop 4 text)
small_read_at [] h f s g m = absurd (omega (arith, h))
small_read_at (c ∷ []) h f s g m = absurd (omega (arith, h))
small_read_at (c ∷ a ∷ []) h f s g m = absurd (omega (arith, h))
small_read_at (c ∷ a ∷ p ∷ []) h f s g m = absurd (omega (arith, h))
small_read_at (c ∷ a ∷ p ∷ b ∷ bs) h f s g m =
    ap (λ x. digit_at (c ∷ x ∷ p ∷ b ∷ bs)) s
    ∙ ap (λ y. digit_at (c ∷ slash ∷ p ∷ y ∷ bs)) m
    ∙ small_read c p bs f g

pub behind_comma : (bs : List ℕ) → after_mark comma (comma ∷ bs) ≡ Ok bs
unfolding after_mark
behind_comma bs = refl
