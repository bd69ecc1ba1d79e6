-- Places in rows: row after row in one list.
use Rattle.std.proofs.Common.{◌≡◌, ℕ, zero, suc, ◌+◌, ◌*◌, ◌/◌, ◌%◌, ◌<◌, ◌≤◌, List, [], ◌∷◌, length, get_or, map, refl, sym, ap, ◌∙◌, arith}
use Rattle.std.proofs.lemmas.Nat.{div-mul-add, mod-mul-add}
use Rattle.std.proofs.Math.Nat.{suc-mul, mul-le-mul_right}

-- the place of row a and column b
pub in-row : (w a b h : ℕ) → a < h → b < w → a * w + b < h * w
in-row w a b h l m =
    let k : suc a * w ≤ h * w = mul-le-mul_right w (omega (arith, l)) in
    let n : suc a * w ≡ a * w + w = suc-mul a w in
    omega (arith, m, k, n)

-- one place, so one row and one column
pub same-row : (w a b c d : ℕ) → b < w → d < w → a * w + b ≡ c * w + d → a ≡ c
same-row w a b c d f g e = sym (div-mul-add a w b f) ∙ ap (λ i. i / w) e ∙ div-mul-add c w d g

pub same-column : (w a b c d : ℕ) → b < w → d < w → a * w + b ≡ c * w + d → b ≡ d
same-column w a b c d f g e = sym (mod-mul-add a w b f) ∙ ap (λ i. i % w) e ∙ mod-mul-add c w d g

pub get_or-map : {A B : Type 0} (f : A → B) (xs : List A) (i : ℕ) (d : A) (e : B) → i < length xs → get_or (map f xs) i e ≡ f (get_or xs i d)
get_or-map f [] i d e h = absurd (omega (arith, h))
get_or-map f (x ∷ xs) zero d e h = refl
get_or-map f (x ∷ xs) (suc i) d e h = get_or-map f xs i d e (omega (arith, h))
