-- How long the values of a rule are printed.
use Rattle.std.proofs.Common.{◌≡◌, ℕ, suc, ◌+◌, ◌*◌, ◌≤◌, ℤ, pos, Bool, true, false, List, [], ◌∷◌, ◌++◌, All, length, map, codes, refl, ap, subst, length-append, suc-mul, mul-le-mul_right, arith}
use Rattle.std.proofs.lemmas.Fmt.{length_signed_le}
use Rattle.toml.specs.Data.{Data, integer, Items, no_items, item}
use Rattle.toml.specs.Text.{IsValueText, IsItemsText, before_item, breaks_lines}
use Rattle.toml.specs.View.{items_of}
use Rattle.theory_substitution.specs.Rule.{Child}
use Rattle.cyclo_points.specs.declared.point.Point.{Point}
use Rattle.rule_text.specs.Written.{IsFour, number_data, list_data, point_data, child_data}

-- each text of the value has at most n bytes
abbrev pub IsShort : ℕ → Data → Type 0
IsShort n d = (text : List ℕ) → IsValueText false d text → length text ≤ n

pub integer-short : (z : ℤ) → IsShort 20 (integer z)
integer-short z text h = omega (arith, ap length h.0, length_signed_le 19 z (omega (arith, h.1)) (omega (arith, h.1)))

before-short : (is_first : Bool) → length (before_item false is_first) ≤ 2
before-short true = omega arith
before-short false = omega arith

-- so many bytes for each item, two before it, and one at the end
items-short : {A : Type 0} (n : ℕ) (f : A → Data) (xs : List A) → All (λ x. IsShort n (f x)) xs → (is_first : Bool) (text : List ℕ)
    → IsItemsText false false is_first (items_of (map f xs)) text → length text ≤ length xs * (n + 2) + 1
items-short n f [] all is_first text h = omega (arith, ap length h)
items-short n f (x ∷ xs) all is_first text (this, rest, e, value, more) =
    omega (
      arith,
      ap length e,
      length-append (before_item false is_first) (this ++ rest),
      length-append this rest,
      before-short is_first,
      all 0 x (omega arith) this value,
      items-short n f xs (λ k d lt. all (suc k) d (omega (arith, lt))) false rest more,
      suc-mul (length xs) (n + 2),
    )

-- an array of the form with no line for each element stands on one line
on_one_line : (ds : Items) → breaks_lines false ds ≡ false
on_one_line no_items = refl
on_one_line (item d no_items) = refl
on_one_line (item d (item e ds)) = refl

pub list-short : {A : Type 0} (n most : ℕ) (f : A → Data) (xs : List A) → length xs ≤ most
    → All (λ x. IsShort n (f x)) xs → IsShort (most * (n + 2) + 2) (list_data f xs)
list-short n most f xs few all text (rest, e, items) =
    let ds = items_of (map f xs) in
    let on_a_line : IsItemsText false false true ds rest = subst (λ lines. IsItemsText false lines true ds rest) (on_one_line ds) items in
    omega (arith, ap length e, length-append (codes "[") rest, items-short n f xs all true rest on_a_line, mul-le-mul_right (n + 2) few)

pub numbers-short : (ns : List ℕ) → length ns ≤ 16 → IsShort 354 (list_data number_data ns)
numbers-short ns few = list-short 20 16 number_data ns few (λ k d lt. integer-short _)

pub point-short : (p : Point) → IsFour p → IsShort 90 (point_data p)
point-short p four = list-short 20 4 integer p.c (omega (arith, four)) (λ k d lt. integer-short _)

child-short : (c : Child Point) → IsFour c.motion.shift → IsShort 134 (child_data c)
child-short c four = list-short 20 6 integer (pos c.kind ∷ pos c.motion.turn ∷ c.motion.shift.c) (omega (arith, four)) (λ k d lt. integer-short _)

pub points-short : (ps : List Point) → length ps ≤ 16 → All IsFour ps → IsShort 1474 (list_data point_data ps)
points-short ps few fours = list-short 90 16 point_data ps few (λ k d lt. point-short _ (fours k d lt))

pub children-short : (cs : List (Child Point)) → length cs ≤ 16 → All (λ c. IsFour c.motion.shift) cs → IsShort 2178 (list_data child_data cs)
children-short cs few fours = list-short 134 16 child_data cs few (λ k d lt. child-short _ (fours k d lt))
