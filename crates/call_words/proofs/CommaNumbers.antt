-- No text with a comma is a number: half extents and points, by the commas that are found.
use Rattle.std.proofs.Common.{◌≡◌, inl, inr, ℕ, ◌+◌, ◌-◌, ◌*◌, ℤ, pos, nat_le, Bor, Bool, true, false, List, [], ◌∷◌, ◌++◌, Option, Some, None, cond, ◌==◌, refl, sym, ap, ◌∙◌, append_assoc}
use Rattle.std.proofs.lemmas.Str.Pattern.{IsSplitOnceResult}
use Rattle.std.specs.Option.{option_map, option_and_then}
use Rattle.cyclo_points.specs.declared.point.Point.{Point}
use Rattle.cyclo_points.specs.Text.{point_of_coefficients, point_of_texts}
use Rattle.tile_shape.specs.Decimal.{is_figure, continued, begins_right, number_in, number_up_to}
use Rattle.tile_shape.specs.Signed.{minus_sign, negated}
use Rattle.tile_shape.specs.Text.{comma}
use Rattle.tile_shape.specs.Words.{texts_between}
use Rattle.call_words.specs.declared.window_words.HalfExtents.{HalfExtents}
use Rattle.call_words.specs.WindowWords.{most_coefficient, most_extent, coefficient_in, extent_in, extents_of_pieces}
use Rattle.call_words.proofs.Commas.{NoComma, found_some, pieces_at, pieces_last, HasComma, comma_or_none, first_piece}

-- ---- no text with a comma is a number
continued-none : (n : ℕ) (xs ys : List ℕ) → continued n (xs ++ comma ∷ ys) ≡ None
continued-none n [] ys = refl
continued-none n (x ∷ xs) ys = at_test (is_figure x) refl (continued-none (10 * n + (x - 48)) xs ys)
  where
    at_test : (b : Bool) → is_figure x ≡ b → continued (10 * n + (x - 48)) (xs ++ comma ∷ ys) ≡ None → continued n (x ∷ (xs ++ comma ∷ ys)) ≡ None
    at_test true e f = ap (λ b. cond b (continued (10 * n + (x - 48)) (xs ++ comma ∷ ys)) None) e ∙ f
    at_test false e f = ap (λ b. cond b (continued (10 * n + (x - 48)) (xs ++ comma ∷ ys)) None) e

number-none : (xs ys : List ℕ) → number_in (xs ++ comma ∷ ys) ≡ None
number-none xs ys = at_test (begins_right (xs ++ comma ∷ ys)) refl
  where
    at_test : (b : Bool) → begins_right (xs ++ comma ∷ ys) ≡ b → number_in (xs ++ comma ∷ ys) ≡ None
    at_test true e = ap (λ b. cond b (continued 0 (xs ++ comma ∷ ys)) None) e ∙ continued-none 0 xs ys
    at_test false e = ap (λ b. cond b (continued 0 (xs ++ comma ∷ ys)) None) e

up_to-none : (most : ℕ) (xs ys : List ℕ) → number_up_to most (xs ++ comma ∷ ys) ≡ None
up_to-none most xs ys = ap (option_and_then (λ n. cond (nat_le n most) (Some n) None)) (number-none xs ys)

pub extent-none : (text : List ℕ) → HasComma text → extent_in text ≡ None
extent-none text h =
    ap extent_in h.split ∙ ap (option_and_then (λ n. cond (nat_le 1 n) (Some n) None)) (up_to-none most_extent h.before h.behind)

coefficient-of : (xs ys : List ℕ) → coefficient_in (xs ++ comma ∷ ys) ≡ None
coefficient-of [] ys = ap (option_map pos) (up_to-none most_coefficient [] ys)
coefficient-of (x ∷ xs) ys = at_test (x == minus_sign) refl
  where
    at_test : (b : Bool) → (x == minus_sign) ≡ b → coefficient_in (x ∷ (xs ++ comma ∷ ys)) ≡ None
    at_test true e =
        ap (λ b. cond b (option_and_then negated (number_up_to most_coefficient (xs ++ comma ∷ ys)))
        (option_map pos (number_up_to most_coefficient (x ∷ (xs ++ comma ∷ ys))))) e
        ∙ ap (option_and_then negated) (up_to-none most_coefficient xs ys)
    at_test false e =
        ap (λ b. cond b (option_and_then negated (number_up_to most_coefficient (xs ++ comma ∷ ys)))
        (option_map pos (number_up_to most_coefficient (x ∷ (xs ++ comma ∷ ys))))) e
        ∙ ap (option_map pos) (up_to-none most_coefficient (x ∷ xs) ys)

pub coefficient-none : (text : List ℕ) → HasComma text → coefficient_in text ≡ None
coefficient-none text h = ap coefficient_in h.split ∙ coefficient-of h.before h.behind

-- ---- half extents, and points, by the commas that are found one after the other
abbrev pub extents : List ℕ → List ℕ → Option HalfExtents
extents a b = option_and_then (λ w. option_map (λ h. record { w = w; h = h }) (extent_in b)) (extent_in a)

and_then-none : {A B : Type 0} (o : Option A) → option_and_then (λ x. (let r : Option B = None in r)) o ≡ None
and_then-none None = refl
and_then-none (Some x) = refl

pub half_one : (text : List ℕ) → NoComma text → extents_of_pieces (texts_between comma text) ≡ None
half_one text none = ap extents_of_pieces (pieces_last text none)

pub half_two : (text a b : List ℕ) → text ≡ a ++ comma ∷ b → NoComma a → extents_of_pieces (texts_between comma text) ≡ extents a b
half_two text a b e none = ap (λ xs. extents_of_pieces (texts_between comma xs)) e
    ∙ ap extents_of_pieces (pieces_at a b none) ∙ elim (comma_or_none b) [
      | inr last ↦ ap (λ ps. extents_of_pieces (a ∷ ps)) (pieces_last b last)
      | inl more ↦ too_many more
    ]
  where
    too_many : HasComma b → extents_of_pieces (a ∷ texts_between comma b) ≡ extents a b
    too_many h =
        let f = first_piece h.behind in
        ap (λ xs. extents_of_pieces (a ∷ texts_between comma xs)) h.split ∙ ap (λ ps. extents_of_pieces (a ∷ ps)) (pieces_at h.before h.behind h.none)
        ∙ ap (λ ps. extents_of_pieces (a ∷ (h.before ∷ ps))) f.2
        ∙ sym (ap (λ o. option_and_then (λ w. option_map
        (λ n. (let x : HalfExtents = record { w = w; h = n } in x)) o) (extent_in a)) (extent-none b h)
        ∙ and_then-none (extent_in a))

abbrev pub point_of : List ℕ → List ℕ → List ℕ → List ℕ → Option Point
point_of a b c d = point_of_texts coefficient_in (a ∷ b ∷ c ∷ d ∷ [])

pub at_one : (text : List ℕ) → NoComma text → point_of_texts coefficient_in (texts_between comma text) ≡ None
at_one text none = ap (point_of_texts coefficient_in) (pieces_last text none)

-- the first piece, and the others
at_next : (front : List (List ℕ)) (text a rest : List ℕ) → text ≡ a ++ comma ∷ rest → NoComma a
    → point_of_texts coefficient_in (front ++ texts_between comma text) ≡ point_of_texts coefficient_in
    ((front ++ a ∷ []) ++ texts_between comma rest)
at_next front text a rest e none =
    ap (λ xs. point_of_texts coefficient_in (front ++ texts_between comma xs)) e
    ∙ ap (λ ps. point_of_texts coefficient_in (front ++ ps)) (pieces_at a rest none)
    ∙ ap (point_of_texts coefficient_in) (sym (append_assoc front (a ∷ []) (texts_between comma rest)))

pub at_found : (front : List (List ℕ)) (text : List ℕ) (r : Option (Bor (List ℕ) × Bor (List ℕ)))
    (x : Bor (List ℕ) × Bor (List ℕ)) → IsSplitOnceResult comma text r → r ≡ Some x
    → point_of_texts coefficient_in (front ++ texts_between comma text) ≡ point_of_texts coefficient_in
    ((front ++ x.0.now ∷ []) ++ texts_between comma x.1.now)
at_found front text r x h e = let p = found_some text r x h e in at_next front text x.0.now x.1.now p.0 p.1

pub at_two : (a text : List ℕ) → NoComma text → point_of_texts coefficient_in (a ∷ texts_between comma text) ≡ None
at_two a text none = ap (λ ps. point_of_texts coefficient_in (a ∷ ps)) (pieces_last text none)

pub at_three : (a b text : List ℕ) → NoComma text → point_of_texts coefficient_in (a ∷ (b ∷ texts_between comma text)) ≡ None
at_three a b text none = ap (λ ps. point_of_texts coefficient_in (a ∷ (b ∷ ps))) (pieces_last text none)

-- the last piece, which is no number where it has a comma
pub at_four : (a b c d : List ℕ) → point_of_texts coefficient_in (a ∷ (b ∷ (c ∷ texts_between comma d))) ≡ point_of a b c d
at_four a b c d = elim (comma_or_none d) [
  | inr last ↦ ap (λ ps. point_of_texts coefficient_in (a ∷ (b ∷ (c ∷ ps)))) (pieces_last d last)
  | inl more ↦ too_many more
]
  where
    -- there is no point without its last coefficient
    no_fourth : (x y z : Option ℤ) → point_of_coefficients x y z None ≡ None
    no_fourth None y z = refl
    no_fourth (Some a0) None z = refl
    no_fourth (Some a0) (Some a1) None = refl
    no_fourth (Some a0) (Some a1) (Some a2) = refl

    too_many : HasComma d → point_of_texts coefficient_in (a ∷ (b ∷ (c ∷ texts_between comma d))) ≡ point_of a b c d
    too_many h =
        let f = first_piece h.behind in
        ap (λ xs. point_of_texts coefficient_in (a ∷ (b ∷ (c ∷ texts_between comma xs)))) h.split
        ∙ ap (λ ps. point_of_texts coefficient_in (a ∷ (b ∷ (c ∷ ps))))
        (pieces_at h.before h.behind h.none)
        ∙ ap (λ ps. point_of_texts coefficient_in (a ∷ (b ∷ (c ∷ (h.before ∷ ps))))) f.2
        ∙ sym (ap (point_of_coefficients (coefficient_in a) (coefficient_in b) (coefficient_in c)) (coefficient-none d h)
        ∙ no_fourth (coefficient_in a) (coefficient_in b) (coefficient_in c))
