-- The lines of a text, counted and cut one by one.
use Rattle.std.proofs.Common.{◌≡◌, ℕ, ◌<◌, Bool, true, false, cond, List, [], ◌∷◌, length, nat_eq, refl, sym, ap, ap₂, ◌∙◌, arith}
use Rattle.std.proofs.lemmas.List.Splits.{join_with_byte-slice_split}
use Rattle.std.specs.List.{onto_first, join_with_byte}
use Rattle.cyclo_points.specs.Text.{newline}
use Rattle.tile_shape.specs.Words.{texts_between}
use Rattle.listing_text.specs.Lines.{lines_in}
use Rattle.listing_text.proofs.NumberOn.{some_first}

-- one text has these parts
same_text : (xs ys : List ℕ) → texts_between newline xs ≡ texts_between newline ys → xs ≡ ys
same_text xs ys e = sym (join_with_byte-slice_split newline xs) ∙ ap (join_with_byte newline) e ∙ join_with_byte-slice_split newline ys

-- what stands before the first newline is a line, and those behind it are the others
pub line_cut : (text line behind : List ℕ) → texts_between newline text ≡ line ∷ texts_between newline behind → lines_in text ≡ line ∷ lines_in behind
line_cut [] line behind e = let s = some_first newline behind in absurd (cc (e, s.2))
line_cut (b ∷ bs) line behind e = at_test (nat_eq b newline) (line_cut bs) (some_first newline bs) e
  where
    at_test : (t : Bool) → ((v next : List ℕ) → texts_between newline bs ≡ v ∷ texts_between newline next → lines_in bs ≡ v ∷ lines_in next)
        → ((w : List ℕ) × (ws : List (List ℕ)) × (texts_between newline bs ≡ w ∷ ws))
        → cond t ([] ∷ texts_between newline bs) (onto_first b (texts_between newline bs)) ≡ line ∷ texts_between newline behind
        → cond t ([] ∷ lines_in bs) (onto_first b (lines_in bs)) ≡ line ∷ lines_in behind
    at_test true IH s e =
        let same : texts_between newline bs ≡ texts_between newline behind = cc in
        let first : [] ≡ line = cc in
        ap₂ (λ l t. l ∷ lines_in t) first (same_text bs behind same)
    at_test false IH (w, ws, s) e =
        let parted : (b ∷ w) ∷ ws ≡ line ∷ texts_between newline behind = sym (ap (onto_first b) s) ∙ e in
        let others : ws ≡ texts_between newline behind = cc in
        let first : b ∷ w ≡ line = cc in
        ap (onto_first b) (IH w behind (s ∙ ap (λ v. w ∷ v) others)) ∙ ap (λ l. l ∷ lines_in behind) first

-- a text without a newline is one line, if it isn't empty
pub last_cut : (text : List ℕ) → 0 < length text → texts_between newline text ≡ text ∷ [] → lines_in text ≡ text ∷ []
last_cut [] h e = absurd (omega (arith, h))
last_cut (b ∷ bs) h e = at_test (nat_eq b newline) (one_line bs (last_cut bs)) (some_first newline bs) e
  where
    at_test : (t : Bool) → (texts_between newline bs ≡ bs ∷ [] → onto_first b (lines_in bs) ≡ (b ∷ bs) ∷ [])
        → ((w : List ℕ) × (ws : List (List ℕ)) × (texts_between newline bs ≡ w ∷ ws))
        → cond t ([] ∷ texts_between newline bs) (onto_first b (texts_between newline bs)) ≡ (b ∷ bs) ∷ []
        → cond t ([] ∷ lines_in bs) (onto_first b (lines_in bs)) ≡ (b ∷ bs) ∷ []
    at_test true one s e = absurd (cc e)
    at_test false one (w, ws, s) e =
        let parted : (b ∷ w) ∷ ws ≡ (b ∷ bs) ∷ [] = sym (ap (onto_first b) s) ∙ e in
        let first : w ≡ bs = cc in
        let others : ws ≡ [] = cc in
        one (s ∙ ap₂ (λ v vs. v ∷ vs) first others)

    one_line : (xs : List ℕ) → (0 < length xs → texts_between newline xs ≡ xs ∷ [] → lines_in xs ≡ xs ∷ [])
        → texts_between newline xs ≡ xs ∷ [] → onto_first b (lines_in xs) ≡ (b ∷ xs) ∷ []
    one_line [] IH e = refl
    one_line (x ∷ xs) IH e = ap (onto_first b) (IH (omega arith) e)
