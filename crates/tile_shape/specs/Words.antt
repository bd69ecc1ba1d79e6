-- A text in parts, each read by its form: the words of a line, or the numbers between marks.
use Rattle.std.specs.Prelude.{ℕ, List, [], ◌∷◌, ◌==◌, Option, Some, None, option_map, Result}
use Rattle.std.specs.List.{slice_split}
use Rattle.std.specs.Option.{ok_or}

-- the parts of a text between marks; a text without a mark is one part
abbrev pub texts_between : ℕ → List ℕ → List (List ℕ)
texts_between mark text = slice_split (λ byte. byte == mark) text

-- the first of some texts by its form, and the texts after it
abbrev pub first_by : {A : Type 0} → (List ℕ → Option A) → List (List ℕ) → Option (A × List (List ℕ))
first_by form [] = None
first_by form (text ∷ texts) = option_map (λ x. (x, texts)) (form text)

-- the same of words, of which the first has this place
abbrev pub word_by : {A : Type 0} → (List ℕ → Option A) → ℕ → List (List ℕ) → Result (A × List (List ℕ)) ℕ
word_by form place words = ok_or (first_by form words) place

-- a text that is not empty
abbrev pub some_text : List ℕ → Option (List ℕ)
some_text [] = None
some_text (byte ∷ bytes) = Some (byte ∷ bytes)
