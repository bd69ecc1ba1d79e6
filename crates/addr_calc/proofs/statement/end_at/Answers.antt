use Rattle.std.proofs.Common.{◌≡◌, ℕ, Bool, true, false, cond, List, [], ◌∷◌, Err, option_map, refl, ap, ◌∙◌}
use Rattle.std.specs.List.{slice_split, onto_first}
use Rattle.cyclo_points.specs.Text.{blank}
use Rattle.addr_calc.specs.Reading.{no_word}
use Rattle.addr_calc.specs.Statement.{Statement}
use Rattle.addr_calc.specs.Views.{words_left}
use Rattle.addr_calc.proofs.statement.end_at.Goals as goal

-- a text has a first part, so a word is left, which is one too many
abbrev TooMany : List (List ℕ) → Type 0
TooMany words = (s : Statement) (place : ℕ) → no_word s place words ≡ Err place

more : (x : ℕ) (words : List (List ℕ)) → TooMany (onto_first x words)
more x [] = λ s place. refl
more x (word ∷ words) = λ s place. refl

part_by : (b : Bool) (x : ℕ) (words : List (List ℕ)) → TooMany (cond b ([] ∷ words) (onto_first x words))
part_by true x words = λ s place. refl
part_by false x words = more x words

left : (p : ℕ → Bool) (text : List ℕ) → TooMany (slice_split p text)
left p [] = λ s place. refl
left p (x ∷ xs) = part_by (p x) x (slice_split p xs)

pub returns-in-Some : goal.returns-in-Some
returns-in-Some c = λ s. ap (λ words. no_word s c.args.place (words_left words)) c.in-Some.is
    ∙ left (λ byte. Rattle.std.proofs.Common.nat_eq byte blank) c.in-Some.field-0.now s c.args.place
