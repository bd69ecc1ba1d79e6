-- The text of an address has no blank, so it is one word.
use Rattle.std.proofs.Common.{◌≡◌, ℕ, ◌+◌, ◌<◌, ◌%◌, false, List, [], ◌∷◌, ◌++◌, nat_eq, Some, refl, arith}
use Rattle.std.proofs.lemmas.Bool.Decides.{nat_tests}
use Rattle.std.proofs.lemmas.Fmt.{decimal_by_steps}
use Rattle.std.proofs.lemmas.List.Elements.{All-nil, All-cons, All-push, All-append}
use Rattle.std.proofs.lemmas.List.Splits.{slice_split_none}
use Rattle.std.specs.Fmt.{decimal}
use Rattle.std.specs.List.{All, AllByRecursion}
use Rattle.theory_addresses.specs.Address.{Address, Step}
use Rattle.cyclo_points.specs.Text.{blank}
use Rattle.tile_shape.specs.Text.{colon, comma, slash, digit_text, digits_text, address_text, IsShort, HasShortNumbers}
use Rattle.tile_shape.specs.Words.{some_text, texts_between}

-- the byte isn't a blank
abbrev IsInWord : ℕ → Type 0
IsInWord byte = nat_eq byte blank ≡ false

figure_in_word : (n : ℕ) → IsInWord (48 + n)
figure_in_word n = grind (arith, nat_tests)

number_in_word : (n : ℕ) → n < 1000 → All IsInWord (decimal n)
number_in_word n h =
    decimal_by_steps (λ m ds. All IsInWord ds)
    (λ m l. All-cons IsInWord (48 + m) [] (figure_in_word m) (All-nil IsInWord))
    (λ m ds l p. All-push IsInWord ds (48 + m % 10) p (figure_in_word (m % 10)))
    n (omega (arith, h))

digit_in_word : (d : Step) → IsShort d → All IsInWord (digit_text d)
digit_in_word d h =
    All-append IsInWord (decimal d.child) (slash ∷ decimal d.parent) (number_in_word d.child h.child)
    (All-cons IsInWord slash (decimal d.parent) refl (number_in_word d.parent h.parent))

digits_in_word : (ds : List Step) → AllByRecursion IsShort ds → All IsInWord (digits_text ds)
digits_in_word [] h = All-nil IsInWord
digits_in_word (d ∷ []) h = digit_in_word d h.0
digits_in_word (d ∷ e ∷ ds) h =
    All-append IsInWord (digit_text d) (comma ∷ digits_text (e ∷ ds)) (digit_in_word d h.0)
    (All-cons IsInWord comma (digits_text (e ∷ ds)) refl (digits_in_word (e ∷ ds) h.1))

module _ (a : Address) where
  pub address_alone : HasShortNumbers a → texts_between blank (address_text a) ≡ address_text a ∷ []
  address_alone h =
      slice_split_none (λ byte. nat_eq byte blank) (address_text a)
      (All-append IsInWord (decimal a.kind) (colon ∷ digits_text a.digits) (number_in_word a.kind h.kind)
      (All-cons IsInWord colon (digits_text a.digits) refl (digits_in_word a.digits h.digits)))

  pub address_some : some_text (address_text a) ≡ Some (address_text a)
  address_some = behind (decimal a.kind)
    where
      behind : (xs : List ℕ) → some_text (xs ++ colon ∷ digits_text a.digits) ≡ Some (xs ++ colon ∷ digits_text a.digits)
      behind [] = refl
      behind (x ∷ xs) = refl
