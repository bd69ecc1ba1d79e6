-- Reading goes on step by step, and ends with the first fault.
use Rattle.std.specs.Prelude.{ℕ, suc, Bool, true, List, [], ◌∷◌, Option, Result, Ok, Err, bytes_eq, ok_or, ◌&&◌, if◌then◌else◌}
use Rattle.std.specs.List.{list_any}
use Rattle.toml.specs.Data.{Data, Members, no_members, member, get_member}
use Rattle.rule_text.specs.declared.key.Key.{Key}
use Rattle.rule_text.specs.declared.place.Place.{Place}
use Rattle.rule_text.specs.declared.text_fault.TextFault.{TextFault}
use Rattle.rule_text.specs.declared.text_fault.TextFault.TheVariants.{Missing, WrongType, OutOfRange, UnknownKey}

infixl 10 ◌>>=◌
abbrev pub ◌>>=◌ : {A B : Type 0} → Result A TextFault → (A → Result B TextFault) → Result B TextFault
(Ok x) >>= f = f x
(Err e) >>= f = Err e

-- the value of a key; the faults are, in this order, that it is missing, has another form, or is out of range
unfoldable pub value_at : {A B : Type 0} → Key → List ℕ → (Data → Option A) → (A → Option B) → Members
    → Result B TextFault
value_at key name form range members = do
  d ← ok_or (get_member name members) (Missing key)
  x ← ok_or (form d) (WrongType key)
  ok_or (range x) (OutOfRange key)

-- the key is one of these
abbrev pub is_key_among : List (List ℕ) → List ℕ → Bool
is_key_among names key = list_any (bytes_eq key) names

-- each key is one of these
abbrev pub has_only : List (List ℕ) → Members → Bool
has_only names no_members = true
has_only names (member key d members) = is_key_among names key && has_only names members

-- the value, if the table has no further key
abbrev pub unless_further : {A : Type 0} → List (List ℕ) → Place → Members → A → Result A TextFault
unless_further names place members x = if has_only names members then Ok x else Err (UnknownKey place)

-- each entry in order, read with its number
abbrev pub in_order : {A B : Type 0} → (ℕ → A → Result B TextFault) → ℕ → List A → Result (List B) TextFault
in_order read n [] = Ok []
in_order read n (x ∷ xs) = do
  y ← read n x
  ys ← in_order read (suc n) xs
  Ok (y ∷ ys)
