-- The forms that the value of a key may have: an array of integers, an array of arrays of a fixed number of
-- integers, or an array of tables.
use Rattle.std.specs.Prelude.{ℕ, ℤ, List, [], ◌∷◌, length, Option, Some, None, option_and_then, ◌==◌, if◌then◌else◌}
use Rattle.toml.specs.Data.{Data, Items, no_items, item, Members, as_integer, as_array, as_table}

infixl 10 ◌>>=◌
abbrev pub ◌>>=◌ : {A B : Type 0} → Option A → (A → Option B) → Option B
o >>= f = option_and_then f o

-- all of the values, if each item has one
abbrev pub each : {A B : Type 0} → (A → Option B) → List A → Option (List B)
each f [] = Some []
each f (x ∷ xs) = do
  y ← f x
  ys ← each f xs
  Some (y ∷ ys)

-- the items of an array as a list
abbrev pub list_of : Items → List Data
list_of no_items = []
list_of (item d ds) = d ∷ list_of ds

-- an array whose items all have a form
abbrev pub array_of : {A : Type 0} → (Data → Option A) → Data → Option (List A)
array_of form d = as_array d >>= λ ds. each form (list_of ds)

-- an array of integers
abbrev pub integer_list : Data → Option (List ℤ)
integer_list d = array_of as_integer d

-- an array of n integers
abbrev pub row : ℕ → Data → Option (List ℤ)
row n d = integer_list d >>= λ zs. if length zs == n then Some zs else None

-- an array of arrays of n integers each
abbrev pub rows : ℕ → Data → Option (List (List ℤ))
rows n d = array_of (row n) d

-- an array of tables
abbrev pub tables : Data → Option (List Members)
tables d = array_of as_table d
