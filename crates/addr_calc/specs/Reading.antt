-- Reading a line, its fields from left to right. Each reader returns what it has read. If a field is
-- malformed or one too many, it returns the position of the first such field, counted from 0. If a field is
-- missing, it returns the number of fields.
use Rattle.std.specs.Prelude.{ℕ, ◌-◌, ◌&&◌, List, [], ◌∷◌, codes, Option, Some, None, Result, Ok, Err, nat_le, ◌==◌, if◌then◌else◌}
use Rattle.std.specs.Str.{bytes_eq}
use Rattle.cyclo_points.specs.Text.{blank}
use Rattle.tile_shape.specs.Decimal.{number_up_to}
use Rattle.tile_shape.specs.Parse.{◌>>=◌}
use Rattle.tile_shape.specs.Words.{word_by, some_text, texts_between}
use Rattle.addr_calc.specs.Statement.{Statement}
use Rattle.addr_calc.specs.Statement.Statement.{Nothing, Let, Show, Place, Across, Common, Pair}

-- the sign `#` that begins a comment
abbrev pub number_sign : ℕ
number_sign = 35

-- the number of a name: the field is one letter from `a`, whose code is 97, to `z`
abbrev pub name_in_field : List ℕ → Option ℕ
name_in_field [] = None
name_in_field (byte ∷ []) = if nat_le 97 byte && nat_le byte 122 then Some (byte - 97) else None
name_in_field (byte ∷ next ∷ bytes) = None

-- the statement, if no fields are left
abbrev pub no_word : Statement → ℕ → List (List ℕ) → Result Statement ℕ
no_word statement place [] = Ok statement
no_word statement place (word ∷ words) = Err place

-- the statement of each command, by the fields after it
unfoldable pub let_in : List (List ℕ) → Result Statement ℕ
let_in words = do
  name ← word_by name_in_field 1 words
  text ← word_by some_text 2 name.1
  no_word (Let name.0 text.0) 3 text.1

unfoldable pub show_in : List (List ℕ) → Result Statement ℕ
show_in words = do
  name ← word_by name_in_field 1 words
  no_word (Show name.0) 2 name.1

unfoldable pub place_in : List (List ℕ) → Result Statement ℕ
place_in words = do
  name ← word_by name_in_field 1 words
  no_word (Place name.0) 2 name.1

unfoldable pub across_in : List (List ℕ) → Result Statement ℕ
across_in words = do
  from ← word_by name_in_field 1 words
  edge ← word_by (number_up_to 255) 2 from.1
  to ← word_by name_in_field 3 edge.1
  no_word (Across from.0 edge.0 to.0) 4 to.1

-- a statement that asks something of two names
unfoldable pub two_names_in : (ℕ → ℕ → Statement) → List (List ℕ) → Result Statement ℕ
two_names_in asks words = do
  one ← word_by name_in_field 1 words
  other ← word_by name_in_field 2 one.1
  no_word (asks one.0 other.0) 3 other.1

-- the statement of fields, of which the first is the command
unfoldable pub command_in : List (List ℕ) → Result Statement ℕ
command_in [] = Err 0
command_in (word ∷ words) =
    if bytes_eq word (codes "let") then let_in words else
    (if bytes_eq word (codes "show") then show_in words else
    (if bytes_eq word (codes "place") then place_in words else
    (if bytes_eq word (codes "across") then across_in words else
    (if bytes_eq word (codes "common") then two_names_in Common words else
    (if bytes_eq word (codes "pair") then two_names_in Pair words else Err 0)))))

-- The statement of a line. It is Nothing if the line is empty or a comment. Otherwise single blanks separate
-- the fields.
unfoldable pub statement_in : List ℕ → Result Statement ℕ
statement_in [] = Ok Nothing
statement_in (byte ∷ bytes) =
    if byte == number_sign then Ok Nothing else command_in (texts_between blank (byte ∷ bytes))
