-- The four fields of a line: a kind, a turn, a shift and the text of an address. Each reader gives what it
-- has read, or the number, from 0, of the first field that is malformed or one too many. If a field is
-- missing, it is the number of fields.
use Rattle.std.specs.Prelude.{ℕ, List, [], ◌∷◌, Result, Ok, Err}
use Rattle.cyclo_points.specs.Text.{blank}
use Rattle.cyclo_points.specs.declared.motion.Motion.{Motion}
use Rattle.tile_shape.specs.Decimal.{number_up_to}
use Rattle.tile_shape.specs.Parse.{◌>>=◌}
use Rattle.tile_shape.specs.Words.{word_by, some_text, texts_between}
use Rattle.listing_text.specs.Signed.{shift_in}

-- what is listed of a tile, by the words of a line
pub record Listed : Type 0 where
  pub kind : ℕ
  pub motion : Motion
  pub address : List ℕ

-- the last field, an address, after a kind and a motion; no field comes after it
abbrev pub last_word : ℕ → Motion → List ℕ × List (List ℕ) → Result Listed ℕ
last_word kind motion (address, []) = Ok (record { kind = kind; motion = motion; address = address })
last_word kind motion (address, word ∷ words) = Err 4

-- a kind and a motion, by three fields, and the fields after them
unfoldable pub listed_motion : List (List ℕ) → Result (ℕ × Motion × List (List ℕ)) ℕ
listed_motion words = do
  kind ← word_by (number_up_to 255) 0 words
  turn ← word_by (number_up_to 255) 1 kind.1
  shift ← word_by shift_in 2 turn.1
  Ok (kind.0, record { turn = turn.0; shift = shift.0 }, shift.1)

-- what is listed, by the fields after these three
unfoldable pub listed_behind : ℕ → Motion → List (List ℕ) → Result Listed ℕ
listed_behind kind motion words = do
  address ← word_by some_text 3 words
  last_word kind motion address

-- single blanks separate the fields of a line
unfoldable pub listed_in : List ℕ → Result Listed ℕ
listed_in line = do
  placed ← listed_motion (texts_between blank line)
  listed_behind placed.0 placed.1 placed.2
