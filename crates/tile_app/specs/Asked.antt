-- The call that arguments, layers and a source make. Its file is what the source has left, or has given.
use Rattle.std.specs.Prelude.{◌≡◌, ℕ, ◌+◌, ◌≤◌, Bool, true, false, List, [], length, Some, IfSome}
use Rattle.std.specs.declared.option.Option.{Option}
use Rattle.layer_api.specs.declared.format.Format.{Format}
use Rattle.tile_io.specs.Left.{Gives}
use Rattle.tile_app.specs.Call.{Call, reads_file, longest_read}

-- the file in a source that has these bytes left: all of them, if a file is read
abbrev pub IsFileIn : Bool → Option (List ℕ) → List ℕ → Type 0
IsFileIn true left file = left ≡ Some file
IsFileIn false left file = file ≡ []

-- The file that was read, of at most so many bytes, from a source that had some bytes left and now has the
-- rest. If the source reports its bytes, the file was read to its end, or it is too long and one byte more
-- was read.
pub record WasRead (longest : ℕ) (left rest : Option (List ℕ)) (file : List ℕ) : Type 0 where
  pub given : Gives left rest file
  pub to_the_end : length file ≤ longest → IfSome rest (λ bytes. bytes ≡ [])
  pub at_most : length file ≤ longest + 1

-- the file that was read, if the arguments ask for one, and otherwise no byte
abbrev pub WasFileIn : ℕ → Bool → Option (List ℕ) → Option (List ℕ) → List ℕ → Type 0
WasFileIn longest true left rest file = WasRead longest left rest file
WasFileIn longest false left rest file = file ≡ []

-- arguments, layers of these formats and a source that has these bytes left make this call
pub record IsAsked (words : List (List ℕ)) (handed : List Format) (left : Option (List ℕ))
    (c : Call) : Type 0 where
  pub by_words : c.words ≡ words
  pub by_layers : c.handed ≡ handed
  pub in_source : IsFileIn (reads_file words handed) left c.file

-- they made it with a source that had some bytes left and now has the rest
pub record WasAsked (words : List (List ℕ)) (handed : List Format) (left rest : Option (List ℕ))
    (c : Call) : Type 0 where
  pub by_words : c.words ≡ words
  pub by_layers : c.handed ≡ handed
  pub from_source : WasFileIn (longest_read words) (reads_file words handed) left rest c.file

-- the call that they made has this property
abbrev pub OfCall : List (List ℕ) → List Format → Option (List ℕ) → Option (List ℕ) → (Call → Type 0) → Type 0
OfCall words handed left rest P = (c : Call) × WasAsked words handed left rest c × P c
