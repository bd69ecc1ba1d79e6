-- The files that requests read: which requests have one, and how long it may be.
use Rattle.std.specs.Prelude.{ℕ, Bool, true, false, ◌||◌}
use Rattle.call_words.specs.Request.{Request, rule_asked}
use Rattle.call_words.specs.Request.Request.{Calc, Verify}
use Rattle.tile_app.specs.declared.file_kind.FileKind.{FileKind}
use Rattle.tile_app.specs.declared.file_kind.FileKind.TheVariants.{Rule, Script, Listing}
use Rattle.call_notes.specs.declared.status.Status.{Status}
use Rattle.tile_app.specs.Choices.{is_file}
use Rattle.tile_app.specs.FileKinds.{longest_of, too_long_of}
use Rattle.tile_app.specs.Tile.{is_tile}
use Rattle.tile_app.specs.Tilings.{builtin_tiling}

-- true if a request has a file of its own: `calc` a script, and `verify` a list of tiles if it names a tile
abbrev pub has_own_file : Request → Bool
has_own_file (Calc name) = true
has_own_file (Verify name addr seed window) = is_tile (builtin_tiling name) addr
has_own_file _ = false

-- true if a request reads a file: that of its rule, or its own
abbrev pub has_file : Request → Bool
has_file q = is_file (rule_asked q) || has_own_file q

-- the kind of the file that a request may read
abbrev pub file_kind_of : Request → FileKind
file_kind_of (Calc name) = Script
file_kind_of (Verify name addr seed window) = Listing
file_kind_of _ = Rule

-- its greatest length, and the refusal of one that is longer
abbrev pub longest_for : Request → ℕ
longest_for q = longest_of (file_kind_of q)

abbrev pub too_long_for : Request → Status
too_long_for q = too_long_of (file_kind_of q)
