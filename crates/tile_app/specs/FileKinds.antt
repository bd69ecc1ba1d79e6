-- The kinds of files that a call may read.
use Rattle.std.specs.Prelude.{ℕ}
use Rattle.list_verify.specs.declared.list_fault.ListFault.TheVariants as listing
use Rattle.rule_text.specs.Limits.{longest_file}
use Rattle.tile_app.specs.declared.file_kind.FileKind.{FileKind}
use Rattle.tile_app.specs.declared.file_kind.FileKind.TheVariants.{Rule, Script, Listing}
use Rattle.call_notes.specs.declared.script_fault.ScriptFault.TheVariants as script
use Rattle.call_notes.specs.declared.status.Status.{Status}
use Rattle.call_notes.specs.declared.status.Status.TheVariants.{RuleTooLong, BadScript, BadListing}

-- the greatest length of a list of tiles, 2^26 bytes
abbrev pub longest_listing : ℕ
longest_listing = 67108864

-- the greatest length of a file, in bytes
abbrev pub longest_of : FileKind → ℕ
longest_of Rule = longest_file
longest_of Script = longest_file
longest_of Listing = longest_listing

-- the refusal of a file that is too long
abbrev pub too_long_of : FileKind → Status
too_long_of Rule = RuleTooLong
too_long_of Script = BadScript script.TooLong
too_long_of Listing = BadListing listing.TooLong
