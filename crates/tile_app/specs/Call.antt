-- A call: the arguments, the formats of the layers handed in, and the file that is read. What it asks, and of
-- which tiling.
use Rattle.std.specs.Prelude.{◌≡◌, ℕ, ◌<◌, ◌≤◌, Bool, true, false, ◌&&◌, List, length, Result, Ok, Err, is_none}
use Rattle.call_words.specs.Request.{Request, request_in, rule_asked}
use Rattle.layer_api.specs.declared.format.Format.{Format}
use Rattle.rule_model.specs.Tiling.{Tiling}
use Rattle.rule_text.specs.Limits.{longest_file}
use Rattle.call_notes.specs.declared.rule_fault.RuleFault.{RuleFault}
use Rattle.call_notes.specs.declared.status.Status.{Status}
use Rattle.tile_app.specs.Choices.{tiling_chosen}
use Rattle.tile_app.specs.Files.{has_file, longest_for, too_long_for}
use Rattle.tile_app.specs.Layers.{lacking, HaveLayers}

-- the arguments, the formats of the layers in their order, and the bytes of the file, if one is read
pub record Call : Type 0 where
  pub words : List (List ℕ)
  pub handed : List Format
  pub file : List ℕ

-- true if the arguments are right, each format that they ask for has a layer, and they ask for a file
abbrev pub has_file_in : Result Request ℕ → List Format → Bool
has_file_in (Ok q) handed = is_none (lacking q handed) && has_file q
has_file_in (Err place) handed = false

abbrev pub reads_file : List (List ℕ) → List Format → Bool
reads_file words handed = has_file_in (request_in words) handed

-- the greatest length of the file that the arguments ask for, if they are right
abbrev pub longest_in : Result Request ℕ → ℕ
longest_in (Ok q) = longest_for q
longest_in (Err place) = longest_file

abbrev pub longest_read : List (List ℕ) → ℕ
longest_read words = longest_in (request_in words)

-- the arguments are right and ask this, and each format that they ask for has a layer
pub record AreRight (c : Call) (q : Request) : Type 0 where
  pub asked : request_in c.words ≡ Ok q
  pub layers : HaveLayers q c.handed

-- the file is not too long, and with it the request names this tiling
pub record Names (c : Call) (q : Request) (t : Tiling) : Type 0 where
  pub not_too_long : length c.file ≤ longest_for q
  pub chosen : tiling_chosen c.file (rule_asked q) ≡ Ok t

-- the arguments are right and ask this of this tiling
pub record Asks (c : Call) (q : Request) (t : Tiling) : Type 0 where
  pub right : AreRight c q
  pub names : Names c q t

-- the arguments are right, and the file that they ask for is too long, which this status reports
pub record TellsTooLong (c : Call) (status : Status) : Type 0 where
  pub request : Request
  pub right : AreRight c request
  pub reads : has_file request ≡ true
  pub too_long : longest_for request < length c.file
  pub told : status ≡ too_long_for request

-- the arguments are right, and the rule file that they ask for does not stand for an accepted rule: this is
-- its first fault
pub record HasRuleFault (c : Call) (fault : RuleFault) : Type 0 where
  pub request : Request
  pub right : AreRight c request
  pub not_too_long : length c.file ≤ longest_for request
  pub first : tiling_chosen c.file (rule_asked request) ≡ Err fault
