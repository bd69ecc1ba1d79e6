-- The commands, and the keys of each.
use Rattle.std.specs.Prelude.{ℕ, Bool, true, false, List, [], ◌∷◌, codes, Some, None, is_some, nat_le, if◌then◌else◌}
use Rattle.std.specs.declared.option.Option.{Option}
use Rattle.std.specs.Option.{option_and_then}
use Rattle.std.specs.Str.{bytes_eq}
use Rattle.call_words.specs.declared.words.Command.{Command}
use Rattle.call_words.specs.declared.words.Command.TheVariants.{Place, Neighbour, Walk, Draw, Check, Calc, Drill, Star, Verify}
use Rattle.call_words.specs.declared.words.Key.{Key}
use Rattle.call_words.specs.declared.words.Key.TheVariants.{Rule, Addr, Edge, Seed, Grow, Path, At, Half, Layers, Glue, Count, Vertex}
use Rattle.call_words.specs.Choices.{choice_in, name_in}
use Rattle.call_words.specs.FormatWords.{formats_in}
use Rattle.call_words.specs.PathWords.{path_in}
use Rattle.call_words.specs.WindowWords.{at_in, half_in}
use Rattle.tile_shape.specs.Decimal.{number_up_to}

-- the greatest seed
abbrev pub most_seed : ℕ
most_seed = 18446744073709551615

-- the name of a key
abbrev pub key_text : Key → List ℕ
key_text Rule = codes "rule"
key_text Addr = codes "addr"
key_text Edge = codes "edge"
key_text Seed = codes "seed"
key_text Grow = codes "grow"
key_text Path = codes "path"
key_text At = codes "at"
key_text Half = codes "half"
key_text Layers = codes "layers"
key_text Glue = codes "glue"
key_text Count = codes "n"
key_text Vertex = codes "vertex"

-- the command that an argument names
abbrev pub command_named : List ℕ → Option Command
command_named word =
    if bytes_eq word (codes "place") then Some Place else
    if bytes_eq word (codes "neighbour") then Some Neighbour else
    if bytes_eq word (codes "walk") then Some Walk else
    if bytes_eq word (codes "draw") then Some Draw else
    if bytes_eq word (codes "check") then Some Check else
    if bytes_eq word (codes "calc") then Some Calc else
    if bytes_eq word (codes "drill") then Some Drill else
    if bytes_eq word (codes "star") then Some Star else
    if bytes_eq word (codes "verify") then Some Verify else None

-- the keys of a command
abbrev pub keys_of : Command → List Key
keys_of Place = Rule ∷ Addr ∷ []
keys_of Neighbour = Rule ∷ Addr ∷ Edge ∷ []
keys_of Walk = Rule ∷ Addr ∷ Seed ∷ Grow ∷ Path ∷ []
keys_of Draw = Rule ∷ Addr ∷ At ∷ Half ∷ Layers ∷ Seed ∷ Glue ∷ []
keys_of Check = Rule ∷ []
keys_of Calc = Rule ∷ []
keys_of Drill = Rule ∷ Count ∷ Seed ∷ []
keys_of Star = Rule ∷ Addr ∷ Vertex ∷ Seed ∷ []
keys_of Verify = Rule ∷ Addr ∷ At ∷ Half ∷ Seed ∷ []

-- the keys that a command requires
abbrev pub required_keys : Command → List Key
required_keys Place = Rule ∷ Addr ∷ []
required_keys Neighbour = Rule ∷ Addr ∷ Edge ∷ []
required_keys Walk = Rule ∷ Addr ∷ []
required_keys Draw = Rule ∷ Addr ∷ At ∷ Half ∷ Layers ∷ []
required_keys Check = Rule ∷ []
required_keys Calc = Rule ∷ []
required_keys Drill = Rule ∷ Count ∷ []
required_keys Star = Rule ∷ Addr ∷ Vertex ∷ []
required_keys Verify = Rule ∷ Addr ∷ At ∷ Half ∷ []

-- the greatest number of windows of a drill
abbrev pub most_windows : ℕ
most_windows = 200

-- a number of windows, from 1 to 200
abbrev pub windows_in : List ℕ → Option ℕ
windows_in text = option_and_then (λ n. if nat_le 1 n then Some n else None) (number_up_to most_windows text)

-- true if a text is a rule for a command: a name, or `-` for a rule file. `calc` reads a script and `verify`
-- a list of tiles, so they take only a name.
abbrev pub is_rule_for : Command → List ℕ → Bool
is_rule_for Calc value = is_some (name_in value)
is_rule_for Verify value = is_some (name_in value)
is_rule_for command value = is_some (choice_in value)

-- if whole tiles are asked for: `yes` or `no`
abbrev pub glue_in : List ℕ → Option Bool
glue_in text = if bytes_eq text (codes "yes") then Some true else if bytes_eq text (codes "no") then Some
    false else None

-- True if a value has the form of its key for a command: a rule that the command takes; any text as an
-- address; a number from 0 to 255 as an edge or a vertex; a seed of 64 bits; a depth of at most 64; numbers
-- of edges as a path; four coefficients as a centre; two numbers from 1 as half-width and half-height;
-- formats with commas between them; `yes` or `no` for glue; a number of windows from 1 to 200.
abbrev pub has_form : Command → Key → List ℕ → Bool
has_form command Rule value = is_rule_for command value
has_form command Addr value = true
has_form command Edge value = is_some (number_up_to 255 value)
has_form command Seed value = is_some (number_up_to most_seed value)
has_form command Grow value = is_some (number_up_to 64 value)
has_form command Path value = is_some (path_in value)
has_form command At value = is_some (at_in value)
has_form command Half value = is_some (half_in value)
has_form command Layers value = is_some (formats_in value)
has_form command Glue value = is_some (glue_in value)
has_form command Count value = is_some (windows_in value)
has_form command Vertex value = is_some (number_up_to 255 value)
