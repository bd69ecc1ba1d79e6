-- How one more argument is read, after the values that those before it give.
use Rattle.std.specs.Prelude.{◌≡◌, ℕ, Bool, true, List, Option, Some, is_some}
use Rattle.std.specs.Option.{option_map}
use Rattle.arrayvec.specs.ArrayVec.{ArrayVec}
use Rattle.tile_shape.specs.Decimal.{number_up_to}
use Rattle.call_words.specs.declared.values.Values.{Values as Kept}
use Rattle.call_words.specs.declared.words.Command.{Command}
use Rattle.call_words.specs.declared.words.Key.{Key}
use Rattle.call_words.specs.declared.words.Key.TheVariants.{Rule, Addr, Edge, Seed, Grow, Path, At, Half, Layers, Glue, Count, Vertex}
use Rattle.call_words.specs.Choices.{choice_in}
use Rattle.call_words.specs.Commands.{most_seed, windows_in, glue_in, has_form}
use Rattle.call_words.specs.FormatWords.{formats_in}
use Rattle.call_words.specs.PathWords.{path_in}
use Rattle.call_words.specs.Values.{Values}
use Rattle.call_words.specs.WindowWords.{at_in, half_in}
use Rattle.call_words.specs.Words.{value_given}

-- the program's values as the definitions have them; the path is kept apart
abbrev pub values_of : Kept → Option (ArrayVec ℕ) → Values
values_of v path = record {
  rule = v.rule;
  addr = option_map (λ a. a.now) v.addr;
  edge = v.edge;
  seed = v.seed;
  grow = v.grow;
  path = option_map (λ p. p.items) path;
  at = v.at;
  half = v.half;
  layers = option_map (λ l. l.items) v.layers;
  glue = v.glue;
  count = v.count;
  vertex = v.vertex;
}

-- true if a key has a value
abbrev pub has_value : Key → Values → Bool
has_value Rule v = is_some v.rule
has_value Addr v = is_some v.addr
has_value Edge v = is_some v.edge
has_value Seed v = is_some v.seed
has_value Grow v = is_some v.grow
has_value Path v = is_some v.path
has_value At v = is_some v.at
has_value Half v = is_some v.half
has_value Layers v = is_some v.layers
has_value Glue v = is_some v.glue
has_value Count v = is_some v.count
has_value Vertex v = is_some v.vertex

-- the values, and that of one more key, read from a text
abbrev pub with_value : Key → List ℕ → Values → Values
with_value Rule text v = record v { rule = choice_in text }
with_value Addr text v = record v { addr = Some text }
with_value Edge text v = record v { edge = number_up_to 255 text }
with_value Seed text v = record v { seed = number_up_to most_seed text }
with_value Grow text v = record v { grow = number_up_to 64 text }
with_value Path text v = record v { path = path_in text }
with_value At text v = record v { at = at_in text }
with_value Half text v = record v { half = half_in text }
with_value Layers text v = record v { layers = formats_in text }
with_value Glue text v = record v { glue = glue_in text }
with_value Count text v = record v { count = windows_in text }
with_value Vertex text v = record v { vertex = number_up_to 255 text }

-- each value that arguments give has the form of its key
abbrev pub HaveForms : Command → List (List ℕ) → Type 0
HaveForms command words = (key : Key) (value : List ℕ) → value_given key words ≡ Some value
    → has_form command key value ≡ true
