-- The values that arguments give to keys, each read by the form of its key.
use Rattle.std.specs.Prelude.{ℕ, Bool, List, Option}
use Rattle.std.specs.Option.{option_and_then, option_map_or}
use Rattle.cyclo_points.specs.declared.point.Point.{Point}
use Rattle.layer_api.specs.declared.format.Format.{Format}
use Rattle.tile_shape.specs.Decimal.{number_up_to}
use Rattle.call_words.specs.declared.rule_choice.RuleChoice.{RuleChoice}
use Rattle.call_words.specs.declared.window_words.HalfExtents.{HalfExtents}
use Rattle.call_words.specs.declared.words.Key.{Key}
use Rattle.call_words.specs.declared.words.Key.TheVariants.{Rule, Addr, Edge, Seed, Grow, Path, At, Half, Layers, Glue, Count, Vertex}
use Rattle.call_words.specs.Choices.{choice_in}
use Rattle.call_words.specs.Commands.{most_seed, windows_in, glue_in}
use Rattle.call_words.specs.FormatWords.{formats_in}
use Rattle.call_words.specs.PathWords.{path_in}
use Rattle.call_words.specs.WindowWords.{at_in, half_in}
use Rattle.call_words.specs.Words.{value_given}

-- the value of each key, or None if the key is not given
pub record Values : Type 0 where
  pub rule : Option RuleChoice
  pub addr : Option (List ℕ)
  pub edge : Option ℕ
  pub seed : Option ℕ
  pub grow : Option ℕ
  pub path : Option (List ℕ)
  pub at : Option Point
  pub half : Option HalfExtents
  pub layers : Option (List Format)
  pub glue : Option Bool
  pub count : Option ℕ
  pub vertex : Option ℕ

-- the values that texts have, of which a function gives one for each key
abbrev pub values_by : (Key → Option (List ℕ)) → Values
values_by text = record {
  rule = option_and_then choice_in (text Rule);
  addr = text Addr;
  edge = option_and_then (number_up_to 255) (text Edge);
  seed = option_and_then (number_up_to most_seed) (text Seed);
  grow = option_and_then (number_up_to 64) (text Grow);
  path = option_and_then path_in (text Path);
  at = option_and_then at_in (text At);
  half = option_and_then half_in (text Half);
  layers = option_and_then formats_in (text Layers);
  glue = option_and_then glue_in (text Glue);
  count = option_and_then windows_in (text Count);
  vertex = option_and_then (number_up_to 255) (text Vertex);
}

-- the values that arguments give
abbrev pub values_given : List (List ℕ) → Values
values_given words = values_by (λ key. value_given key words)

-- a value, or a default if the key is not given
abbrev pub or_default : {A : Type 0} → Option A → A → A
or_default value default = option_map_or (λ x. x) value default

infixl 10 ◌>>=◌
abbrev pub ◌>>=◌ : {A B : Type 0} → Option A → (A → Option B) → Option B
o >>= f = option_and_then f o
