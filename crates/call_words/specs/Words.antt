-- The arguments of a command line: a command, then `key=value` in any order. Each key is given at most once.
-- In names, *words* are the arguments.
use Rattle.std.specs.Prelude.{ℕ, Bool, false, not, ◌&&◌, List, [], ◌∷◌, map, length, string_bytes, Some, None, is_some, nat_lt, nat_eq, if◌then◌else◌}
use Rattle.std.specs.declared.option.Option.{Option}
use Rattle.std.specs.declared.string.String.{String}
use Rattle.std.specs.List.{list_any, before_first, after_first, position_or_len}
use Rattle.std.specs.Option.{option_map_or}
use Rattle.std.specs.Str.{bytes_eq}
use Rattle.call_words.specs.declared.words.Command.{Command}
use Rattle.call_words.specs.declared.words.Key.{Key}
use Rattle.call_words.specs.Commands.{key_text, keys_of, has_form}

-- the arguments as their bytes
abbrev pub texts : {A : Type 0} → List (String A) → List (List ℕ)
texts words = map string_bytes words

-- `=`
abbrev pub is_equals : ℕ → Bool
is_equals c = nat_eq c 61

-- the value that an argument gives a key: what follows its first `=`, if the key's name is before it
abbrev pub value_in : Key → List ℕ → Option (List ℕ)
value_in key word =
    if nat_lt (position_or_len is_equals word) (length word)
    && bytes_eq (before_first is_equals word) (key_text key)
    then Some (after_first is_equals word) else None

-- the value that the first argument with this key gives it
abbrev pub value_given : Key → List (List ℕ) → Option (List ℕ)
value_given key [] = None
value_given key (word ∷ words) = option_map_or Some (value_in key word) (value_given key words)

-- True if an argument is right after those before it: it gives a value to a key of the command, which has no
-- value yet, and the value has the key's form.
abbrev pub is_right : Command → List (List ℕ) → List ℕ → Bool
is_right command before word =
    list_any (λ key. option_map_or
    (λ value. not (is_some (value_given key before)) && has_form command key value) (value_in key word) false)
    (keys_of command)
