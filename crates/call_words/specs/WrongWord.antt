-- The position of the first wrong argument, from the tables of the commands and of their keys.
use Rattle.std.specs.Prelude.{ℕ, List, [], ◌∷◌, ◌++◌, length, Option, Some, None, Result, Ok, Err, is_some, if◌then◌else◌}
use Rattle.std.specs.List.{list_all}
use Rattle.std.specs.Option.{option_map_or}
use Rattle.call_words.specs.declared.words.Command.{Command}
use Rattle.call_words.specs.Commands.{command_named, required_keys}
use Rattle.call_words.specs.Words.{value_given, is_right}

-- The position of the first argument after `before` that is not right. If all are right, it is the number of
-- arguments if a required key is missing, and otherwise there is none.
abbrev pub wrong_behind : Command → List (List ℕ) → List (List ℕ) → Option ℕ
wrong_behind command before [] =
    if list_all (λ key. is_some (value_given key before)) (required_keys command) then None else Some
    (length before)
wrong_behind command before (word ∷ words) =
    if is_right command before word then wrong_behind command (before ++ word ∷ []) words else Some
    (length before)

-- the position of the first wrong argument, counted from 0: the first if it names no command, or there are
-- none
abbrev pub wrong_place : List (List ℕ) → Option ℕ
wrong_place [] = Some 0
wrong_place (name ∷ words) =
    option_map_or (λ command. wrong_behind command (name ∷ []) words) (command_named name) (Some 0)

-- the position that a reader of arguments refuses
abbrev pub place_refused : {A : Type 0} → Result A ℕ → Option ℕ
place_refused (Ok request) = None
place_refused (Err place) = Some place
