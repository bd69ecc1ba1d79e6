-- The words that are right give each key a value of its form, so a request is refused exactly at the place of the first wrong word.
use Rattle.std.proofs.Common.{◌≡◌, ℕ, Bool, true, false, cond, ◌&&◌, List, [], ◌∷◌, ◌++◌, length, codes, Some, None, Ok, Err, Result, is_some, refl, sym, ap, ◌∙◌}
use Rattle.std.specs.declared.option.Option.{Option}
use Rattle.std.specs.List.{list_all}
use Rattle.std.specs.Option.{option_map, option_map_or, option_and_then, ok_or}
use Rattle.std.specs.Str.{bytes_eq}
use Rattle.std.proofs.lemmas.Slice.Eq.{bytes_eq-Decides}
use Rattle.call_words.specs.declared.words.Command.{Command}
use Rattle.call_words.specs.declared.words.Command.TheVariants.{Place, Neighbour, Walk, Draw, Check, Calc, Drill, Star, Verify}
use Rattle.call_words.specs.declared.words.Key.{Key}
use Rattle.call_words.specs.declared.words.Key.TheVariants.{Rule, Addr, Edge, At, Half, Layers, Count, Vertex}
use Rattle.builtin_rules.specs.declared.name.Name.{Name}
use Rattle.call_words.specs.declared.rule_choice.RuleChoice.{RuleChoice}
use Rattle.call_words.specs.declared.rule_choice.RuleChoice.TheVariants.{Builtin, File}
use Rattle.call_words.specs.Choices.{choice_in, name_in, builtin_name}
use Rattle.call_words.specs.Commands.{command_named, is_rule_for, required_keys, windows_in, has_form}
use Rattle.call_words.specs.FormatWords.{formats_in}
use Rattle.call_words.specs.Reading.{HaveForms}
use Rattle.call_words.specs.Request.{asked_by, asked_behind, request_in}
use Rattle.call_words.specs.Values.{values_given, ◌>>=◌}
use Rattle.call_words.specs.Views.{AnswersAs}
use Rattle.call_words.specs.WindowWords.{at_in, half_in}
use Rattle.call_words.specs.Words.{value_given, is_right}
use Rattle.call_words.specs.WrongWord.{wrong_behind, wrong_place, place_refused}
use Rattle.tile_shape.specs.Decimal.{number_up_to}
use Rattle.call_words.proofs.FormedValues.{have_forms, name_gives_nothing}

-- ---- what is given is read, since it has its form
pub read_or_not : {A : Type 0} (form : List ℕ → Option A) (o : Option (List ℕ))
    → ((v : List ℕ) → o ≡ Some v → is_some (form v) ≡ true) → is_some (option_and_then form o) ≡ is_some o
read_or_not form None h = refl
read_or_not form (Some v) h = h v refl

-- a chain of values is there where each of them is
chain : {A B : Type 0} (o : Option A) (next : A → Option B) (rest : Bool)
    → ((x : A) → is_some (next x) ≡ rest) → is_some (o >>= next) ≡ is_some o && rest
chain None next rest h = refl
chain (Some x) next rest h = h x

-- the same, of a key's value
module _ (command : Command) (words : List (List ℕ)) (h : HaveForms command words) where
  abbrev has : Key → Bool
  has key = is_some (value_given key words)

  asks : {A B : Type 0} (key : Key) (form : List ℕ → Option A) (next : A → Option B) (rest : Bool)
      → ((v : List ℕ) → has_form command key v ≡ true → is_some (form v) ≡ true)
      → ((x : A) → is_some (next x) ≡ rest) → is_some (option_and_then form (value_given key words) >>= next) ≡ has key && rest
  asks key form next rest forms k =
      chain (option_and_then form (value_given key words)) next rest k
      ∙ ap (λ b. b && rest) (read_or_not form (value_given key words) (λ v e. forms v (h key v e)))

  asks_addr : {B : Type 0} (next : List ℕ → Option B) (rest : Bool) → ((x : List ℕ) → is_some (next x) ≡ rest)
      → is_some (value_given Addr words >>= next) ≡ has Addr && rest
  asks_addr next rest k = chain (value_given Addr words) next rest k

-- ---- the name of a rule
pub builtin_name-choice : (text : List ℕ) → option_and_then builtin_name (choice_in text) ≡ name_in text
builtin_name-choice text = at_test (bytes_eq text (codes "-")) refl
  where
    at_name : (o : Option Name) → option_and_then builtin_name (option_map Builtin o) ≡ o
    at_name None = refl
    at_name (Some name) = refl

    at_test : (b : Bool) → bytes_eq text (codes "-") ≡ b
        → option_and_then builtin_name (cond b (Some File) (option_map Builtin (name_in text))) ≡ name_in text
    at_test true e = let same : text ≡ codes "-" = (bytes_eq-Decides _ _).0 e in sym (ap name_in same)
    at_test false e = at_name (name_in text)

named : (text : List ℕ) → is_some (name_in text) ≡ true → is_some (choice_in text) ≡ true
named text e = at_choice (choice_in text) (builtin_name-choice text)
  where
    at_choice : (o : Option RuleChoice) → option_and_then builtin_name o ≡ name_in text → is_some o ≡ true
    at_choice None f = absurd (cc (sym e ∙ ap is_some (sym f)))
    at_choice (Some rule) f = refl

-- a text that is a rule for a command chooses one
pub rule_form : (command : Command) (text : List ℕ) → is_rule_for command text ≡ true → is_some (choice_in text) ≡ true
rule_form Calc text e = named text e
rule_form Verify text e = named text e
rule_form Place text e = e
rule_form Neighbour text e = e
rule_form Walk text e = e
rule_form Draw text e = e
rule_form Check text e = e
rule_form Drill text e = e
rule_form Star text e = e

then_name : {B : Type 0} (o : Option RuleChoice) (next : Name → Option B)
    → o >>= (λ rule. builtin_name rule >>= next) ≡ option_and_then builtin_name o >>= next
then_name None next = refl
then_name (Some rule) next = refl

module _ (command : Command) (words : List (List ℕ)) (h : HaveForms command words)
    (forms : (v : List ℕ) → has_form command Rule v ≡ true → is_some (name_in v) ≡ true) where
  asks_name : {B : Type 0} (next : Name → Option B) (rest : Bool) → ((x : Name) → is_some (next x) ≡ rest)
      → is_some (option_and_then choice_in (value_given Rule words) >>= (λ rule. builtin_name rule >>= next))
      ≡ is_some (value_given Rule words) && rest
  asks_name next rest k = at_value (value_given Rule words) (λ v e. forms v (h Rule v e))
    where
      at_value : (o : Option (List ℕ)) → ((v : List ℕ) → o ≡ Some v → is_some (name_in v) ≡ true)
          → is_some (option_and_then choice_in o >>= (λ rule. builtin_name rule >>= next)) ≡ is_some o && rest
      at_value None f = refl
      at_value (Some v) f =
          ap is_some (then_name (choice_in v) next ∙ ap (λ n. n >>= next) (builtin_name-choice v))
          ∙ chain (name_in v) next rest k ∙ ap (λ b. b && rest) (f v refl)

-- ---- by cases of the command: its request is there where all required keys are given
pub required-asked : (command : Command) (words : List (List ℕ)) → HaveForms command words
    → is_some (asked_by command (values_given words)) ≡ list_all (λ key. is_some (value_given key words)) (required_keys command)
unfolding asked_by
required-asked Place words h = asks Place words h Rule choice_in _ _ (λ v e. e) (λ rule. asks_addr Place words h _ _ (λ addr. refl))
required-asked Neighbour words h =
    asks Neighbour words h Rule choice_in _ _ (λ v e. e)
    (λ rule. asks_addr Neighbour words h _ _
    (λ addr. asks Neighbour words h Edge (number_up_to 255) _ _ (λ v e. e) (λ edge. refl)))
required-asked Walk words h = asks Walk words h Rule choice_in _ _ (λ v e. e) (λ rule. asks_addr Walk words h _ _ (λ addr. refl))
required-asked Draw words h =
    asks Draw words h Rule choice_in _ _ (λ v e. e)
    (λ rule. asks_addr Draw words h _ _
    (λ addr. asks Draw words h At at_in _ _ (λ v e. e)
    (λ at. asks Draw words h Half half_in _ _ (λ v e. e)
    (λ half. asks Draw words h Layers formats_in _ _ (λ v e. e) (λ layers. refl)))))
required-asked Check words h = asks Check words h Rule choice_in _ _ (λ v e. e) (λ rule. refl)
required-asked Calc words h = asks_name Calc words h (λ v e. e) _ _ (λ name. refl)
required-asked Drill words h = asks Drill words h Rule choice_in _ _ (λ v e. e)
    (λ rule. asks Drill words h Count windows_in _ _ (λ v e. e) (λ count. refl))
required-asked Star words h =
    asks Star words h Rule choice_in _ _ (λ v e. e)
    (λ rule. asks_addr Star words h _ _ (λ addr. asks Star words h Vertex (number_up_to 255) _ _
    (λ v e. e) (λ vertex. refl)))
required-asked Verify words h =
    asks_name Verify words h (λ v e. e) _ _
    (λ name. asks_addr Verify words h _ _
    (λ addr. asks Verify words h At at_in _ _ (λ v e. e)
    (λ at. asks Verify words h Half half_in _ _ (λ v e. e) (λ half. refl))))

-- ---- the place
place_of_missing : {A : Type 0} (o : Option A) (n : ℕ) → place_refused (ok_or o n) ≡ cond (is_some o) None (Some n)
place_of_missing None n = refl
place_of_missing (Some x) n = refl

place_behind : (command : Command) (before after : List (List ℕ)) → HaveForms command before
    → place_refused (asked_behind command before after) ≡ wrong_behind command before after
place_behind command before [] h =
    place_of_missing (asked_by command (values_given before)) (length before)
    ∙ ap (λ b. cond b None (Some (length before))) (required-asked command before h)
place_behind command before (word ∷ after) h = at_test (is_right command before word) refl
    (λ e. place_behind command (before ++ word ∷ []) after (have_forms command before word h e))
  where
    at_test : (b : Bool) → is_right command before word ≡ b
        → (is_right command before word ≡ true → place_refused
        (asked_behind command (before ++ word ∷ []) after) ≡ wrong_behind command (before ++ word ∷ [])
        after)
        → place_refused (cond b (asked_behind command (before ++ word ∷ []) after) (Err (length before)))
        ≡ cond b (wrong_behind command (before ++ word ∷ []) after) (Some (length before))
    at_test true e rest = rest e
    at_test false e rest = refl

pub place-refused : (words : List (List ℕ)) → place_refused (request_in words) ≡ wrong_place words
place-refused [] = refl
place-refused (name ∷ words) = at_name (command_named name) refl
  where
    at_name : (o : Option Command) → command_named name ≡ o
        → place_refused (option_map_or (λ command. asked_behind command (name ∷ []) words) o (Err 0))
        ≡ option_map_or (λ command. wrong_behind command (name ∷ []) words) o (Some 0)
    at_name None e = refl
    at_name (Some command) e = place_behind command (name ∷ []) words (name_gives_nothing name command e)

-- what is answered as the definition reads it is refused where it is
pub refused_alike : {X Y : Type 0} (seen : X → Y) (result : Result X ℕ) (read : Result Y ℕ)
    → AnswersAs seen result read → place_refused result ≡ place_refused read
refused_alike seen (Ok x) read e = sym (ap (λ r. place_refused r) e)
refused_alike seen (Err place) read e = sym (ap (λ r. place_refused r) e)
