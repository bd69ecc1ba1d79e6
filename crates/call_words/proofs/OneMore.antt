-- One more argument: it is right as the definitions say, and adds the value of its key to those before.
use Rattle.std.proofs.Common.{◌≡◌, ℕ, Bool, true, false, cond, ◌&&◌, ◌||◌, List, [], ◌∷◌, ◌++◌, length, Some, None, is_some, nat_lt, refl, sym, ap, ◌∙◌, subst}
use Rattle.std.specs.declared.option.Option.{Option}
use Rattle.std.specs.List.{list_any, find, before_first, after_first, position_or_len}
use Rattle.std.specs.Option.{option_map_or}
use Rattle.std.specs.Str.{bytes_eq}
use Rattle.std.proofs.lemmas.Slice.Eq.{bytes_eq-Decides}
use Rattle.call_words.specs.declared.words.Command.{Command}
use Rattle.call_words.specs.declared.words.Key.{Key}
use Rattle.call_words.specs.declared.words.Key.TheVariants.{Rule, Addr, Edge, Seed, Grow, Path, At, Half, Layers, Glue, Count, Vertex}
use Rattle.call_words.specs.Choices.{choice_in}
use Rattle.call_words.specs.Commands.{command_named, key_text, most_seed, windows_in, glue_in}
use Rattle.call_words.specs.FormatWords.{formats_in}
use Rattle.call_words.specs.PathWords.{path_in}
use Rattle.call_words.specs.Reading.{HaveForms, has_value, with_value}
use Rattle.call_words.specs.Values.{values_by, values_given}
use Rattle.call_words.specs.WindowWords.{at_in, half_in}
use Rattle.call_words.specs.Words.{is_equals, value_in, value_given}
use Rattle.call_words.proofs.FormedValues.{key_text-tells, value_given-append, name_gives_none}
use Rattle.call_words.proofs.RightWords.{read_or_not, rule_form}
use Rattle.tile_shape.specs.Decimal.{number_up_to}

-- ---- a key has a value where one is given
pub has_value-given : (command : Command) (words : List (List ℕ)) → HaveForms command words → (key : Key)
    → has_value key (values_given words) ≡ is_some (value_given key words)
has_value-given command words h Rule = read_or_not choice_in (value_given Rule words) (λ v e. rule_form command v (h Rule v e))
has_value-given command words h Addr = refl
has_value-given command words h Edge = read_or_not (number_up_to 255) (value_given Edge words) (h Edge)
has_value-given command words h Seed = read_or_not (number_up_to most_seed) (value_given Seed words) (h Seed)
has_value-given command words h Grow = read_or_not (number_up_to 64) (value_given Grow words) (h Grow)
has_value-given command words h Path = read_or_not path_in (value_given Path words) (h Path)
has_value-given command words h At = read_or_not at_in (value_given At words) (h At)
has_value-given command words h Half = read_or_not half_in (value_given Half words) (h Half)
has_value-given command words h Layers = read_or_not formats_in (value_given Layers words) (h Layers)
has_value-given command words h Glue = read_or_not glue_in (value_given Glue words) (h Glue)
has_value-given command words h Count = read_or_not windows_in (value_given Count words) (h Count)
has_value-given command words h Vertex = read_or_not (number_up_to 255) (value_given Vertex words) (h Vertex)

-- ---- the key of a word, found by its name
module _ (test : Key → List ℕ → Bool) (word : List ℕ) where
  abbrev gives_right : Key → Bool
  gives_right key = option_map_or (λ value. test key value) (value_in key word) false

  -- a word without `=` gives no key a value
  pub no_key : nat_lt (position_or_len is_equals word) (length word) ≡ false → (keys : List Key) → list_any gives_right keys ≡ false
  no_key e [] = refl
  no_key e (k ∷ ks) = rw e (no_key e ks)

  module _ (has : nat_lt (position_or_len is_equals word) (length word) ≡ true) where
    abbrev named : Key → Bool
    named key = bytes_eq (before_first is_equals word) (key_text key)

    at_key : (k : Key) (b : Bool) → named k ≡ b → gives_right k ≡ b && test k (after_first is_equals word)
    at_key k true e = rw has (rw e refl)
    at_key k false e = rw has (rw e refl)

    -- the others have other names
    none_else : (k : Key) → named k ≡ true → test k (after_first is_equals word) ≡ false → (ks : List Key) → list_any gives_right ks ≡ false
    none_else k is wrong [] = refl
    none_else k is wrong (j ∷ ks) = at_name (named j) refl (none_else k is wrong ks)
      where
        at_name : (b : Bool) → named j ≡ b → list_any gives_right ks ≡ false → gives_right j || list_any gives_right ks ≡ false
        at_name true e rest =
            let same : k ≡ j = key_text-tells k j (sym ((bytes_eq-Decides _ _).0 is) ∙ (bytes_eq-Decides _ _).0 e) in
            let j_wrong : test j (after_first is_equals word) ≡ false = subst (λ i. test i (after_first is_equals word) ≡ false) same wrong in
            ap (λ b. b || list_any gives_right ks) (at_key j true e ∙ j_wrong) ∙ rest
        at_name false e rest = ap (λ b. b || list_any gives_right ks) (at_key j false e) ∙ rest

    pub first_key : (keys : List Key)
        → list_any gives_right keys ≡ option_map_or (λ key. test key (after_first is_equals word)) (find named keys) false
    first_key [] = refl
    first_key (k ∷ ks) = at_name (named k) refl (first_key ks)
      where
        at_test : (b : Bool) → named k ≡ true → test k (after_first is_equals word) ≡ b → b || list_any gives_right ks ≡ b
        at_test true is e = refl
        at_test false is e = none_else k is e ks

        at_name : (b : Bool) → named k ≡ b
            → list_any gives_right ks ≡ option_map_or (λ key. test key (after_first is_equals word)) (find named ks) false
            → gives_right k || list_any gives_right ks
            ≡ option_map_or (λ key. test key (after_first is_equals word)) (cond b (Some k) (find named ks)) false
        at_name true e rest = ap (λ b. b || list_any gives_right ks) (at_key k true e) ∙ at_test (test k (after_first is_equals word)) e refl
        at_name false e rest = ap (λ b. b || list_any gives_right ks) (at_key k false e) ∙ rest

-- ---- one value more
-- the texts of the keys, and of one more key
abbrev also : Key → List ℕ → (Key → Option (List ℕ)) → Key → Option (List ℕ)
also key value texts j = cond (bytes_eq (key_text key) (key_text j)) (Some value) (texts j)

also-given : (key : Key) (value : List ℕ) (before : List (List ℕ)) (word : List ℕ) → value_in key word ≡ Some value
    → before_first is_equals word ≡ key_text key → value_given key before ≡ None
    → (j : Key) → value_given j (before ++ word ∷ []) ≡ also key value (λ i. value_given i before) j
also-given key value before word is name none j = at_name (bytes_eq (key_text key) (key_text j)) refl
  where
    last : (o : Option (List ℕ)) → option_map_or Some o None ≡ o
    last None = refl
    last (Some v) = refl

    own : value_given key (before ++ word ∷ []) ≡ Some value
    own = value_given-append key before word ∙ ap (λ o. option_map_or Some o (value_in key word)) none ∙ is

    nothing : (b : Bool) → bytes_eq (before_first is_equals word) (key_text j) ≡ false
        → cond (b && bytes_eq (before_first is_equals word) (key_text j)) (Some (after_first is_equals word)) None ≡ None
    nothing true e = rw e refl
    nothing false e = refl

    at_name : (b : Bool) → bytes_eq (key_text key) (key_text j) ≡ b
        → value_given j (before ++ word ∷ []) ≡ cond b (Some value) (value_given j before)
    at_name true e =
        let same : key ≡ j = key_text-tells key j ((bytes_eq-Decides _ _).0 e) in
        subst (λ i. value_given i (before ++ word ∷ []) ≡ Some value) same own
    at_name false e =
        let other : value_in j word ≡ None = nothing (nat_lt (position_or_len is_equals word) (length word))
        (ap (λ n. bytes_eq n (key_text j)) name ∙ e) in
        value_given-append j before word ∙ ap (λ o. option_map_or Some (value_given j before) o) other ∙ last (value_given j before)

-- values of the same texts are the same
values_by-same : (g h : Key → Option (List ℕ)) → ((key : Key) → g key ≡ h key) → values_by g ≡ values_by h
values_by-same g h e =
    let e1 = e Rule in
    let e2 = e Addr in
    let e3 = e Edge in
    let e4 = e Seed in
    let e5 = e Grow in
    let e6 = e Path in
    let e7 = e At in
    let e8 = e Half in
    let e9 = e Layers in
    let e10 = e Glue in
    let e11 = e Count in
    let e12 = e Vertex in
    cc

values_by-also : (key : Key) (value : List ℕ) (texts : Key → Option (List ℕ))
    → values_by (also key value texts) ≡ with_value key value (values_by texts)
values_by-also Rule value texts = refl
values_by-also Addr value texts = refl
values_by-also Edge value texts = refl
values_by-also Seed value texts = refl
values_by-also Grow value texts = refl
values_by-also Path value texts = refl
values_by-also At value texts = refl
values_by-also Half value texts = refl
values_by-also Layers value texts = refl
values_by-also Glue value texts = refl
values_by-also Count value texts = refl
values_by-also Vertex value texts = refl

pub values-more : (key : Key) (value : List ℕ) (before : List (List ℕ)) (word : List ℕ) → value_in key word ≡ Some value
    → before_first is_equals word ≡ key_text key → value_given key before ≡ None
    → with_value key value (values_given before) ≡ values_given (before ++ word ∷ [])
values-more key value before word is name none =
    sym (values_by-same (λ j. value_given j (before ++ word ∷ []))
    (also key value (λ j. value_given j before)) (also-given key value before word is name none)
    ∙ values_by-also key value (λ j. value_given j before))

-- the name of a command gives no value
pub values-named : (name : List ℕ) (command : Command) → command_named name ≡ Some command → values_given [] ≡ values_given (name ∷ [])
values-named name command e = values_by-same (λ key. None) (λ key. value_given key (name ∷ [])) (λ key. sym (name_gives_none name command e key))
