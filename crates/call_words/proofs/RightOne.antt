-- A word is right as its key says, and adds one value.
use Rattle.std.proofs.Common.{◌≡◌, ℕ, Bool, true, false, cond, not, ◌&&◌, List, [], ◌∷◌, ◌++◌, length, Some, None, is_some, nat_lt, refl, sym, ap, ◌∙◌, subst}
use Rattle.std.specs.declared.option.Option.{Option}
use Rattle.std.specs.List.{find, before_first, after_first, position_or_len}
use Rattle.std.specs.Option.{option_map_or}
use Rattle.std.specs.Str.{bytes_eq}
use Rattle.std.proofs.lemmas.Slice.Eq.{bytes_eq-Decides}
use Rattle.call_words.specs.declared.words.Command.{Command}
use Rattle.call_words.specs.declared.words.Key.{Key}
use Rattle.call_words.specs.Commands.{key_text, keys_of, has_form}
use Rattle.call_words.specs.Reading.{HaveForms, has_value, with_value}
use Rattle.call_words.specs.Values.{Values, values_given}
use Rattle.call_words.specs.Words.{is_equals, value_in, value_given, is_right}
use Rattle.std.proofs.lemmas.Bool.{and_parts as both_true}
use Rattle.call_words.proofs.OneMore.{has_value-given, no_key, first_key, values-more}

-- ---- a word is right as its key says
pub right-named : (command : Command) (before : List (List ℕ)) (word : List ℕ) → nat_lt (position_or_len is_equals word) (length word) ≡ true
    → is_right command before word ≡ option_map_or
    (λ key. not (is_some (value_given key before)) && has_form command key (after_first is_equals word))
    (find (λ key. bytes_eq (before_first is_equals word) (key_text key)) (keys_of command)) false
right-named command before word has =
    first_key (λ key value. not (is_some (value_given key before)) && has_form command key value) word has (keys_of command)

pub wrong-unnamed : (command : Command) (before : List (List ℕ)) (word : List ℕ) → nat_lt (position_or_len is_equals word) (length word) ≡ false
    → is_right command before word ≡ false
wrong-unnamed command before word e =
    no_key (λ key value. not (is_some (value_given key before)) && has_form command key value) word e (keys_of command)

-- ---- what is put is right, and one value more
found_named : (test : Key → Bool) (keys : List Key) (key : Key) → find test keys ≡ Some key → test key ≡ true
found_named test [] key e = absurd (cc e)
found_named test (k ∷ ks) key e = at_test (test k) refl e (found_named test ks key)
  where
    some_is : Some k ≡ Some key → k ≡ key
    some_is f = cc

    at_test : (b : Bool) → test k ≡ b → cond b (Some k) (find test ks) ≡ Some key → (find test ks ≡ Some key → test key ≡ true) → test key ≡ true
    at_test true f g rest = subst (λ j. test j ≡ true) (some_is g) f
    at_test false f g rest = rest g

is_none : (o : Option (List ℕ)) → not (is_some o) ≡ true → o ≡ None
is_none None e = refl
is_none (Some v) e = absurd (cc e)

module _ (command : Command) (before : List (List ℕ)) (word name value : List ℕ) (key : Key)
    (has : nat_lt (position_or_len is_equals word) (length word) ≡ true) (name_is : name ≡ before_first is_equals word)
    (value_is : value ≡ after_first is_equals word) (found : find (λ k. bytes_eq name (key_text k)) (keys_of command) ≡ Some key)
    (forms : HaveForms command before) (old : Values) (old_is : old ≡ values_given before)
    (result : Bool) (right : result ≡ not (has_value key old) && has_form command key value) where
  by_value : result ≡ not (is_some (value_given key before)) && has_form command key value
  by_value = right ∙ ap (λ b. not b && has_form command key value) (ap (has_value key) old_is ∙ has_value-given command before forms key)

  pub put-right : result ≡ is_right command before word
  put-right =
      by_value ∙ ap (λ v. not (is_some (value_given key before)) && has_form command key v) value_is
      ∙ sym (right-named command before word has ∙ ap (λ o. option_map_or
      (λ k. not (is_some (value_given k before)) && has_form command k (after_first is_equals word)) o false)
      (ap (λ n. find (λ k. bytes_eq n (key_text k)) (keys_of command)) (sym name_is) ∙ found))

  named_so : bytes_eq name (key_text key) ≡ true
  named_so = found_named (λ k. bytes_eq name (key_text k)) (keys_of command) key found

  gives : value_in key word ≡ Some value
  gives =
      ap (λ b. cond (b && bytes_eq (before_first is_equals word) (key_text key)) (Some (after_first is_equals word)) None) has
      ∙ ap (λ n. cond (bytes_eq n (key_text key)) (Some (after_first is_equals word)) None) (sym name_is)
      ∙ ap (λ b. cond b (Some (after_first is_equals word)) None) named_so ∙ ap (λ v. Some v) (sym value_is)

  pub put-more : (new : Values) → (result ≡ true → new ≡ with_value key value old) → result ≡ true → new ≡ values_given (before ++ word ∷ [])
  put-more new put e =
      put e ∙ ap (with_value key value) old_is
      ∙ values-more key value before word gives (sym name_is ∙ (bytes_eq-Decides _ _).0 named_so)
      (is_none (value_given key before) (both_true _ _ (sym by_value ∙ e)).0)
