-- Words that are right give each key a value of its form.
use Rattle.std.proofs.Common.{◌≡◌, ℕ, Bool, true, false, cond, not, ◌&&◌, ◌||◌, List, [], ◌∷◌, ◌++◌, length, codes, Some, None, is_some, nat_lt, refl, sym, ap, ap₂, ◌∙◌, subst}
use Rattle.std.specs.declared.option.Option.{Option}
use Rattle.std.specs.List.{list_any, before_first, after_first, position_or_len}
use Rattle.std.specs.Option.{option_map_or}
use Rattle.std.specs.Str.{bytes_eq}
use Rattle.std.proofs.lemmas.Slice.Eq.{bytes_eq-Decides}
use Rattle.call_words.specs.declared.words.Command.{Command}
use Rattle.call_words.specs.declared.words.Command.TheVariants.{Place, Neighbour, Walk, Draw, Check, Calc, Drill, Star, Verify}
use Rattle.call_words.specs.declared.words.Key.{Key}
use Rattle.call_words.specs.declared.words.Key.TheVariants.{Rule, Addr, Edge, Seed, Grow, Path, At, Half, Layers, Glue, Count, Vertex}
use Rattle.call_words.specs.Commands.{key_text, command_named, keys_of, has_form}
use Rattle.call_words.specs.Reading.{HaveForms}
use Rattle.call_words.specs.Words.{is_equals, value_in, value_given, is_right}
use Rattle.std.proofs.lemmas.Bool.{and_parts as both_true}

-- ---- what is given among more words
pub value_given-append : (key : Key) (before : List (List ℕ)) (word : List ℕ)
    → value_given key (before ++ word ∷ []) ≡ option_map_or Some (value_given key before) (value_in key word)
value_given-append key [] word = at_value (value_in key word)
  where
    at_value : (o : Option (List ℕ)) → option_map_or Some o None ≡ o
    at_value None = refl
    at_value (Some v) = refl
value_given-append key (w ∷ ws) word = at_value (value_in key w) (value_given-append key ws word)
  where
    at_value : (o : Option (List ℕ)) → value_given key (ws ++ word ∷ []) ≡ option_map_or Some (value_given key ws) (value_in key word)
        → option_map_or Some o (value_given key (ws ++ word ∷ [])) ≡ option_map_or Some
        (option_map_or Some o (value_given key ws)) (value_in key word)
    at_value None e = e
    at_value (Some v) e = refl

-- ---- the cases of the tests
pub value_name : (key : Key) (word value : List ℕ) → value_in key word ≡ Some value → before_first is_equals word ≡ key_text key
value_name key word value e = at_test (nat_lt (position_or_len is_equals word) (length word)
    && bytes_eq (before_first is_equals word) (key_text key)) refl e
  where
    at_test : (b : Bool) → nat_lt (position_or_len is_equals word) (length word) && bytes_eq (before_first is_equals word) (key_text key) ≡ b
        → cond b (Some (after_first is_equals word)) None ≡ Some value → before_first is_equals word ≡ key_text key
    at_test true f g = (bytes_eq-Decides _ _).0 (both_true _ _ f).1
    at_test false f g = absurd (cc g)

-- ---- the name of a key tells the key
key_of_text : List ℕ → Option Key
key_of_text text =
    cond (bytes_eq text (codes "rule")) (Some Rule) (cond (bytes_eq text (codes "addr")) (Some Addr) (cond (bytes_eq text (codes "edge")) (Some Edge)
    (cond (bytes_eq text (codes "seed")) (Some Seed) (cond (bytes_eq text (codes "grow")) (Some Grow) (cond (bytes_eq text (codes "path")) (Some Path)
    (cond (bytes_eq text (codes "at")) (Some At) (cond (bytes_eq text (codes "half")) (Some Half) (cond (bytes_eq text (codes "layers")) (Some Layers)
    (cond (bytes_eq text (codes "glue")) (Some Glue)
    (cond (bytes_eq text (codes "n")) (Some Count)
    (cond (bytes_eq text (codes "vertex")) (Some Vertex) None)))))))))))

pub key_text-tells : (j k : Key) → key_text j ≡ key_text k → j ≡ k
unfolding key_of_text
key_text-tells j k e = some_is j k (sym (named j) ∙ ap key_of_text e ∙ named k)
  where
    named : (k : Key) → key_of_text (key_text k) ≡ Some k
    named Rule = refl
    named Addr = refl
    named Edge = refl
    named Seed = refl
    named Grow = refl
    named Path = refl
    named At = refl
    named Half = refl
    named Layers = refl
    named Glue = refl
    named Count = refl
    named Vertex = refl

    some_is : (j k : Key) → Some j ≡ Some k → j ≡ k
    some_is j k e = cc

-- ---- the values that are given have the forms of their keys
some_key : (test : Key → Bool) (keys : List Key) → list_any test keys ≡ true → (k : Key) × (test k ≡ true)
some_key test [] e = absurd (cc e)
some_key test (k ∷ ks) e = at_test (test k) refl e (some_key test ks)
  where
    at_test : (b : Bool) → test k ≡ b → b || list_any test ks ≡ true
        → (list_any test ks ≡ true → (j : Key) × (test j ≡ true)) → (j : Key) × (test j ≡ true)
    at_test true f g rest = (k, f)
    at_test false f g rest = rest g

-- the word that makes the test true gives the key a value of its form
form_of_value : (command : Command) (given : Bool) (key : Key) (o : Option (List ℕ))
    → option_map_or (λ v. not given && has_form command key v) o false ≡ true → (v : List ℕ) × (o ≡ Some v)
    × (has_form command key v ≡ true)
form_of_value command given key None e = absurd (cc e)
form_of_value command given key (Some v) e = (v, refl, (both_true _ _ e).1)

pub have_forms : (command : Command) (before : List (List ℕ)) (word : List ℕ) → HaveForms command before
    → is_right command before word ≡ true → HaveForms command (before ++ word ∷ [])
have_forms command before word h r key value e = at_value (value_given key before) refl (sym (value_given-append key before word) ∙ e)
  where
    some_value_is : (u v : List ℕ) → Some u ≡ Some v → u ≡ v
    some_value_is u v f = cc

    from_word : (k : Key) (v : List ℕ) → value_in k word ≡ Some v → has_form command k v ≡ true
        → value_in key word ≡ Some value → has_form command key value ≡ true
    from_word k v f g i =
        let same : k ≡ key = key_text-tells k key (sym (value_name k word v f) ∙ value_name key word value i) in
        let at_key : value_in key word ≡ Some v = subst (λ j. value_in j word ≡ Some v) same f in
        ap₂ (has_form command) (sym same) (some_value_is value v (sym i ∙ at_key)) ∙ g

    at_value : (o : Option (List ℕ)) → value_given key before ≡ o
        → option_map_or Some o (value_in key word) ≡ Some value → has_form command key value ≡ true
    at_value (Some v) f g = h key value (f ∙ g)
    at_value None f g =
        let k = some_key (λ j. option_map_or (λ v. not (is_some (value_given j before))
        && has_form command j v) (value_in j word) false) (keys_of command) r in
        let v = form_of_value command (is_some (value_given k.0 before)) k.0 (value_in k.0 word) k.1 in
        from_word k.0 v.0 v.1 v.2 g

-- a command's name gives nothing
pub name_gives_none : (name : List ℕ) (command : Command) → command_named name ≡ Some command → (key : Key) → value_given key (name ∷ []) ≡ None
name_gives_none name command e key =
    at (codes "place") Place _ refl (at (codes "neighbour") Neighbour _ refl (at (codes "walk") Walk _ refl (at (codes "draw") Draw _ refl
    (at (codes "check") Check _ refl (at (codes "calc") Calc _ refl (at (codes "drill") Drill _ refl (at (codes "star") Star _ refl
    (at (codes "verify") Verify None refl (λ h. absurd (cc h)))))))))) e
  where
    at : (w : List ℕ) (c : Command) (rest : Option Command) → value_given key (w ∷ []) ≡ None
        → (rest ≡ Some command → value_given key (name ∷ []) ≡ None)
        → cond (bytes_eq name w) (Some c) rest ≡ Some command → value_given key (name ∷ []) ≡ None
    at w c rest none go h = of (bytes_eq name w) refl h
      where
        of : (b : Bool) → bytes_eq name w ≡ b → cond b (Some c) rest ≡ Some command → value_given key (name ∷ []) ≡ None
        of true f k = let same : name ≡ w = (bytes_eq-Decides _ _).0 f in ap (λ v. value_given key (v ∷ [])) same ∙ none
        of false f k = go k

pub name_gives_nothing : (name : List ℕ) (command : Command) → command_named name ≡ Some command → HaveForms command (name ∷ [])
name_gives_nothing name command e key value g = absurd (cc (sym (name_gives_none name command e key) ∙ g))
