-- The keys of a table, as its map lists them.
use Rattle.std.proofs.Common.{◌≡◌, ℕ, ◌<◌, ◌≤◌, List, Bool, true, false, length, get_or, drop, [], ◌∷◌, ◌&&◌, ◌||◌, map, String, Global, string_bytes, refl, ap}
use Rattle.std.specs.List.{list_all, list_any}
use Rattle.std.specs.Map.{keys_of}
use Rattle.std.proofs.lemmas.List.{drop_more, drop_all}
use Rattle.toml.specs.declared.value.Value.{Value}
use Rattle.toml.specs.View.{members_view}
use Rattle.rule_text.specs.Steps.{is_key_among, has_only}

pub has_only-keys : (names : List (List ℕ)) (es : List (String Global × Value))
    → list_all (λ k. is_key_among names (string_bytes k)) (keys_of es) ≡ has_only names (members_view es)
has_only-keys names [] = refl
has_only-keys names (e ∷ es) = ap (λ b. is_key_among names (string_bytes e.0) && b) (has_only-keys names es)

pub list_any-map : {A B : Type 0} (p : B → Bool) (f : A → B) (xs : List A) → list_any p (map f xs) ≡ list_any (λ x. p (f x)) xs
list_any-map p f [] = refl
list_any-map p f (x ∷ xs) = ap (λ b. p (f x) || b) (list_any-map p f xs)

-- the item at number i passes; none does from there on
pub list_any-here : {A : Type 0} (p : A → Bool) (xs : List A) (i : ℕ) (d : A) → i < length xs
    → p (get_or xs i d) ≡ true → list_any p (drop i xs) ≡ true
list_any-here p xs i d lt h = rw (drop_more xs i d lt, h) refl

pub list_any-past : {A : Type 0} (p : A → Bool) (xs : List A) (i : ℕ) → length xs ≤ i → list_any p (drop i xs) ≡ false
list_any-past p xs i le = rw (drop_all i xs le) refl
