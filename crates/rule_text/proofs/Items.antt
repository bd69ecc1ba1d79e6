-- The items of an array of values.
use Rattle.std.proofs.Common.{◌≡◌, ◌∙◌, ℕ, ◌≤◌, List, length, take, [], ◌∷◌, map, Option, Some, Vec, Global, refl, sym, ap}
use Rattle.std.proofs.lemmas.List.{take_all}
use Rattle.std.proofs.lemmas.Simd.{map-map}
use Rattle.toml.specs.Data.{Data, array, as_array}
use Rattle.toml.specs.View.{view, items_of, array_view}
use Rattle.toml.specs.declared.value.Value.{Value}
use Rattle.rule_text.specs.Forms.{each, list_of, array_of}
use Rattle.rule_text.specs.Written.{list_data}

pub list_of-items_of : (ds : List Data) → list_of (items_of ds) ≡ ds
list_of-items_of [] = refl
list_of-items_of (d ∷ ds) = ap (λ xs. d ∷ xs) (list_of-items_of ds)

pub each-map : {A B C : Type 0} (f : B → Option C) (g : A → B) (xs : List A) → each f (map g xs) ≡ each (λ x. f (g x)) xs
each-map f g [] = refl
each-map f g (x ∷ xs) = rw (each-map f g xs) refl

-- an array is read item by item
pub array-read : {A : Type 0} (form : Data → Option A) (d : Data) (vs : Vec Value Global) (slice : List Value)
    → Some (array_view vs) ≡ as_array d → slice ≡ vs.items
    → each (λ v. form (view v)) slice ≡ array_of form d
array-read form d vs slice e same =
    rw (same, ← e) (sym (ap (each form) (list_of-items_of (map view vs.items)) ∙ each-map form view vs.items))

-- the values that were pushed for all of a list are those of the list
pub list_data-all : {A B C : Type 0} (seen : C → Data) (f : B → Data) (g : A → B) (xs : List A)
    (done : List C) (i : ℕ) → length xs ≤ i → map seen done ≡ map (λ x. f (g x)) (take i xs)
    → array (items_of (map seen done)) ≡ list_data f (map g xs)
list_data-all seen f g xs done i le e =
    ap (λ ds. array (items_of ds)) (e ∙ ap (map (λ x. f (g x))) (take_all i xs le) ∙ sym (map-map f g xs))
