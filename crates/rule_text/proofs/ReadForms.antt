-- The values that a rule is written as have the forms of their keys.
use Rattle.std.proofs.Common.{◌≡◌, ◌∙◌, ℕ, suc, ℤ, pos, List, [], ◌∷◌, All, length, map, Option, Some, eq-eqb, refl, ap, arith}
use Rattle.toml.specs.Data.{Data, integer, Members, as_integer, as_table, table}
use Rattle.rule_text.specs.Forms.{each, integer_list, row, rows, tables}
use Rattle.rule_text.specs.Written.{number_data, list_data}
use Rattle.rule_text.proofs.Items.{list_of-items_of}

pub each-onto : {A B C : Type 0} (f : A → Option B) (g : C → A) (h : C → B) (xs : List C)
    → All (λ x. f (g x) ≡ Some (h x)) xs → each f (map g xs) ≡ Some (map h xs)
each-onto f g h [] all = refl
each-onto f g h (x ∷ xs) all = rw (all 0 x (omega arith), each-onto f g h xs (λ k d lt. all (suc k) d (omega (arith, lt)))) refl

pub each-same : {A B : Type 0} (f : A → Option B) (g : B → A) (xs : List B) → All (λ x. f (g x) ≡ Some x) xs → each f (map g xs) ≡ Some xs
each-same f g [] all = refl
each-same f g (x ∷ xs) all = rw (all 0 x (omega arith), each-same f g xs (λ k d lt. all (suc k) d (omega (arith, lt)))) refl

pub numbers-read : (ns : List ℕ) → integer_list (list_data number_data ns) ≡ Some (map pos ns)
numbers-read ns = ap (each as_integer) (list_of-items_of (map number_data ns)) ∙ each-onto as_integer number_data pos ns (λ k d lt. refl)

pub integers-read : (zs : List ℤ) → integer_list (list_data integer zs) ≡ Some zs
integers-read zs = ap (each as_integer) (list_of-items_of (map integer zs)) ∙ each-same as_integer integer zs (λ k d lt. refl)

pub row-read : (n : ℕ) (zs : List ℤ) → length zs ≡ n → row n (list_data integer zs) ≡ Some zs
row-read n zs e = rw (integers-read zs, eq-eqb (length zs) n e) refl

pub rows-read : {A : Type 0} (n : ℕ) (data_of : A → Data) (numbers : A → List ℤ) (xs : List A)
    → All (λ x. row n (data_of x) ≡ Some (numbers x)) xs
    → rows n (list_data data_of xs) ≡ Some (map numbers xs)
rows-read n data_of numbers xs all = ap (each (row n)) (list_of-items_of (map data_of xs)) ∙ each-onto (row n) data_of numbers xs all

pub tables-read : {A : Type 0} (members : A → Members) (xs : List A) → tables (list_data (λ x. table (members x)) xs) ≡ Some (map members xs)
tables-read members xs =
    ap (each as_table) (list_of-items_of (map (λ x. table (members x)) xs)) ∙ each-onto as_table (λ x. table (members x)) members xs (λ k d lt. refl)
