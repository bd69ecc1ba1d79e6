-- The first refused value among more values.
use Rattle.std.proofs.Common.{◌≡◌, Bool, cond, List, [], ◌∷◌, ◌++◌, find, Option, Some, None, ap, ◌∙◌}
use Rattle.std.specs.Option.{option_or}
use Rattle.std.proofs.lemmas.List.Folds.{find-append}

-- where none of the first values passes, the one behind them decides
pub find-append_none : {A : Type 0} (test : A → Bool) (xs : List A) (x : A) → find test xs ≡ None
    → find test (xs ++ x ∷ []) ≡ cond (test x) (Some x) None
find-append_none {A} test xs x e = find-append test xs (x ∷ []) ∙ ap (λ (o : Option A). option_or o (cond (test x) (Some x) None)) e

-- what is found stays the first
pub find-append_found : {A : Type 0} (test : A → Bool) (xs ys : List A) (v : A) → find test xs ≡ Some v → find test (xs ++ ys) ≡ Some v
find-append_found {A} test xs ys v e = find-append test xs ys ∙ ap (λ (o : Option A). option_or o (find test ys)) e
