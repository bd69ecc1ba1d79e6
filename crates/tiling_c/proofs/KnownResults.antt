-- What is so of a result that is known.
use Rattle.std.proofs.Common.{◌≡◌, ℕ, List, Some, Ok, Err, IfOk, MatchResult, subst}
use Rattle.std.specs.declared.result.Result.{Result}

pub some_is : (x y : List ℕ) → Some x ≡ Some y → x ≡ y
some_is x y e = cc

-- what holds if a call is answered holds of its answer
pub at_ok : {T E : Type 0} (P : T → Type 0) (r : Result T E) (x : T) → r ≡ Ok x → IfOk r P → P x
at_ok P r x e h = subst (λ s. IfOk s P) e h

-- what cases say of it
pub told_of_ok : {T E : Type 0} (P : T → Type 0) (Q : E → Type 0) (r : Result T E) (x : T) → r ≡ Ok x → MatchResult r P Q → P x
told_of_ok P Q r x e h = subst (λ s. MatchResult s P Q) e h

pub told_of_err : {T E : Type 0} (P : T → Type 0) (U : Type 0) (Q : E → Type 0) (r : Result T E) (x : E) → r ≡ Err x
    → MatchResult r P (λ e. (¬ U) × Q e) → ¬ U
told_of_err P U Q r x e h = (subst (λ s. MatchResult s P (λ f. (¬ U) × Q f)) e h).0
