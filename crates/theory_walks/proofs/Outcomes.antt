-- What holds of an outcome that is a fault.
use Rattle.std.proofs.Common.{◌≡◌, Result, Ok, Err, IfErr, sym, subst}
use Rattle.std.specs.Result.{IsErrAnd}

-- what holds of this fault holds of the outcome
pub if_err-is : {T E : Type 0} (P : E → Type 0) (r : Result T E) (fault : E) → IsErrAnd r (λ e. e ≡ fault) → P fault → IfErr r P
if_err-is P (Ok x) fault h p = tt
if_err-is P (Err e) fault h p = subst P (sym h) p
