-- What is refused for want of memory alone.
use Rattle.std.proofs.Common.{◌≡◌, ◌⊎◌, inl, inr, Result, Ok, Err, OnOk, refl, ap, ◌∙◌}
use Rattle.std.specs.Result.{IsOk, IsErrAnd}
use Rattle.window_cover.specs.declared.cover_fault.CoverFault.{CoverFault}
use Rattle.window_cover.specs.declared.cover_fault.CoverFault.TheVariants.{NoMemory}

-- what a call refuses for want of memory alone is handed on as it is
pub no_memory-on : {U V : Type 0} (r : Result U CoverFault) (s : Result V CoverFault) (fault : CoverFault)
    → r ≡ Err fault → IsErrAnd s (λ e. e ≡ fault)
    → (r ≡ Err NoMemory) ⊎ IsOk r → (s ≡ Err NoMemory) ⊎ IsOk s
no_memory-on r (Ok y) fault is h why = inr refl
no_memory-on (Ok x) (Err e) fault is h why = cc
no_memory-on (Err x) (Err e) fault is h (inl none) = let one : fault ≡ NoMemory = cc in inl (ap (λ y. Err y) (h ∙ one))
no_memory-on (Err x) (Err e) fault is h (inr k) = cc

-- the only fault is want of memory
pub only_memory : {V : Type 0} (s : Result V CoverFault) → IsErrAnd s (λ e. e ≡ NoMemory) → (s ≡ Err NoMemory) ⊎ IsOk s
only_memory (Ok y) why = inr refl
only_memory (Err e) why = inl (ap (λ y. Err y) why)

pub on_ok-is : {T E : Type 0} (P : Type 0) (r : Result T E) → IsOk r → OnOk r P → P
on_ok-is P (Ok x) h p = p
on_ok-is P (Err e) h p = cc

pub on_ok-both : {T E : Type 0} (P Q : Type 0) (r : Result T E) → OnOk r P → OnOk r Q → OnOk r (P × Q)
on_ok-both P Q (Ok x) p q = (p, q)
on_ok-both P Q (Err e) p q = tt
