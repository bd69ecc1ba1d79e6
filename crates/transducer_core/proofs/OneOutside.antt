-- A crossing has one answer: a tile across, or one edge of the supertile and one part of it.
use Rattle.std.proofs.Common.{◌≡◌, ℕ, Result, Ok, Err, ap}
use Rattle.transducer_core.specs.declared.outside.Outside.{Outside}

-- what has an answer is no refusal
pub ok_or_err : {A B : Type 0} (o : Result A B) (x : A) (y : B) → o ≡ Ok x → o ≡ Err y → ⊥
ok_or_err o x y e f = absurd (cc (e, f))

err_is : {A : Type 0} (x : Result A Outside) (o u : Outside) → x ≡ Err o → x ≡ Err u → u ≡ o
err_is x o u e f = cc

-- an edge on the boundary lies on one edge of the supertile, on one part of it
pub outside_is : {A : Type 0} (x : Result A Outside) (o : Outside) (top other : ℕ) → x ≡ Err o
    → x ≡ Err (record { edge = top; part = other }) → (top ≡ o.edge) × (other ≡ o.part)
outside_is x o top other e f = let one = err_is x o (record { edge = top; part = other }) e
    f in (ap (λ (u : Outside). u.edge) one, ap (λ (u : Outside). u.part) one)
