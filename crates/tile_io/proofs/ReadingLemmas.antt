-- Pieces read one after the other, up to a refusal.
use Rattle.std.proofs.Common.{◌≡◌, ℕ, ◌+◌, ◌≤◌, List, ◌++◌, length, Ok, Err, IfErr, IsErrAnd, length-append, sym, subst, ◌∙◌, refl, arith, rules}
use Rattle.std.specs.declared.option.Option.{Option}
use Rattle.std.specs.declared.result.Result.{Result}
use Rattle.tile_io.proofs.LeftLemmas.{given_in_turn}
use Rattle.tile_io.specs.Left.{Gives}
use Rattle.tile_io.specs.ReadingAll.{GivesPart}
use Rattle.tile_io.specs.declared.read_all_fault.ReadAllFault.TheVariants.{TooLong, NoMemory}

-- one byte too many was read
pub one_over : (a b c : Option (List ℕ)) (xs ys : List ℕ) (most : ℕ) → Gives a b xs → Gives b c ys
    → length xs + length ys ≡ most + 1 → GivesPart a c most TooLong
one_over a b c xs ys most h k l =
    let e : length (xs ++ ys) ≡ most + 1 = length-append xs ys ∙ l in
    (xs ++ ys, given_in_turn a b c xs ys h k, omega (arith, e), ((λ _. e), (λ _. refl)))

-- the bytes read aren't too many, and no memory is there for them
pub no_memory : (a b c : Option (List ℕ)) (xs ys : List ℕ) (most : ℕ) → Gives a b xs → Gives b c ys
    → length xs + length ys ≤ most → GivesPart a c most NoMemory
no_memory a b c xs ys most h k l =
    let e = length-append xs ys in
    (xs ++ ys, given_in_turn a b c xs ys h k, omega (arith, e, l), ((λ same. absurd (search rules)), (λ long. absurd (omega (arith, e, l, long)))))

-- what an error that is known says
pub at_error : {T E : Type 0} (r : Result T E) (e : E) (P : E → Type 0) → IsErrAnd r (λ fault. fault ≡ e) → P e → IfErr r P
at_error (Ok x) e P h p = tt
at_error (Err fault) e P h p = subst P (sym h) p
