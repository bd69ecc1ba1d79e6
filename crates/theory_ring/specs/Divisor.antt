-- Numbers that divide an integer.
use Rattle.std.specs.Prelude.{◌≡◌, ℕ, suc, pos}
use Rattle.std.specs.declared.cmp.Ordering.TheVariants.{Greater}
use Rattle.theory_ring.specs.Sign.{Signed}

-- each positive number divides some integer of at least 1, so the denominators of fractions over the ring can
-- be integers
abbrev pub DividesWhole : Signed → Type 0
DividesWhole S = (x : S.ops.carrier) → S.sign x ≡ Greater
    → (s : S.ops.carrier) × (n : ℕ) × (S.ops.mul s x ≡ S.ops.int (pos (suc n)))
