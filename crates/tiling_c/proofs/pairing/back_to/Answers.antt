use Rattle.std.proofs.Common.{inl, inr, refl, sym, ◌∙◌}
use Rattle.tiling_c.proofs.pairing.back_to.Goals as goal

pub returns-then-are_same-clause-across : goal.returns-then-are_same-clause-across
returns-then-are_same-clause-across c = rw c.in-Ok.is (inl (c.are_same.ensures.0 c.if-are_same.true, refl))

pub returns-else-are_same-clause-across : goal.returns-else-are_same-clause-across
returns-else-are_same-clause-across c =
    rw c.in-Ok.is (inr (λ e. absurd (cc (sym c.if-are_same.false ∙ c.are_same.ensures.1 e)), refl))
