use Rattle.std.proofs.Common.{arith, refl}
use Rattle.theory_addresses.proofs.TableBounds.{contact_bounds}
use Rattle.pair_machine.specs.Itself.{SomeMeetsItself}
use Rattle.pair_machine.proofs.itself.some_meets_itself.Goals as goal

pub returns : goal.returns
returns c =
    let none : SomeMeetsItself c.args.tables.now → ⊥ = λ w.
    let bounds = contact_bounds c.args.tables.now w.kind w.has.child w.has.itself.edge (rw w.has.itself.is refl) in
    c.loop-kind.invariant w.kind (omega (arith, bounds.0, c.kinds-kind-end.ensures.count)) w.has in
    (λ h. absurd cc, λ w. absurd (none w))
