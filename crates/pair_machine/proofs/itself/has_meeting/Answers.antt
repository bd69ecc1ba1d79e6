use Rattle.std.proofs.Common.{arith, refl}
use Rattle.theory_addresses.proofs.TableBounds.{contact_bounds}
use Rattle.pair_machine.specs.Itself.{HasMeeting}
use Rattle.pair_machine.proofs.itself.has_meeting.Goals as goal

pub returns : goal.returns
returns c =
    let none : HasMeeting c.args.tables.now c.args.kind → ⊥ = λ w.
    let bounds = contact_bounds c.args.tables.now c.args.kind w.child w.itself.edge (rw w.itself.is refl) in
    c.loop-child.invariant w.child (omega (
      arith,
      bounds.1,
      c.requires.coherent.contacts_each c.args.kind,
      c.children-child-end.ensures.count,
    )) w.itself in
    (λ h. absurd cc, λ w. absurd (none w))
