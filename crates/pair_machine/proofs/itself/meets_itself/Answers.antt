use Rattle.std.proofs.Common.{arith, refl}
use Rattle.theory_addresses.proofs.Mated.{contact_exists}
use Rattle.theory_addresses.proofs.TableBounds.{contact_bounds}
use Rattle.pair_machine.specs.Itself.{MeetsItself}
use Rattle.pair_machine.proofs.itself.meets_itself.Goals as goal

pub contact-requires : goal.contact-requires
contact-requires c = record {
  exists = contact_exists c.args.tables.now c.args.kind c.args.child c.child_kind.result c.loop-edge.edge c.requires.coherent c.child_kind.ensures
      ((c.edges-edge-end.ensures.exist c.loop-edge.edge).1 c.loop-edge-test.true);
}

pub returns : goal.returns
returns c =
    let none : MeetsItself c.args.tables.now c.args.kind c.args.child → ⊥ = λ w.
    let bounds = contact_bounds c.args.tables.now c.args.kind c.args.child w.edge (rw w.is refl) in
    let each = c.requires.coherent.contact_each c.args.kind c.args.child c.child_kind.result c.child_kind.ensures in
    c.loop-edge.invariant w.edge w.back (omega (arith, bounds.2, each, c.edges-edge-end.ensures.count)) w.is in
    (λ h. absurd cc, λ w. absurd (none w))
