use Rattle.std.proofs.Common.{arith}
use Rattle.theory_addresses.proofs.Mated
use Rattle.trial_rules.proofs.agreement.same_contact.Goals as goal

pub contact-requires : goal.contact-requires
contact-requires g c = record {
  exists = rw c.requires.same (Mated.contact_exists c.args.tables.now c.args.child.parent c.args.child.child
      c.child_kind-kind.result c.args.edge c.kinds.ensures.coherent c.child_kind-kind.ensures
      ((c.edges.ensures.exist c.args.edge).1 (omega arith)));
}
