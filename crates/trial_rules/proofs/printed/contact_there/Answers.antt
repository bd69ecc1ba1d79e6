use Rattle.std.proofs.Common.{arith}
use Rattle.theory_addresses.proofs.Mated.{contact_exists}
use Rattle.trial_rules.proofs.printed.contact_there.Goals as goal

pub child_kind-own-requires : goal.child_kind-own-requires
child_kind-own-requires g c = record {
  exists = (c.children.ensures.exist c.args.here.child).1 (omega arith);
}

pub contact-requires : goal.contact-requires
contact-requires g c = record {
  exists = contact_exists c.args.tables.now c.args.kind c.args.here.child c.child_kind-own.result c.args.here.edge
      c.kinds.ensures.coherent c.child_kind-own.ensures ((c.edges.ensures.exist c.args.here.edge).1 (omega arith));
}
