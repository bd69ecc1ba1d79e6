use Rattle.std.proofs.Common.{arith}
use Rattle.theory_addresses.proofs.TableBounds
use Rattle.trial_rules.proofs.agreement.same_part.Goals as goal

pub part-requires : goal.part-requires
part-requires g c = record {
  exists = rw c.requires.same
      (TableBounds.part_there c.args.tables.now c.args.kind c.args.edge c.args.part
      (omega (arith, c.parts.ensures.count)));
}
