use Rattle.std.proofs.Common.{◌≡◌, ℕ, [], length, arith, subst, refl}
use Rattle.edge_tables.specs.Views.{as_contact}
use Rattle.theory_addresses.specs.Tables.{kind_tables, contacts_of}
use Rattle.theory_addresses.proofs.Mated.{contact_exists}
use Rattle.pair_machine.specs.Kept.{ArePairsKept}
use Rattle.pair_machine.proofs.Keeping.{between_upto, between_none, between_all}
use Rattle.pair_machine.proofs.Ending.{nothing_kept}
use Rattle.pair_machine.proofs.Levels.{meet_more}
use Rattle.pair_machine.proofs.partners.Partners.of_children.Goals as goal

pub loop-edge-init : goal.loop-edge-init
loop-edge-init c = rw (between_none c.args.tables.now c.args.kind c.args.mine c.args.theirs)
    (nothing_kept c.none-partners.result [] c.none-partners.ensures refl)

pub contact-requires : goal.contact-requires
contact-requires c = record {
  exists = contact_exists c.args.tables.now c.args.kind c.args.mine c.child_kind.result c.loop-edge.edge c.requires.coherent c.child_kind.ensures
      ((c.edges-edge-end.ensures.exist c.loop-edge.edge).1 c.loop-edge-test.true);
}

pub loop-edge-preserved : goal.loop-edge-preserved
loop-edge-preserved c =
    meet_more c.args.tables.now c.args.kind c.args.mine c.args.theirs c.loop-edge.edge
    (as_contact c.contact.result) c.loop-edge.partners c.keep_contact.new.self
    c.contact.ensures c.loop-edge.invariant c.keep_contact.ensures

pub returns : goal.returns
returns c =
    let each : length (contacts_of c.args.tables.now c.args.kind c.args.mine) ≡ length (kind_tables c.args.tables.now c.child_kind.result).types =
    c.requires.coherent.contact_each c.args.kind c.args.mine c.child_kind.result c.child_kind.ensures in
    let end : c.loop-edge.edge ≡ length (contacts_of c.args.tables.now c.args.kind c.args.mine) = omega
    (arith, each, c.edges-edge-end.ensures.count) in
    rw (← between_all c.args.tables.now c.args.kind c.args.mine c.args.theirs)
    (subst (λ (n : ℕ). ArePairsKept c.loop-edge.partners
    (between_upto c.args.tables.now c.args.kind c.args.mine c.args.theirs n)) end c.loop-edge.invariant)
