use Rattle.theory_walks.proofs.Brought.{Brings, brought}
use Rattle.list_verify.specs.ListLaws.{HasListLaws}
use Rattle.list_verify.proofs.list_laws.walk_laws.Goals as goal

pub returns : goal.returns
returns c =
    let B : Brings HasListLaws c.args.machine.now = brought HasListLaws c.args.machine.now _ _ _ c.checked-checked.ensures.rule
    c.checked-checked.ensures.accepted c.checked-checked.ensures.usable
    c.checked-checked.ensures.same_child_kinds
    c.uses.ensures c.kinds-usable.ensures.limits c.order.ensures.order c.list_laws.ensures c.grown_fits_law.ensures in
    record {
      accepted = B.settled.accepted;
      usable = B.settled.usable;
      same_child_kinds = B.settled.same_child_kinds;
      still_fits = λ base start n h. B.fits base start n h;
      laws = B.laws;
    }
