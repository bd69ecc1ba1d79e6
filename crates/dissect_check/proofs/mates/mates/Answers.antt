use Rattle.std.proofs.Common.{arith, length}
use Rattle.std.proofs.lemmas.Bool.Decides.{nat_tests}
use Rattle.theory_addresses.specs.Search.{unless}
use Rattle.theory_edge_to_edge.specs.EdgeTypes.{mates_back}
use Rattle.rule_model.specs.Views.{rule_of}
use Rattle.dissect_check.specs.declared.check_fault.CheckFault.TheVariants.{BadMate}
use Rattle.theory_addresses.proofs.Searches.{first_below-stop}
use Rattle.dissect_check.proofs.mates.mates.Goals as goal

pub returns-then-mate-ty : goal.returns-then-mate-ty
returns-then-mate-ty c =
    let r = rule_of c.args.rule.now in
    first_below-stop (λ ty. unless (mates_back r ty) (BadMate ty)) c.loop-ty.ty (length r.types)
    (BadMate c.loop-ty.ty) c.loop-ty.invariant (grind (arith, nat_tests)) (omega arith)
