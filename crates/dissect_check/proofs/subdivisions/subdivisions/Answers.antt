use Rattle.std.proofs.Common.{arith, length}
use Rattle.theory_addresses.specs.Search.{unless}
use Rattle.theory_edge_to_edge.specs.EdgeTypes.{is_mirrored}
use Rattle.rule_model.specs.Views.{rule_of}
use Rattle.dissect_check.specs.declared.check_fault.CheckFault.TheVariants.{BadSubdivision}
use Rattle.theory_addresses.proofs.Searches.{first_below-stop}
use Rattle.dissect_check.proofs.subdivisions.subdivisions.Goals as goal

pub returns-then-not-is_mirrored : goal.returns-then-not-is_mirrored
returns-then-not-is_mirrored c =
    let r = rule_of c.args.rule.now in
    first_below-stop (λ ty. unless (is_mirrored r ty) (BadSubdivision ty)) c.loop-ty.ty (length r.types)
    (BadSubdivision c.loop-ty.ty) c.loop-ty.invariant (grind arith) (omega arith)
