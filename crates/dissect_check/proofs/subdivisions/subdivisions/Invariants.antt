use Rattle.std.proofs.Common.{◌≡◌, None}
use Rattle.theory_addresses.specs.Search.{unless, first_below}
use Rattle.theory_edge_to_edge.specs.EdgeTypes.{is_mirrored}
use Rattle.rule_model.specs.Views.{rule_of}
use Rattle.dissect_check.specs.declared.check_fault.CheckFault.TheVariants.{BadSubdivision}
use Rattle.dissect_check.proofs.subdivisions.subdivisions.Given as goal

abbrev pub invariant-loop-ty : goal.invariant-loop-ty
invariant-loop-ty l = first_below (λ ty. unless (is_mirrored (rule_of l.rule) ty) (BadSubdivision ty)) l.ty ≡ None
