use Rattle.std.proofs.Common.{arith}
use Rattle.std.proofs.lemmas.Grind.{common_steps}
use Rattle.rule_model.specs.Tiling.{tiling_of, contacts}
use Rattle.transducer_core.proofs.Refilled.{in_place}
use Rattle.tile_place.proofs.machine.Machine.cross_in_place.Goals as goal

pub returns-clause-crossing : goal.returns-clause-crossing
returns-clause-crossing g c =
    in_place (contacts (tiling_of c.args.self.now)) c.args.addr.now c.as_mut_slice-digits.result.now c.args.edge c.cross_digits.result
    c.cross_digits.new.kind c.cross_digits.new.digits c.as_mut_slice-digits.ensures.value c.cross_digits.auto.digits
    c.cross_digits.ensures.crossing c.cross_digits.ensures.unchanged

pub cross_digits-requires : goal.cross_digits-requires
cross_digits-requires g c = grind (arith, common_steps)

pub returns-clause-answer_fits : goal.returns-clause-answer_fits
returns-clause-answer_fits g c = grind (arith, common_steps)

pub returns-clause-only_tile_across : goal.returns-clause-only_tile_across
returns-clause-only_tile_across g c = grind (arith, common_steps)

pub returns-clause-leads_back : goal.returns-clause-leads_back
returns-clause-leads_back g c = grind (arith, common_steps)

pub returns-clause-steps_within_bound : goal.returns-clause-steps_within_bound
returns-clause-steps_within_bound g c = grind (arith, common_steps)
