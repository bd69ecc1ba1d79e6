use Rattle.transducer_core.proofs.Refilled.{in_place}
use Rattle.transducer_core.proofs.transducer.Transducer.step_across_in_place.Goals as goal

pub returns-clause-crossing : goal.returns-clause-crossing
returns-clause-crossing g c =
    in_place c.args.self.now c.args.addr.now c.as_mut_slice-digits.result.now c.args.edge c.step_across_digits.result
    c.step_across_digits.new.kind c.step_across_digits.new.digits c.as_mut_slice-digits.ensures.value c.step_across_digits.auto.digits
    c.step_across_digits.ensures.crossing c.step_across_digits.ensures.unchanged
