use Rattle.window_cover.proofs.Reached.{held-seen}
use Rattle.window_cover.proofs.runs.Runs.fields.Goals as goal

pub returns-then-fit : goal.returns-then-fit
returns-then-fit c = record {
  fields = c.in_ok-fields-2.ensures.fields;
  fit = c.fit.ensures c.if-fit.true;
  held = held-seen c.args.self.now c.requires.runs c.in_ok-fields.field-0 c.in_ok-shifts.field-0 c.in_ok-fields-2.fields c.in_ok-fields.ensures.hold
      c.in_ok-shifts.ensures.hold c.in_ok-fields-2.ensures.held;
}
