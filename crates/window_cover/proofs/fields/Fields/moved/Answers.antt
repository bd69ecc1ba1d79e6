use Rattle.std.proofs.Common.{refl}
use Rattle.window_cover.specs.declared.fields.Fields.{Fields}
use Rattle.window_cover.proofs.Reached.{held-moved}
use Rattle.window_cover.proofs.fields.Fields.moved.Goals as goal

pub returns-clause-held : goal.returns-clause-held
returns-clause-held c =
    let moved : Fields = record {
      a0 = c.in_ok-moved.field-0;
      a1 = c.in_ok-moved-2.field-0;
      a2 = c.in_ok-moved-3.field-0;
      a3 = c.in_ok-moved-4.field-0;
      kinds = c.args.self.now.kinds;
    } in
    held-moved c.args.self.now c.args.shifts.now moved c.in_ok-moved.ensures.held c.in_ok-moved-2.ensures.held c.in_ok-moved-3.ensures.held
    c.in_ok-moved-4.ensures.held refl
