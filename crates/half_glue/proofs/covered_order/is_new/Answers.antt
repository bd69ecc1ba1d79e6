use Rattle.half_glue.proofs.Keyed.{is_new-first, is_new-behind}
use Rattle.half_glue.proofs.covered_order.is_new.Goals as goal

pub returns-then-place-eq0 : goal.returns-then-place-eq0
returns-then-place-eq0 c = is_new-first c.args.keys.now c.args.place c.if-place-eq0.true

pub returns : goal.returns
returns c = is_new-behind c.args.keys.now c.args.place c.is_level.result c.if-place-eq0.false c.is_level.ensures
