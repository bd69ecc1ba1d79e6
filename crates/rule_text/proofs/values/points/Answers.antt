use Rattle.std.proofs.Common.{arith}
use Rattle.std.proofs.lemmas.Grind.{common_steps}
use Rattle.toml.specs.View.{view}
use Rattle.rule_text.specs.Written.{point_data, IsFour}
use Rattle.rule_text.proofs.Pushes.{map-more, All-more}
use Rattle.rule_text.proofs.values.points.Goals as goal

pub loop-p-preserved : goal.loop-p-preserved
loop-p-preserved c = record {
  values = map-more view point_data c.args.ps.now c.loop-p.p-index _ c.loop-p.values.items
      c.push.new.self.items _ c.loop-p-test.true c.in_ok-push.ensures.items c.in_ok-point.ensures.value
      c.loop-p.invariant.values;
  fours = All-more IsFour c.args.ps.now c.loop-p.p-index _ c.loop-p-test.true c.in_ok-point.ensures.fours c.loop-p.invariant.fours;
}

pub returns : goal.returns
returns c = grind (arith, common_steps)
