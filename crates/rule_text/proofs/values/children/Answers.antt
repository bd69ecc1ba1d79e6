use Rattle.std.proofs.Common.{◌∙◌}
use Rattle.std.proofs.lemmas.List.Elements.{All-map}
use Rattle.toml.specs.View.{view}
use Rattle.theory_substitution.specs.Rule.{Child as TheChild}
use Rattle.cyclo_points.specs.declared.point.Point.{Point}
use Rattle.rule_model.specs.declared.child.Child.{Child}
use Rattle.rule_model.specs.Views.{as_child}
use Rattle.rule_text.specs.Written.{child_data, IsFour}
use Rattle.rule_text.proofs.Items.{list_data-all}
use Rattle.rule_text.proofs.Pushes.{map-more, All-more, All-whole}
use Rattle.rule_text.proofs.values.children.Goals as goal

pub loop-c-preserved : goal.loop-c-preserved
loop-c-preserved c = record {
  values = map-more view (λ (x : Child). child_data (as_child x)) c.args.cs.now c.loop-c.c-index _
      c.loop-c.values.items c.push.new.self.items _ c.loop-c-test.true c.in_ok-push.ensures.items
      c.in_ok-child.ensures.value c.loop-c.invariant.values;
  fours = All-more (λ (x : Child). IsFour x.shift) c.args.cs.now c.loop-c.c-index _ c.loop-c-test.true
      c.in_ok-child.ensures.fours c.loop-c.invariant.fours;
}

pub returns-clause-value : goal.returns-clause-value
returns-clause-value c = c.from.ensures ∙ list_data-all view child_data as_child c.args.cs.now
    c.loop-c.values.items c.loop-c.c-index c.loop-c-test.false c.loop-c.invariant.values

pub returns-clause-fours : goal.returns-clause-fours
returns-clause-fours c =
    All-map (λ (x : TheChild Point). IsFour x.motion.shift) as_child c.args.cs.now
    (All-whole (λ (x : Child). IsFour x.shift) c.args.cs.now c.loop-c.c-index c.loop-c-test.false c.loop-c.invariant.fours)
