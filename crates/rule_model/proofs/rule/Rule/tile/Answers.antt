use Rattle.std.proofs.Common.{◌<◌, length, sym, ap, subst}
use Rattle.theory_substitution.specs.Rule.{Child as TheChild}
use Rattle.cyclo_points.specs.declared.point.Point.{Point}
use Rattle.cyclo_points.specs.Order.{points_of, NumberOf}
use Rattle.rule_model.specs.Usable.{IsSmall, no_child}
use Rattle.rule_model.specs.Views.{rule_of}
use Rattle.rule_model.proofs.Views.{kind_count-in, child_count-in}
use Rattle.rule_model.proofs.rule.Rule.tile.Goals as goal

pub child-requires-clause-kind_in : goal.child-requires-clause-kind_in
child-requires-clause-kind_in c = subst (λ n. c.args.kind < n) (kind_count-in c.args.self.now.order c.args.self.now) c.requires.kind_in

pub child-requires-clause-i_in : goal.child-requires-clause-i_in
child-requires-clause-i_in c = let r = c.args.self.now in subst (λ n. c.args.i < n) (child_count-in r.order r c.args.kind) c.requires.i_in

pub returns-clause-small : goal.returns-clause-small
returns-clause-small c =
    subst (IsSmall c.args.self.now.order) (sym (ap (λ (x : TheChild Point). x.motion.shift) (c.child.ensures.lists no_child)))
    (c.requires.usable.shift_small c.args.kind c.args.i c.requires.kind_in c.requires.i_in)

pub returns-clause-turn_below : goal.returns-clause-turn_below
returns-clause-turn_below c =
    let o = c.args.self.now.order in
    subst (λ n. n < (points_of o).order) (sym (ap (λ (x : TheChild (NumberOf o)). x.motion.turn) (c.child.ensures.numbers o)))
    (c.requires.usable.numbered.turn_below c.args.kind c.args.i c.requires.kind_in c.requires.i_in)

pub returns-clause-kind_exists : goal.returns-clause-kind_exists
returns-clause-kind_exists c =
    let o = c.args.self.now.order in
    subst (λ n. n < length (rule_of c.args.self.now).kinds) (sym (ap (λ (x : TheChild (NumberOf o)). x.kind) (c.child.ensures.numbers o)))
    (c.requires.usable.numbered.child_exists c.args.kind c.args.i c.requires.kind_in c.requires.i_in)
