use Rattle.std.proofs.Common.{◌<◌, ℕ, length, sym, ap, subst}
use Rattle.theory_substitution.specs.Rule.{Child as TheChild, Kind, children_of}
use Rattle.cyclo_points.specs.declared.point.Point.{Point}
use Rattle.cyclo_points.specs.Order.{points_of}
use Rattle.rule_model.specs.Usable.{IsSmall}
use Rattle.builtin_rules.proofs.Placeable.{child_at}
use Rattle.builtin_rules.proofs.placing.NamedPlacing.listed_child.Goals as goal

pub returns-clause-small : goal.returns-clause-small
returns-clause-small c =
    let w = c.args.self.now in
    let m = subst (λ (i : ℕ). i < length (children_of w.rule c.args.kind)) (sym c.from.ensures) c.requires.child_in in
    subst (IsSmall w.order) (sym (ap (λ (x : TheChild Point). x.motion.shift)
    (child_at w c.args.kind c.from.result c.row.result.now.children.now _ (ap (λ (x : Kind Point). x.children) c.row.ensures.lists) m)))
    (c.row.ensures.placeable.shift_small c.args.kind c.from.result c.requires.kind_in m)

pub returns-clause-turn_below : goal.returns-clause-turn_below
returns-clause-turn_below c =
    let w = c.args.self.now in
    let m = subst (λ (i : ℕ). i < length (children_of w.rule c.args.kind)) (sym c.from.ensures) c.requires.child_in in
    subst (λ n. n < (points_of w.order).order) (sym (ap (λ (x : TheChild Point). x.motion.turn)
    (child_at w c.args.kind c.from.result c.row.result.now.children.now _ (ap (λ (x : Kind Point). x.children) c.row.ensures.lists) m)))
    (c.row.ensures.placeable.turn_below c.args.kind c.from.result c.requires.kind_in m)
