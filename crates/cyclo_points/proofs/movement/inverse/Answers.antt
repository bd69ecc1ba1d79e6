use Rattle.std.proofs.Common.{◌≡◌, ℕ, ◌+◌, ◌-◌, ◌%◌, ◌∙◌, refl, ap, ap₂, sym, subst}
use Rattle.theory_substitution.specs.Motion.{Motion, moved, followed, still}
use Rattle.cyclo_points.specs.Order.{NumberOf, points_of}
use Rattle.cyclo_points.specs.Motion.{motion_in}
use Rattle.cyclo_points.proofs.OrderLaws.{laws_of}
use Rattle.cyclo_points.proofs.Undoing.{motion_path, turns_round, back, followed-back, back-followed, back-moved, moved-back}
use Rattle.cyclo_points.proofs.movement.inverse.Goals as goal
use Rattle.cyclo_points.proofs.movement.inverse.Goals.{After-opposite}

-- the motion handed in, and the turn back
abbrev given : (c : After-opposite) → Motion (NumberOf c.args.order)
given c = motion_in c.args.order c.args.m.now

abbrev rest : After-opposite → ℕ
rest c = (c.n.result - c.args.m.now.turn) % c.n-2.result

round : (c : After-opposite) → (rest c + c.args.m.now.turn) % (points_of c.args.order).order ≡ 0
round c =
    ap₂ (λ u v. ((u - c.args.m.now.turn) % v + c.args.m.now.turn) % (points_of c.args.order).order) c.n.ensures c.n-2.ensures
    ∙ turns_round c.args.order c.args.m.now.turn c.requires.below_order

-- the motion returned, and that it is the motion back
abbrev returned : (c : After-opposite) → Motion (NumberOf c.args.order)
returned c = motion_in c.args.order (record { turn = rest c; shift = c.opposite.result })

is_back : (c : After-opposite) → back (points_of c.args.order) (laws_of c.args.order) (given c) (rest c) (round c) ≡ returned c
is_back c = motion_path _ (returned c) refl (sym
    (c.opposite.ensures.negative c.args.order ∙ ap (points_of c.args.order).ring.neg
    c.turn-turned.ensures.turned))

pub returns-clause-after : goal.returns-clause-after
returns-clause-after c =
    let o = c.args.order in
    subst (λ g. followed (points_of o) (given c) g ≡ still (points_of o)) (is_back c)
    (followed-back (points_of o) (laws_of o) (given c) (rest c) (round c))

pub returns-clause-before : goal.returns-clause-before
returns-clause-before c =
    let o = c.args.order in
    subst (λ g. followed (points_of o) g (given c) ≡ still (points_of o)) (is_back c)
    (back-followed (points_of o) (laws_of o) (given c) (rest c) (round c))

pub returns-clause-undoes : goal.returns-clause-undoes
returns-clause-undoes c =
    let o = c.args.order in
    λ z. subst (λ g. moved (points_of o) g (moved (points_of o) (given c) z) ≡ z) (is_back c)
    (back-moved (points_of o) (laws_of o) (given c) (rest c) (round c) z)

pub returns-clause-is_undone : goal.returns-clause-is_undone
returns-clause-is_undone c =
    let o = c.args.order in
    λ z. subst (λ g. moved (points_of o) (given c) (moved (points_of o) g z) ≡ z) (is_back c)
    (moved-back (points_of o) (laws_of o) (given c) (rest c) (round c) z)
