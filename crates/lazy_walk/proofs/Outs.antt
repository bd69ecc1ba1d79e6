-- A level out, as the program finds it.
use Rattle.std.proofs.Common.{◌≡◌, ℕ, ◌+◌, ◌-◌, ◌%◌, ap, ap₂, ◌∙◌, subst}
use Rattle.theory_ring.specs.Ring.{difference, power}
use Rattle.theory_substitution.specs.Rule.{Child as ChildOf}
use Rattle.theory_frames.specs.Outward.{one_out_by}
use Rattle.cyclo_points.specs.declared.order.Order.{Order}
use Rattle.cyclo_points.specs.declared.point.Point.{Point}
use Rattle.cyclo_points.specs.declared.motion.Motion.{Motion}
use Rattle.cyclo_points.specs.Order.{NumberOf, points_of}
use Rattle.cyclo_points.specs.Point.{point_in}
use Rattle.cyclo_points.specs.Motion.{motion_in}
use Rattle.rule_model.specs.declared.rule.Rule.{Rule}
use Rattle.rule_model.specs.declared.child.Child.{Child}
use Rattle.rule_model.specs.Tiling.{tiling_of, its_child}
use Rattle.rule_model.specs.Views.{rule_of, child_in}
use Rattle.tile_shape.specs.declared.step.Step.{Step}

module _ (digit : Step) (child : Child) (scale : Point) (motion : Motion) (n : ℕ) (scaled turned shift : Point) where
  abbrev whole : ℕ
  whole = (motion.turn + (n - child.turn) % n) % n

  abbrev IsOut : Rule → Type 0
  IsOut r = motion_in r.order (record { turn = whole; shift = shift })
      ≡ one_out_by (points_of r.order) (point_in r.order scale) (motion_in r.order motion) (its_child (tiling_of r) digit.parent digit.child).motion

  abbrev Scaled : Order → Type 0
  Scaled o = point_in o scaled ≡ (points_of o).ring.mul (point_in o scale) (point_in o child.shift)

  abbrev Turned : Order → Type 0
  Turned o = point_in o turned ≡ (points_of o).ring.mul (power (points_of o).ring (points_of o).zeta whole) (point_in o scaled)

  in_order : (r : Rule) → child_in r.order child ≡ its_child (tiling_of r) digit.parent digit.child
      → n ≡ (points_of r.order).order → Scaled r.order → Turned r.order
      → point_in r.order shift ≡ difference (points_of r.order).ring (point_in r.order motion.shift) (point_in r.order turned) → IsOut r
  in_order r same count times turns minus =
      (λ i. record { turn = wholes i; shift = shifts i })
      ∙ ap (λ (c : ChildOf (NumberOf r.order)). one_out_by (points_of r.order) (point_in r.order scale) (motion_in r.order motion) c.motion) same
    where
      wholes : whole ≡ (motion.turn + ((points_of r.order).order - child.turn) % (points_of r.order).order) % (points_of r.order).order
      wholes = ap (λ l. (motion.turn + (l - child.turn) % l) % l) count

      shifts : point_in r.order shift ≡ difference (points_of r.order).ring (point_in r.order motion.shift)
          ((points_of r.order).ring.mul (power (points_of r.order).ring (points_of r.order).zeta
          ((motion.turn + ((points_of r.order).order - child.turn) % (points_of r.order).order) %
          (points_of r.order).order))
          ((points_of r.order).ring.mul (point_in r.order scale) (point_in r.order child.shift)))
      shifts =
          minus ∙ ap (difference (points_of r.order).ring (point_in r.order motion.shift))
          (turns ∙ ap₂ (λ t z. (points_of r.order).ring.mul (power (points_of r.order).ring (points_of r.order).zeta t) z) wholes times)

  pub out_is : (o : Order) (r m : Rule) → o ≡ r.order → r ≡ m → child_in r.order child ≡ its_child (tiling_of r) digit.parent digit.child
      → n ≡ (points_of o).order → Scaled o → Turned o
      → ((q : Order) → point_in q shift ≡ difference (points_of q).ring (point_in q motion.shift) (point_in q turned)) → IsOut m
  out_is o r m eo er same count times turns minus =
      subst IsOut er (in_order r same (subst (λ q. n ≡ (points_of q).order) eo count) (subst Scaled eo times) (subst Turned eo turns) (minus r.order))

-- the next power of the factor
pub times_factor : (o : Order) (r m : Rule) (factor power next : Point) → o ≡ r.order → r ≡ m → factor ≡ r.factor
    → ((a b : NumberOf o) → (points_of o).ring.mul a b ≡ (points_of o).ring.mul b a)
    → point_in o next ≡ (points_of o).ring.mul (point_in o power) (point_in o factor)
    → point_in m.order next ≡ (points_of m.order).ring.mul (rule_of m).factor (point_in m.order power)
times_factor o r m factor power next eo er ef comm e =
    subst (λ (m : Rule). point_in m.order next ≡ (points_of m.order).ring.mul (rule_of m).factor (point_in m.order power)) er
    (subst (λ f. point_in r.order next ≡ (points_of r.order).ring.mul (point_in r.order f) (point_in r.order power)) ef
    (subst (λ q. point_in q next ≡ (points_of q).ring.mul (point_in q factor) (point_in q power)) eo
    (e ∙ comm (point_in o power) (point_in o factor))))
