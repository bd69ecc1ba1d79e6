-- A rule as it is written down whose numbers may be multiplied: they are small, and its turns are those of
-- its order.
use Rattle.std.specs.Prelude.{ℕ, ◌<◌, length, get_or}
use Rattle.theory_substitution.specs.Rule.{Child, children_of}
use Rattle.cyclo_points.specs.declared.point.Point.{Point}
use Rattle.cyclo_points.specs.Order.{points_of}
use Rattle.rule_model.specs.Tiling.{ListedRule}
use Rattle.rule_model.specs.Usable.{IsSmall, no_child}

-- child number c of kind k
abbrev pub written_child : ListedRule → ℕ → ℕ → Child Point
written_child w k c = get_or (children_of w.rule k) c no_child

-- its factor and its shifts are small, and each child is turned by less than a whole turn
pub record IsPlaceable (w : ListedRule) : Type 0 where
  pub factor_small : IsSmall w.order w.rule.factor
  pub shift_small : (k c : ℕ) → k < length w.rule.kinds → c < length (children_of w.rule k)
      → IsSmall w.order (written_child w k c).motion.shift
  pub turn_below : (k c : ℕ) → k < length w.rule.kinds → c < length (children_of w.rule k)
      → (written_child w k c).motion.turn < (points_of w.order).order
