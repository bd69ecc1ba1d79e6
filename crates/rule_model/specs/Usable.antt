-- A rule within its limits, as facts: the bounds under which its numbers are read.
use Rattle.std.specs.Prelude.{ℕ, ◌<◌, pos, [], ◌∷◌, length, get_or}
use Rattle.theory_substitution.specs.Rule.{Child as TheChild, children_of}
use Rattle.theory_substitution.specs.RuleParts.{vertices_of, edge_count}
use Rattle.theory_edge_to_edge.specs.Numbered.{IsNumbered}
use Rattle.cyclo_points.specs.declared.order.Order.{Order}
use Rattle.cyclo_points.specs.declared.point.Point.{Point}
use Rattle.cyclo_points.specs.Order.{points_of}
use Rattle.cyclo_points.specs.Point.{IsOf, IsWithin}
use Rattle.rule_model.specs.declared.rule.Rule.{Rule}
use Rattle.rule_model.specs.Views.{as_rule, rule_of}

-- a point of the order whose coefficients are at most 64 in absolute value
pub record IsSmall (o : Order) (p : Point) : Type 0 where
  pub within : IsWithin 64 p
  pub in_order : IsOf o p

-- the point 0
abbrev pub origin : Point
origin = record { c = pos 0 ∷ pos 0 ∷ pos 0 ∷ pos 0 ∷ [] }

-- vertex number i of kind k in the lists of the program; the point 0 if there is none
abbrev pub listed_vertex : Rule → ℕ → ℕ → Point
listed_vertex r k i = get_or (vertices_of (as_rule r) k) i origin

-- a value for a number that no child has
abbrev pub no_child : TheChild Point
no_child = record { kind = 0; motion = record { turn = 0; shift = origin } }

-- child number c of kind k in the lists of the program
abbrev pub listed_child : Rule → ℕ → ℕ → TheChild Point
listed_child r k c = get_or (children_of (as_rule r) k) c no_child

-- the numbers of a rule exist, and its factor, vertices and shifts are small
pub record IsUsable (r : Rule) : Type 0 where
  pub numbered : IsNumbered (points_of r.order) (rule_of r)
  pub factor_small : IsSmall r.order r.factor
  pub vertex_small : (k i : ℕ) → k < length (rule_of r).kinds → i < edge_count (rule_of r) k
      → IsSmall r.order (listed_vertex r k i)
  pub shift_small : (k c : ℕ) → k < length (rule_of r).kinds → c < length (children_of (rule_of r) k)
      → IsSmall r.order (listed_child r k c).motion.shift
