-- A tiling: an order, and a substitution rule over its points; and a rule as lists of numbers, as a file or a
-- table has it.
use Rattle.std.specs.Prelude.{ℕ, List}
use Rattle.theory_addresses.specs.Address.{Address}
use Rattle.theory_addresses.specs.Tables.{Tables}
use Rattle.theory_edge_to_edge.specs.Contacts.{tables_of}
use Rattle.theory_substitution.specs.Motion.{Motion}
use Rattle.theory_substitution.specs.Rule.{Rule, Child, child_kinds}
use Rattle.theory_substitution.specs.RuleParts.{map_rule, child_of}
use Rattle.theory_substitution.specs.Supertile.{StandsBeside}
use Rattle.cyclo_points.specs.declared.order.Order.{Order}
use Rattle.cyclo_points.specs.declared.point.Point.{Point}
use Rattle.cyclo_points.specs.Order.{NumberOf, points_of}
use Rattle.cyclo_points.specs.Point.{point_in}
use Rattle.rule_model.specs.declared.edition.Edition.{Edition}
use Rattle.rule_model.specs.declared.rule.Rule as program
use Rattle.rule_model.specs.Views.{as_rule, rule_of}

-- an order, and a substitution rule over its points
pub record Tiling : Type 0 where
  pub order : Order
  pub rule : Rule (NumberOf order)

-- a rule as lists, each point by its coefficients, with its edition and its order
pub record ListedRule : Type 0 where
  pub edition : Edition
  pub order : Order
  pub rule : Rule Point

-- the tiling of a rule as lists, and of a rule of the program
abbrev pub tiling_listed : ListedRule → Tiling
tiling_listed x = record { order = x.order; rule = map_rule (point_in x.order) x.rule }

abbrev pub tiling_of : program.Rule → Tiling
tiling_of r = record { order = r.order; rule = rule_of r }

-- the lists of a rule of the program
abbrev pub listed : program.Rule → ListedRule
listed r = record { edition = r.edition; order = r.order; rule = as_rule r }

-- The contact tables of a tiling. They are not given with the rule. The geometry of the rule determines which
-- edges of children are opposite, and which are parts of the edges of their parent.
abbrev pub contacts : Tiling → Tables
contacts t = tables_of (points_of t.order) t.rule

-- the kinds of each kind's children in a tiling
abbrev pub children : Tiling → List (List ℕ)
children t = child_kinds t.rule

-- child number c of kind k of a tiling
abbrev pub its_child : (t : Tiling) → ℕ → ℕ → Child (NumberOf t.order)
its_child t k c = child_of (points_of t.order) t.rule k c

-- a motion of the tiling's order
abbrev pub MotionOf : Tiling → Type 0
MotionOf t = Motion (NumberOf t.order)

-- the tile of this address lies by this motion in the supertile that the address names
abbrev pub IsPlaced : (t : Tiling) → Address → MotionOf t → Type 0
IsPlaced t a m = StandsBeside (points_of t.order) t.rule a m
