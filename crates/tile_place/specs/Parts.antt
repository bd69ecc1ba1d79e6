-- The parts of a supertile that a search looks at.
use Rattle.std.specs.Prelude.{ℕ, ◌<◌, ◌^◌, length, Bool, cond, None, Some}
use Rattle.std.specs.declared.option.Option.{Option}
use Rattle.theory_substitution.specs.Rule.{children_of}
use Rattle.theory_frames.specs.Part as theory
use Rattle.cyclo_points.specs.declared.order.Order.{Order}
use Rattle.cyclo_points.specs.Order.{NumberOf}
use Rattle.cyclo_points.specs.Motion.{motion_in}
use Rattle.rule_model.specs.declared.rule.Rule.{Rule}
use Rattle.rule_model.specs.Views.{rule_of}
use Rattle.tile_place.specs.Motions.{IsMotionOf}
use Rattle.tile_place.specs.declared.part.Part.{Part}

-- a part of the program over an order
abbrev pub part_in : (o : Order) → Part → theory.Part (NumberOf o)
part_in o p = record { child = p.child; kind = p.kind; motion = motion_in o p.motion }

-- a kind of the rule has a child of this number
pub record HasChild (m : Rule) (kind number : ℕ) : Type 0 where
  pub kind_exists : kind < length (rule_of m).kinds
  pub child_exists : number < length (children_of (rule_of m) kind)

-- its kind exists, and its motion is within the limit of coordinates
pub record IsPart (m : Rule) (p : Part) : Type 0 where
  pub kind_exists : p.kind < length (rule_of m).kinds
  pub moves : IsMotionOf m.order (2 ^ 24) p.motion

-- the value, if the point is held
abbrev pub if_holds : {A : Type 0} → Bool → A → Option A
if_holds holds x = cond holds (Some x) None
