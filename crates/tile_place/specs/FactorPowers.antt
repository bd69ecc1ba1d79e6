-- The powers of a rule's inflation factor, as the program lists them.
use Rattle.std.specs.Prelude.{◌≡◌, ℕ, ◌+◌, ◌^◌, All, List, map}
use Rattle.theory_frames.specs.Looked.{powers_from}
use Rattle.cyclo_points.specs.declared.point.Point.{Point}
use Rattle.cyclo_points.specs.Order.{points_of}
use Rattle.cyclo_points.specs.Point.{point_in, IsWithin}
use Rattle.rule_model.specs.declared.rule.Rule.{Rule}
use Rattle.rule_model.specs.Views.{rule_of}

-- these are the powers from λ^0 to λ^depth, and each is within the limit of coordinates
pub record ArePowers (m : Rule) (depth : ℕ) (powers : List Point) : Type 0 where
  pub in_order : map (point_in m.order) powers
      ≡ powers_from (points_of m.order) (rule_of m).factor 0 (depth + 1)
  pub within : All (IsWithin (2 ^ 24)) powers
