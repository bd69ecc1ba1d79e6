-- The theorem on supertiles, for the points of each order.
use Rattle.theory_addresses.specs.Address.{Address, Fits}
use Rattle.theory_substitution.specs.Rule.{Rule, child_kinds}
use Rattle.theory_substitution.specs.Supertile.{StandsBeside}
use Rattle.theory_substitution.specs.Placement.{placement}
use Rattle.cyclo_points.specs.declared.order.Order.{Order}
use Rattle.cyclo_points.specs.Order.{NumberOf, points_of}

-- under every rule, the motion listed with an address that fits, in the list of its supertile's tiles, is
-- that of Horner's scheme
abbrev pub PlacementLaw : Order → Type 0
PlacementLaw o = (r : Rule (NumberOf o)) (a : Address) → Fits (child_kinds r) a
    → StandsBeside (points_of o) r a (placement (points_of o) r a.digits)
