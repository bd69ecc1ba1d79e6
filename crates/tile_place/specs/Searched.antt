-- What the search from a supertile down to the tile that holds a point answers.
use Rattle.std.specs.Prelude.{◌≡◌, ◌^◌, List, find, None, Some}
use Rattle.std.specs.declared.option.Option.{Option}
use Rattle.theory_substitution.specs.Supertile.{Placed}
use Rattle.theory_frames.specs.Descent.{tile_below, tile_holding}
use Rattle.theory_frames.specs.Looked.{values_below, values_looked_at}
use Rattle.cyclo_points.specs.declared.order.Order.{Order}
use Rattle.cyclo_points.specs.declared.point.Point.{Point}
use Rattle.cyclo_points.specs.Order.{NumberOf, points_of, is_refused}
use Rattle.cyclo_points.specs.Point.{point_in, IsOf}
use Rattle.cyclo_points.specs.Motion.{motion_in}
use Rattle.rule_model.specs.declared.rule.Rule.{Rule}
use Rattle.rule_model.specs.Tiling.{tiling_of}
use Rattle.rule_model.specs.Views.{rule_of}
use Rattle.tile_shape.specs.Views.{address_of}
use Rattle.tile_place.specs.declared.moved_supertile.MovedSupertile.{MovedSupertile}
use Rattle.tile_place.specs.declared.placed_tile.PlacedTile.{PlacedTile}
use Rattle.tile_place.specs.declared.locate_fault.LocateFault.{LocateFault}
use Rattle.tile_place.specs.declared.locate_fault.LocateFault.TheVariants.{NotInside, CoordLimit}
use Rattle.tile_place.specs.Located.{HasSupertile}
use Rattle.tile_place.specs.Motions.{IsMotionOf}

-- there is such a supertile, and its motion is within the limit of coordinates
pub record IsMovedSupertile (m : Rule) (x : MovedSupertile) : Type 0 where
  pub supertile : HasSupertile (tiling_of m) x.kind x.depth
  pub moves : IsMotionOf m.order (2 ^ 24) x.at.now

-- the values looked at for a point in it, and the tile of it that holds the point
abbrev pub values_of_search : (m : Rule) → MovedSupertile → Point → List (NumberOf m.order)
values_of_search m x p =
    values_looked_at (points_of m.order) (rule_of m) x.kind x.depth (motion_in m.order x.at.now)
    (point_in m.order p)

abbrev pub holder_of_search : (m : Rule) → MovedSupertile → Point → Option (Placed (NumberOf m.order))
holder_of_search m x p =
    tile_holding (points_of m.order) (rule_of m) x.kind x.depth (motion_in m.order x.at.now)
    (point_in m.order p)

-- the same below its polygon, which holds the point
abbrev pub values_under : (m : Rule) → MovedSupertile → Point → List (NumberOf m.order)
values_under m x p =
    values_below (points_of m.order) (rule_of m) x.kind x.depth (motion_in m.order x.at.now)
    (point_in m.order p)

abbrev pub holder_under : (m : Rule) → MovedSupertile → Point → Option (Placed (NumberOf m.order))
holder_under m x p =
    tile_below (points_of m.order) (rule_of m) x.kind x.depth (motion_in m.order x.at.now)
    (point_in m.order p)

-- a tile of the program, with its address and its motion
abbrev pub placed_in : (o : Order) → PlacedTile → Placed (NumberOf o)
placed_in o t = record { address = address_of t.addr; motion = motion_in o t.motion }

-- no value on the way is refused, and this is the tile, with its own kind; it moves within the limit
pub record IsFoundTile (o : Order) (values : List (NumberOf o)) (tile : Option (Placed (NumberOf o)))
    (x : PlacedTile) : Type 0 where
  pub holder : tile ≡ Some (placed_in o x)
  pub its_kind : x.kind ≡ x.addr.kind
  pub moves : IsMotionOf o (2 ^ 24) x.motion
  pub none_refused : find (is_refused o) values ≡ None

-- the fault of the values on the way and of the tile found: none is refused and there is no tile, or this is
-- the first that is refused
abbrev pub IsSearchFault : (o : Order) → List (NumberOf o) → Option (Placed (NumberOf o)) → LocateFault
    → Type 0
IsSearchFault o values tile NotInside = (find (is_refused o) values ≡ None) × (tile ≡ None)
IsSearchFault o values tile (CoordLimit v) = (find (is_refused o) values ≡ Some (point_in o v)) × IsOf o v
