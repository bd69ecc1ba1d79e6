-- What a call answers that visits values in order, and stops at the first that is refused.
use Rattle.std.specs.Prelude.{◌≡◌, List, find, None, Some, IfOk, IfErr}
use Rattle.std.specs.declared.result.Result.{Result}
use Rattle.cyclo_points.specs.declared.order.Order.{Order}
use Rattle.cyclo_points.specs.Order.{NumberOf, is_refused}
use Rattle.cyclo_points.specs.Point.{point_in, IsOf}
use Rattle.tile_place.specs.declared.coord_limit.CoordLimit.{CoordLimit}

-- the first of these values that is refused, as a point of the order
pub record IsRefusedFirst (o : Order) (values : List (NumberOf o)) (limit : CoordLimit) : Type 0 where
  pub first : find (is_refused o) values ≡ Some (point_in o limit.value)
  pub in_order : IsOf o limit.value

-- an answer comes if none of the values is refused, and otherwise the first that is
pub record Visits {T : Type 0} (o : Order) (values : List (NumberOf o))
    (result : Result T CoordLimit) : Type 0 where
  pub none_refused : IfOk result (λ _. find (is_refused o) values ≡ None)
  pub limit : IfErr result (IsRefusedFirst o values)
