-- What a call answers that visits values, handed on by its caller.
use Rattle.std.proofs.Common.{◌≡◌, List, Result, Ok, Err, IsErrAnd, sym, subst}
use Rattle.cyclo_points.specs.declared.order.Order.{Order}
use Rattle.cyclo_points.specs.Order.{NumberOf}
use Rattle.tile_place.specs.declared.coord_limit.CoordLimit.{CoordLimit}
use Rattle.tile_place.specs.Refused.{IsRefusedFirst, Visits}

-- the first refused value, handed on
pub visits-refused : {T : Type 0} (o : Order) (values : List (NumberOf o)) (r : Result T CoordLimit) (x : CoordLimit)
    → IsErrAnd r (λ y. y ≡ x) → IsRefusedFirst o values x → Visits o values r
visits-refused o values (Ok t) x h q = absurd h
visits-refused o values (Err e) x h q = record { none_refused = tt; limit = subst (IsRefusedFirst o values) (sym h) q }
