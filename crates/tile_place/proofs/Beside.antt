-- A motion that digits place is that which stands beside their address.
use Rattle.std.proofs.Common.{◌≡◌, ◌<◌, ◌^◌, Result, Ok, Err, IfOk, IfErr, None, Some, sym, subst}
use Rattle.theory_addresses.specs.Address.{Address, Fits}
use Rattle.theory_substitution.specs.Supertile.{StandsBeside}
use Rattle.theory_substitution.specs.Placement.{horner_values, placement}
use Rattle.cyclo_points.specs.declared.motion.Motion.{Motion}
use Rattle.cyclo_points.specs.declared.order.Order.{Order}
use Rattle.cyclo_points.specs.Order.{points_of}
use Rattle.cyclo_points.specs.Placement.{PlacementLaw}
use Rattle.cyclo_points.specs.Point.{point_in, IsOf, IsWithin}
use Rattle.cyclo_points.specs.Motion.{motion_in}
use Rattle.rule_model.specs.Tiling.{Tiling, children, IsPlaced}
use Rattle.tile_place.specs.declared.coord_limit.CoordLimit.{CoordLimit}
use Rattle.tile_place.specs.Motions.{IsMotionOf}
use Rattle.tile_place.specs.Placing.{first_refused}
use Rattle.tile_place.specs.Refused.{Visits}

-- what is answered of an address
pub record Places (t : Tiling) (a : Address) (x : Result Motion CoordLimit) : Type 0 where
  pub beside : IfOk x (λ m. IsPlaced t a (motion_in t.order m))
  pub within : IfOk x (λ _. first_refused t a.digits ≡ None)
  pub turn_below : IfOk x (λ m. m.turn < (points_of t.order).order)
  pub shift_within : IfOk x (λ m. IsWithin (2 ^ 24) m.shift)
  pub in_order : IfOk x (λ m. IsOf t.order m.shift)
  pub limit : IfErr x (λ l. first_refused t a.digits ≡ Some (point_in t.order l.value))
  pub limit_in_order : IfErr x (λ l. IsOf t.order l.value)

-- the motion of Horner's scheme is that answer
pub places : (t : Tiling) (a : Address) (o : Order) → o ≡ t.order → PlacementLaw o → Fits (children t) a → (x : Result Motion CoordLimit)
    → IfOk x (λ m. motion_in t.order m ≡ placement (points_of t.order) t.rule a.digits) → IfOk x (IsMotionOf t.order (2 ^ 24))
    → Visits t.order (horner_values (points_of t.order) t.rule a.digits) x → Places t a x
places t a o same given fits (Ok m) e moves visits =
    let law : PlacementLaw t.order = subst PlacementLaw same given in
    record {
      beside = subst (StandsBeside (points_of t.order) t.rule a) (sym e) (law t.rule a fits);
      within = visits.none_refused;
      turn_below = moves.turn_below;
      shift_within = moves.within;
      in_order = moves.in_order;
      limit = tt;
      limit_in_order = tt;
    }
places t a o same given fits (Err l) e moves visits = record {
  beside = tt;
  within = tt;
  turn_below = tt;
  shift_within = tt;
  in_order = tt;
  limit = visits.limit.first;
  limit_in_order = visits.limit.in_order;
}
