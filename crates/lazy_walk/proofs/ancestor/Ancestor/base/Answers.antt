use Rattle.std.proofs.Common.{◌^◌, pos, [], ◌∷◌, refl, arith, lit≤}
use Rattle.tile_place.proofs.FactorPowers.{one-is, one-within}
use Rattle.tile_place.proofs.Start.{IsOrigin, start-still, start-turn, start-in_order, start-within}
use Rattle.lazy_walk.proofs.ancestor.Ancestor.base.Goals as goal

pub returns-clause-base : goal.returns-clause-base
returns-clause-base c = λ t f.
    let origin : IsOrigin (record { c = pos 0 ∷ pos 0 ∷ pos 0 ∷ pos 0 ∷ [] }) = record { at_0 = refl; at_1 = refl; at_2 = refl; at_3 = refl } in
    record {
      at_most_64 = omega arith;
      power_is = one-is t.order;
      motion_is = start-still t.order (record { turn = 0; shift = record { c = pos 0 ∷ pos 0 ∷ pos 0 ∷ pos 0 ∷ [] } }) refl origin;
      power_within = one-within (2 ^ 24) (lit≤ tt);
      turn_below = start-turn t.order (record { turn = 0; shift = record { c = pos 0 ∷ pos 0 ∷ pos 0 ∷ pos 0 ∷ [] } }) refl;
      shift_within = start-within (2 ^ 24) _ origin;
      in_order = start-in_order t.order _ origin;
    }
