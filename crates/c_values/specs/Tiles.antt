-- What the plain tiles of C stand for.
use Rattle.std.specs.Prelude.{ℕ, ◌<◌, ◌^◌, pos, [], ◌∷◌}
use Rattle.cyclo_points.specs.declared.motion.Motion.{Motion}
use Rattle.cyclo_points.specs.declared.order.Order.{Order}
use Rattle.cyclo_points.specs.Order.{points_of}
use Rattle.cyclo_points.specs.Point.{IsOf, IsWithin}
use Rattle.c_values.specs.declared.plain_tile.PlainTile.{PlainTile}

-- the motion of a tile: its turn and its shift
abbrev pub motion_of : PlainTile → Motion
motion_of p = record { turn = p.turn; shift = record { c = p.shift } }

-- a tile of this kind at its place, with this number; its status and `rest` are 0
abbrev pub tile_as : ℕ → Motion → ℕ → PlainTile
tile_as kind m number = record {
  shift = m.shift.c;
  status = 0;
  kind = kind;
  turn = m.turn;
  number = number;
  rest = 0 ∷ 0 ∷ 0 ∷ 0 ∷ [];
}

-- no tile, for the reason in `status`; all other numbers are 0
abbrev pub refused_as : ℕ → PlainTile
refused_as status = record {
  shift = pos 0 ∷ pos 0 ∷ pos 0 ∷ pos 0 ∷ [];
  status = status;
  kind = 0;
  turn = 0;
  number = 0;
  rest = 0 ∷ 0 ∷ 0 ∷ 0 ∷ [];
}

-- The numbers give a motion of the order. Its turn is below n, and its shift is a point of the order with
-- coefficients up to 2^24 in absolute value.
pub record GivesMotion (o : Order) (p : PlainTile) : Type 0 where
  pub turn_below : p.turn < (points_of o).order
  pub within : IsWithin (2 ^ 24) (motion_of p).shift
  pub in_order : IsOf o (motion_of p).shift
