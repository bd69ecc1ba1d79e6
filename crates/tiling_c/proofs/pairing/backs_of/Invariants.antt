use Rattle.std.proofs.Common.{◌≡◌, ℕ, ◌<◌, ◌≤◌, length, get_or}
use Rattle.rule_model.specs.Tiling.{tiling_of}
use Rattle.tile_shape.specs.Views.{address_of}
use Rattle.tiling_c.specs.Pairing.{no_back, ShowsBack}
use Rattle.tiling_c.proofs.pairing.backs_of.Given as goal

-- the edges so far are told, and further ones are 255
abbrev pub invariant-loop-edge : goal.invariant-loop-edge
invariant-loop-edge g l = record {
  room : length l.backs ≡ 12;
  each : (e : ℕ) → e < l.edge → ShowsBack (tiling_of l.machine) (address_of l.one) e (address_of l.other) (get_or l.backs e no_back);
  rest : (e : ℕ) → l.edge ≤ e → get_or l.backs e no_back ≡ no_back;
}
