use Rattle.std.proofs.Common.{◌≡◌, ◌≤◌, length}
use Rattle.std.specs.Prelude.{All}
use Rattle.layer_api.specs.Drawable.{IsNear}
use Rattle.trial_layers.proofs.tiles.outline.Given as goal

abbrev pub invariant-loop-point : goal.invariant-loop-point
invariant-loop-point l = (length l.outline.items ≡ l.point-index) × All (IsNear l.order) l.outline.items
