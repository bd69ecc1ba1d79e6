use Rattle.std.proofs.Common.{◌-◌}
use Rattle.tile_place.specs.Keys.{order_numbers}
use Rattle.half_glue.proofs.PlaceAmong.{ArePartedAt}
use Rattle.half_glue.proofs.merge.Merge.place_among.Given as goal

abbrev pub invariant-loop-first : goal.invariant-loop-first
invariant-loop-first l = ArePartedAt l.fn.self.halves.tiles.now l.fn.self.inner.now l.fn.from (order_numbers l.fn.motion l.fn.kind) l.first l.end

abbrev pub decreases-loop-first : goal.decreases-loop-first
decreases-loop-first l = l.end - l.first
