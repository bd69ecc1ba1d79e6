use Rattle.std.proofs.Common.{◌≡◌, ◌<◌, map, drop}
use Rattle.tile_shape.specs.Views.{step_of}
use Rattle.list_verify.specs.LineIndex.{digest_from}
use Rattle.list_verify.proofs.line_index.bucket_of.Given as goal

abbrev pub invariant-loop-step : goal.invariant-loop-step
invariant-loop-step l =
    (digest_from l.fn.buckets.multiplier l.digest (map step_of (drop l.step-index l.step-items)) ≡ digest_from
    l.fn.buckets.multiplier l.fn.address.kind (map step_of l.fn.address.digits.items))
    × (l.digest < 2305843009213693951)
