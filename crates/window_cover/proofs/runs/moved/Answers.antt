use Rattle.std.proofs.Common.{◌^◌, [], ◌∷◌, lit≤}
use Rattle.cyclo_points.proofs.Readings.{machine_sum-is}
use Rattle.cyclo_points.proofs.Within.{point_wider}
use Rattle.window_cover.proofs.runs.moved.Goals as goal

pub returns : goal.returns
returns c =
    let p = point_wider (2 ^ 24) (2 ^ 40) c.args.shift.now (lit≤ tt) c.requires.shift_within in
    let q = point_wider (2 ^ 24) (2 ^ 40) c.args.by.now (lit≤ tt) c.requires.by_within in
    λ i. record {
      c = machine_sum-is _ _ p.at_0 q.at_0 i ∷ machine_sum-is _ _ p.at_1 q.at_1 i ∷ machine_sum-is _ _ p.at_2 q.at_2 i
          ∷ machine_sum-is _ _ p.at_3 q.at_3 i ∷ [];
    }
