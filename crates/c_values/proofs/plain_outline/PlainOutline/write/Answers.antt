use Rattle.std.proofs.Common.{rules, ◌<◌, length, get_or, []}
use Rattle.c_values.proofs.Outlines.{points_more, behind_more}
use Rattle.c_values.proofs.plain_outline.PlainOutline.write.Goals as goal

pub loop-i-preserved : goal.loop-i-preserved
loop-i-preserved c =
    let in_corners : c.loop-i.i < length c.loop-i.self.corners = search rules in
    record {
      count = c.loop-i.invariant.count;
      points = points_more c.loop-i.self.corners c.args.points.now c.loop-i.i (record { c = [] }) in_corners
          c.loop-i-test.true c.loop-i.invariant.points;
      behind = behind_more c.loop-i.self.corners c.args.self.now.corners c.loop-i.i
          (record { c = (get_or c.args.points.now c.loop-i.i (record { c = [] })).c }) c.loop-i.invariant.behind;
    }
