use Rattle.std.proofs.Common.{◌≡◌, length, map, take, drop}
use Rattle.c_values.specs.Outlines.{point_of}
use Rattle.c_values.proofs.plain_outline.PlainOutline.write.Given as goal

-- the points so far, and what is after them
abbrev pub invariant-loop-i : goal.invariant-loop-i
invariant-loop-i l = record {
  count : l.self.count ≡ length l.points;
  points : map point_of (take l.i l.self.corners) ≡ take l.i l.points;
  behind : drop l.i l.self.corners ≡ drop l.i l.fn.self.corners;
}
