-- The test whether an edge meets an open box, by the four open half planes whose common part the box is, two
-- at a time. By Helly's theorem on a line, an edge has a point in all of them if and only if it has one in
-- each two of them.
use Rattle.std.specs.Prelude.{pos, Bool, ◌&&◌, ◌||◌}
use Rattle.std.specs.Ordering.{is_gt}
use Rattle.theory_ring.specs.Ring.{Ops, difference}
use Rattle.theory_ring.specs.Sign.{Signed}
use Rattle.theory_plane.specs.Plane.{PlanePoint}
use Rattle.theory_plane.specs.Box.{OpenBox}

-- how far the two ends of an edge are inside a half plane; negative, how far outside
pub record Depths (A : Type 0) : Type 0 where
  pub at_start : A
  pub at_end : A

-- positive if an edge that starts in the half plane of f and ends in that of g enters the second before it
-- leaves the first
abbrev pub overlap : (R : Ops) → Depths R.carrier → Depths R.carrier → R.carrier
overlap R f g = difference R (R.mul f.at_start g.at_end) (R.mul g.at_start f.at_end)

-- whether an edge that starts in the half plane of f and ends in that of g passes through both at once
abbrev pub passes_both : (S : Signed) → Depths S.ops.carrier → Depths S.ops.carrier → Bool
passes_both S f g = is_gt (S.sign f.at_start) && is_gt (S.sign g.at_end) && is_gt (S.sign (overlap S.ops f g))

-- whether an edge has a point in both half planes
abbrev pub meets_both : (S : Signed) → Depths S.ops.carrier → Depths S.ops.carrier → Bool
meets_both S f g =
    is_gt (S.sign f.at_start) && is_gt (S.sign g.at_start) || is_gt (S.sign f.at_end)
    && is_gt (S.sign g.at_end)
    || passes_both S f g || passes_both S g f

-- how far two numbers are below the extent w of a box, and above -w
abbrev pub inside_below : (R : Ops) → R.carrier → R.carrier → R.carrier → Depths R.carrier
inside_below R w s t = record { at_start = difference R w s; at_end = difference R w t }

abbrev pub inside_above : (R : Ops) → R.carrier → R.carrier → R.carrier → Depths R.carrier
inside_above R w s t = record { at_start = R.add w s; at_end = R.add w t }

-- the same of a coordinate of the ends of an edge a→b, counted from the centre
abbrev pub depths_below : (R : Ops) → R.carrier → R.carrier → R.carrier → R.carrier → Depths R.carrier
depths_below R centre w a b = inside_below R w (difference R a centre) (difference R b centre)

abbrev pub depths_above : (R : Ops) → R.carrier → R.carrier → R.carrier → R.carrier → Depths R.carrier
depths_above R centre w a b = inside_above R w (difference R a centre) (difference R b centre)

-- whether an edge has a point in each two of four half planes
abbrev pub meets_each_two : (S : Signed) → Depths S.ops.carrier → Depths S.ops.carrier → Depths S.ops.carrier
    → Depths S.ops.carrier → Bool
meets_each_two S f g h k =
    meets_both S f g && meets_both S f h && meets_both S f k && meets_both S g h && meets_both S g k
    && meets_both S h k

-- the case analysis of the program
abbrev pub box_test : (S : Signed) → PlanePoint S.ops.carrier → PlanePoint S.ops.carrier
    → OpenBox S.ops.carrier → Bool
box_test S a b box =
    let w = S.ops.int (pos box.w) in
    let h = S.ops.int (pos box.h) in
    meets_each_two S
    (depths_below S.ops box.centre.x w a.x b.x) (depths_above S.ops box.centre.x w a.x b.x)
    (depths_below S.ops box.centre.y h a.y b.y) (depths_above S.ops box.centre.y h a.y b.y)
