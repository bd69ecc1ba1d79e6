use Rattle.std.proofs.Common.{◌≡◌, sym, ap, ap₂, ◌∙◌, not, arith}
use Rattle.std.proofs.lemmas.Int.{ints}
use mir.Val.{to_z, of_z}
use Rattle.std.specs.Int.{w8}
use Rattle.theory_plane.specs.Crossing.{crossing_of}
use Rattle.plane_geom.specs.Spots.{reals_of}
use Rattle.plane_geom.specs.Spots.{spot_of}
use Rattle.plane_geom.proofs.OrderLaws.{reals_ring}
use Rattle.theory_ring.proofs.Booleans.{same_tests, other_tests}
use Rattle.theory_plane.proofs.Heights.{crossing-level, crossing-directed}
use Rattle.plane_geom.proofs.sides.crossing_between.Goals as goal

pub returns-then-starts_above-ends_above-clause-value : goal.returns-then-starts_above-ends_above-clause-value
returns-then-starts_above-ends_above-clause-value c =
    sym (crossing-level (reals_of c.args.order) (reals_ring c.args.order) (spot_of c.args.order c.args.a.now)
    (spot_of c.args.order c.args.b.now) (spot_of c.args.order c.args.p.now)
    (sym c.requires.starts ∙ same_tests _ _ c.if-starts_above-ends_above.true ∙ c.requires.ends))

pub returns-clause-value : goal.returns-clause-value
returns-clause-value c =
    let whole : to_z w8 (of_z w8 c.directed_crossing.result) ≡ c.directed_crossing.result = omega (arith, ints) in
    whole ∙ c.directed_crossing.ensures.value ∙ ap₂ (λ u o. crossing_of (not u) u o) c.requires.ends c.side.ensures
    ∙ sym (crossing-directed (reals_of c.args.order) (reals_ring c.args.order)
    (spot_of c.args.order c.args.a.now) (spot_of c.args.order c.args.b.now)
    (spot_of c.args.order c.args.p.now)
    (sym c.requires.starts ∙ other_tests _ _ c.if-starts_above-ends_above.false ∙ ap not c.requires.ends))
