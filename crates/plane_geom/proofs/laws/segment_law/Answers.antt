use Rattle.plane_geom.specs.Spots.{reals_of}
use Rattle.theory_plane.proofs.OnSegment.{between-on_segment, on_segment-between}
use Rattle.plane_geom.proofs.laws.segment_law.Goals as goal

pub returns : goal.returns
returns c =
    let w = c.points_law.ensures in
    λ a b p. (
      between-on_segment (reals_of c.args.order) w.of_real w.of_order a b p,
      on_segment-between
          (reals_of c.args.order) w.of_real w.of_order a b p,
    )
