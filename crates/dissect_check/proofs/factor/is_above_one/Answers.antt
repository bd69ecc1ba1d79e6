use Rattle.std.proofs.Common.{◌+◌, ◌*◌, ◌^◌, pos, refl, ap, ap₂, sym, ◌∙◌, arith}
use Rattle.std.specs.Ordering.{is_gt}
use Rattle.std.proofs.lemmas.Cmp.{is_gt_index}
use Rattle.std.proofs.lemmas.Int.{ints}
use Rattle.theory_ring.specs.Ring.{difference}
use Rattle.plane_geom.specs.Spots.{reals_of}
use Rattle.cyclo_points.proofs.Within.{real_wider, whole_is}
use Rattle.dissect_check.proofs.factor.is_above_one.Goals as goal

pub sign-requires : goal.sign-requires
sign-requires c = record {
  r_within = real_wider (4 * 2 ^ 16 + 2) (2 ^ 61) c.rsub.result (omega arith)
      (c.rsub.ensures.bounded (4 * 2 ^ 16) 2 (c.x.ensures.bounded (2 ^ 16) c.requires.within)
      (record {
        at_a = record { low = omega (arith, ints); high = omega (arith, ints) };
        at_b = record { low = omega (arith, ints); high = omega (arith, ints) };
      }));
}

pub returns : goal.returns
returns c =
    let o = c.args.order in
    c.eq.ensures
    ∙ sym (is_gt_index c.sign.result)
    ∙ ap is_gt (c.sign.ensures ∙ ap (reals_of o).sign
    (c.rsub.ensures.is_difference o ∙ ap₂ (difference (reals_of o).ops) c.x.ensures.coordinate
    (whole_is o (pos 2) 2 refl)))
