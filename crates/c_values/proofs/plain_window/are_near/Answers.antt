use Rattle.std.proofs.Common.{rules, ◌^◌}
use Rattle.cyclo_points.specs.Point.{Within, coefficient}
use Rattle.c_values.proofs.plain_window.are_near.Goals as goal

pub returns : goal.returns
returns c =
    let a : Within (2 ^ 20) (coefficient c.args.p.now 0) = search rules in
    let b : Within (2 ^ 20) (coefficient c.args.p.now 1) = search rules in
    let d : Within (2 ^ 20) (coefficient c.args.p.now 2) = search rules in (
      λ h. let e = c.is_near-4.ensures.0 h in record
          { at_0 = a; at_1 = b; at_2 = d; at_3 = search (rules, e) },
      λ w. let e = w.at_3 in search (rules, e),
    )
