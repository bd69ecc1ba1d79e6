use Rattle.std.proofs.Common.{◌≡◌, ◌*◌, ◌^◌, length, lit≤, rules}
use Rattle.cyclo_points.proofs.Within.{point_wider}
use Rattle.tile_app.proofs.Covering.{reduced-is}
use Rattle.tile_app.proofs.Windows.{window_made}
use Rattle.tile_app.proofs.window.window_in.Goals as goal

pub returns-clause-window : goal.returns-clause-window
returns-clause-window c =
    let four : length c.reduce.result.c ≡ 4 = search rules in
    window_made c.args.asked.now.half
    (reduced-is c.args.order c.args.asked.now.at c.reduce.result four c.reduce.ensures.in_order c.reduce.ensures.same_number)

pub returns-clause-fits : goal.returns-clause-fits
returns-clause-fits c =
    let half = c.requires.asked.half in
    record {
      some_width = half.some_width;
      some_height = half.some_height;
      width_fits = half.width_fits;
      height_fits = half.height_fits;
      centre_within = point_wider (3 * 2 ^ 20) (2 ^ 22) _ (lit≤ tt) (c.reduce.ensures.at_most_tripled (2 ^ 20) c.requires.asked.centre);
    }
