use Rattle.std.proofs.Common.{◌≡◌, ◌++◌, All, List, length, ap, sym, subst, arith}
use Rattle.std.proofs.lemmas.List.{length-append}
use Rattle.std.proofs.lemmas.List.Elements.{All-append}
use Rattle.cyclo_points.specs.declared.point.Point.{Point}
use Rattle.layer_api.specs.Drawable.{IsNear}
use Rattle.tile_app.proofs.Outlines.{filled-up}
use Rattle.tile_app.proofs.drawn_tile.put_halves.Goals as goal

pub returns-clause-near : goal.returns-clause-near
returns-clause-near c =
    let near = IsNear c.args.machine.now.order in
    let xs = c.overwrite_first_half.new.points in
    let ys = c.overwrite_second_half.new.points in
    let split = c.split_at_mut-of_first.ensures in
    let long = length-append xs ys in
    let all = ap (λ (zs : List Point). length zs) c.as_mut_slice.ensures.value in
    let fits : length (xs ++ ys) ≡ length c.resize.new.outline.items = omega (
      arith,
      long,
      all,
      split.front_len,
      split.back_len,
      c.overwrite_first_half.auto.points,
      c.overwrite_second_half.auto.points,
      c.resize.ensures,
      c.vertices.ensures.each_edge,
    ) in
    subst (All near) (sym (filled-up (length c.resize.new.outline.items) c.resize.new.outline.items (xs ++ ys) fits))
    (All-append near xs ys c.overwrite_first_half.ensures.near c.overwrite_second_half.ensures.near)
