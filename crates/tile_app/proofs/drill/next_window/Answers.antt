use Rattle.std.proofs.Common.{◌≡◌, ◌+◌, ◌*◌, ◌^◌, length, ap, ap₂, ◌∙◌, lit≤, rules, arith}
use Rattle.cyclo_points.proofs.Within.{point_wider}
use Rattle.seeded_growth.specs.Words.{word}
use Rattle.tile_app.specs.Windows.{reduced}
use Rattle.tile_app.specs.Drill.{extent_of}
use Rattle.tile_app.proofs.Covering.{reduced-is}
use Rattle.tile_app.proofs.drill.next_window.Goals as goal

pub reduce-requires : goal.reduce-requires
reduce-requires c = record { p_within = point_wider 32 (2 ^ 40) _ (lit≤ tt) c.next_centre-centre.ensures.within }

pub returns-clause-window : goal.returns-clause-window
returns-clause-window c =
    let o = c.args.order in
    let stream = c.args.growth.now in
    let centre = c.next_centre-centre in
    let width = c.next_extent-width in
    let height = c.next_extent-height in
    let four : length c.reduce.result.c ≡ 4 = search rules in
    let s1 = centre.ensures.same_start in
    let e0 = reduced-is o centre.result c.reduce.result four c.reduce.ensures.in_order c.reduce.ensures.same_number ∙ ap
    (reduced o) centre.ensures.centre in
    let t1 : centre.new.growth.taken ≡ stream.taken + 4 = centre.ensures.four_words in
    let t2 : width.new.growth.taken ≡ stream.taken + 5 = omega arith in
    let e1 = width.ensures.number ∙ ap₂ (λ s t. extent_of (word s t)) s1 t1 in
    let e2 = height.ensures.number ∙ ap₂ (λ s t. extent_of (word s t)) (width.ensures.same_start ∙ s1) t2 in
    λ i. record { centre = e0 i; w = e1 i; h = e2 i }

pub returns-clause-fits : goal.returns-clause-fits
returns-clause-fits c =
    let width = c.next_extent-width.ensures in
    let height = c.next_extent-height.ensures in
    record {
      some_width = width.some;
      some_height = height.some;
      width_fits = omega arith;
      height_fits = omega arith;
      centre_within = point_wider (3 * 32) (2 ^ 22) _ (lit≤ tt) (c.reduce.ensures.at_most_tripled 32 c.next_centre-centre.ensures.within);
    }
