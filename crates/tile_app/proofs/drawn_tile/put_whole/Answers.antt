use Rattle.std.proofs.Common.{◌≡◌, map, sym, ◌∙◌, subst}
use Rattle.std.proofs.lemmas.Simd.{map-map}
use Rattle.cyclo_points.specs.Motion.{motion_in}
use Rattle.cyclo_points.specs.Order.{points_of}
use Rattle.half_glue.specs.Outline.{outline_by}
use Rattle.rule_model.specs.Tiling.{tiling_of}
use Rattle.rule_model.specs.Views.{rule_of}
use Rattle.theory_substitution.specs.Motion.{moved}
use Rattle.theory_substitution.specs.RuleParts.{vertices_of}
use Rattle.std.specs.Option.{option_map}
use Rattle.tile_app.specs.DrawnTile.{point_of_number, tile_drawn}
use Rattle.tile_app.proofs.drawn_tile.put_whole.Goals as goal

-- the outline of a tile alone is that of the tile
pub returns-in-None-clause-placed : goal.returns-in-None-clause-placed
returns-in-None-clause-placed c =
    let m = c.args.machine.now in
    let a = tile_drawn c.args.first.now in
    subst (λ second. c.put_tile.new.outline.items ≡ map (point_of_number m.order)
    (outline_by (tiling_of m) a (option_map tile_drawn second))) (sym c.in-None.is)
    (c.put_tile.ensures.placed ∙ sym (map-map (point_of_number m.order)
    (moved (points_of m.order) (motion_in m.order a.motion)) (vertices_of (rule_of m) a.kind)))
