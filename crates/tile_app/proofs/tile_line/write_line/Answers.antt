use Rattle.std.proofs.Common.{◌++◌, ◌∙◌, ap}
use Rattle.std.specs.Fmt.{decimal}
use Rattle.cyclo_points.specs.Point.{point_in}
use Rattle.cyclo_points.specs.Text.{motion_text, point_text, number_text}
use Rattle.cyclo_points.proofs.Coefficients.{point_text-number}
use Rattle.tile_shape.specs.Text.{address_text}
use Rattle.tile_shape.specs.Views.{address_of}
use Rattle.tile_app.proofs.Walking.{line_put, pieces_of_walk}
use Rattle.tile_app.proofs.tile_line.write_line.Goals as goal

pub returns : goal.returns
returns c = λ order h kind.
    let tile = c.args.tile.now in
    let made = line_put _ _ _ _ _ _ _ _ (decimal tile.kind) (motion_text tile.motion) (address_text (address_of tile.addr)) (decimal c.args.back)
    c.clear.ensures c.put.ensures c.put_small.ensures.number c.put-2.ensures c.put_address.ensures.address
    c.put-3.ensures c.put_motion.ensures.motion c.put-4.ensures c.put_small-2.ensures.number in
    c.in_ok-extend_from_slice.ensures.items
    ∙ ap (λ bs. c.args.text.now.items ++ bs) (c.as_bytes.ensures ∙ made
    ∙ pieces_of_walk (decimal tile.kind) (decimal tile.addr.kind) (decimal tile.motion.turn)
    (point_text tile.motion.shift) (number_text order (point_in order tile.motion.shift))
    (address_text (address_of tile.addr)) (decimal c.args.back)
    (point_text-number order tile.motion.shift h) (ap decimal kind))
