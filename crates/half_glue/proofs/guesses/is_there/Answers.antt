use Rattle.std.proofs.Common.{◌<◌, length, sym, ap₂, ◌∙◌, arith}
use Rattle.std.proofs.lemmas.Option.{slice_get-get_or}
use Rattle.tile_place.specs.Keys.{order_numbers}
use Rattle.half_glue.specs.Found.{no_tile, given_tile}
use Rattle.half_glue.proofs.AmongTiles.{kind-is, motion-is}
use Rattle.half_glue.proofs.guesses.is_there.Goals as goal

pub returns : goal.returns
returns c = λ yes.
    let tiles = c.args.tiles.now in
    let n = c.args.place in
    let below : n < length tiles = omega (arith, c.len.ensures, c.if-place-len.false) in (
      given_tile tiles n,
      slice_get-get_or tiles n no_tile below,
      sym (ap₂ order_numbers (motion-is tiles n below c.motion.result c.motion.ensures)
          (kind-is tiles n below c.kind.result c.kind.ensures)) ∙ c.are_alike.ensures yes,
    )
