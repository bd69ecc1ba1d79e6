use Rattle.std.proofs.Common.{◌≡◌, ◌-◌, ◌<◌, length, get_or, sym, ◌∙◌, subst, rules}
use Rattle.tile_place.specs.declared.placed_tile.PlacedTile.{PlacedTile}
use Rattle.half_glue.proofs.AmongTiles.{tile-is, front-there, behind-there}
use Rattle.half_glue.proofs.numbered_tiles.NumberedTiles.put.Goals as goal

pub returns-then-place-count : goal.returns-then-place-count
returns-then-place-count c =
    let tiles = c.args.self.now.tiles.now in
    let n = c.args.number in
    let below : n < length tiles = subst (λ k. n < k) c.len-count.ensures c.if-place-count.true in
    sym (front-there tiles c.args.self.now.crossed.now n below ∙ tile-is tiles n below _ c.put.ensures)

pub returns-else-place-count : goal.returns-else-place-count
returns-else-place-count c =
    let d = c.index-self-place.result in
    let x : PlacedTile = get_or c.args.self.now.crossed.now (c.args.number - c.len-count.result) d in
    let e = behind-there c.args.self.now.tiles.now c.args.self.now.crossed.now c.args.number c.len-count.result
    c.len-count.ensures c.if-place-count.false c.requires d c.index-self-place.is in
    let own : PlacedTile = record { kind = x.kind; motion = x.motion; addr = c.copy.result } in
    let same : ◌≡◌ {A = PlacedTile} own x = search rules in
    same ∙ sym c.index-self-place.is ∙ sym e
