use Rattle.std.proofs.Common.{◌<◌, length, sym, ap, ◌∙◌, subst}
use Rattle.tile_place.specs.declared.placed_tile.PlacedTile.{PlacedTile}
use Rattle.half_glue.proofs.AmongTiles.{kind-is, motion-is, front-there, behind-there}
use Rattle.half_glue.proofs.numbered_tiles.NumberedTiles.place.Goals as goal

pub returns-then-place-count-clause-motion : goal.returns-then-place-count-clause-motion
returns-then-place-count-clause-motion c =
    let tiles = c.args.self.now.tiles.now in
    let n = c.args.number in
    let below : n < length tiles = subst (λ k. n < k) c.len-count.ensures c.if-place-count.true in
    motion-is tiles n below c.motion.result c.motion.ensures
    ∙ ap (λ (x : PlacedTile). x.motion) (sym (front-there tiles c.args.self.now.crossed.now n below))

pub returns-then-place-count-clause-kind : goal.returns-then-place-count-clause-kind
returns-then-place-count-clause-kind c =
    let tiles = c.args.self.now.tiles.now in
    let n = c.args.number in
    let below : n < length tiles = subst (λ k. n < k) c.len-count.ensures c.if-place-count.true in
    kind-is tiles n below c.kind.result c.kind.ensures
    ∙ ap (λ (x : PlacedTile). x.kind) (sym (front-there tiles c.args.self.now.crossed.now n below))

pub returns-else-place-count-clause-motion : goal.returns-else-place-count-clause-motion
returns-else-place-count-clause-motion c =
    let x = c.index-self-place.result in
    ap (λ (x : PlacedTile). x.motion) (sym c.index-self-place.is)
    ∙ ap (λ (x : PlacedTile). x.motion) (sym (behind-there c.args.self.now.tiles.now c.args.self.now.crossed.now c.args.number c.len-count.result
    c.len-count.ensures c.if-place-count.false c.requires x c.index-self-place.is))

pub returns-else-place-count-clause-kind : goal.returns-else-place-count-clause-kind
returns-else-place-count-clause-kind c =
    let x = c.index-self-place.result in
    ap (λ (x : PlacedTile). x.kind) (sym c.index-self-place.is)
    ∙ ap (λ (x : PlacedTile). x.kind) (sym (behind-there c.args.self.now.tiles.now c.args.self.now.crossed.now c.args.number c.len-count.result
    c.len-count.ensures c.if-place-count.false c.requires x c.index-self-place.is))
