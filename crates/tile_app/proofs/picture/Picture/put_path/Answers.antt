use Rattle.std.proofs.Common.{◌<◌, IfSome, length, map, slice_get, sym, subst}
use Rattle.layer_api.specs.declared.drawn.Drawn.{Drawn}
use Rattle.rule_model.specs.Tiling.{tiling_of}
use Rattle.tile_place.specs.declared.placed_tile.PlacedTile.{PlacedTile}
use Rattle.tile_app.specs.declared.picture.Picture.{Picture}
use Rattle.tile_app.specs.DrawnTile.{drawn_of, drawn_whole, whole_by}
use Rattle.tile_app.specs.Looks.{HaveSamePath}
use Rattle.tile_app.specs.Pictured.{picture_of}
use Rattle.tile_app.proofs.Places.{tile-path, whole-path}
use Rattle.tile_app.proofs.picture.Picture.put_path.Goals as goal

pub returns-in-Tiles-clause-path : goal.returns-in-Tiles-clause-path
returns-in-Tiles-clause-path c =
    let t = tiling_of c.args.machine.now in
    let i = c.args.place in
    let tiles = c.in-Tiles.tiles in
    let y : PlacedTile = record { kind = c.kind-drawn.result; motion = c.motion-drawn.result; addr = c.args.drawn.now.first.addr } in
    let below : i < length (map (drawn_of t) tiles) = subst (λ (p : Picture). i < length (picture_of t p)) c.in-Tiles.is c.requires.below in
    subst (λ (p : Picture). IfSome (slice_get (picture_of t p) i) (HaveSamePath c.fill.new.drawn)) (sym c.in-Tiles.is)
    (subst (λ (d : Drawn). IfSome (slice_get (map (drawn_of t) tiles) i) (HaveSamePath d)) (sym c.fill.ensures.tile)
    (tile-path t i tiles y below c.motion-drawn.ensures c.kind-drawn.ensures))

pub returns-in-Wholes-clause-path : goal.returns-in-Wholes-clause-path
returns-in-Wholes-clause-path c =
    let t = tiling_of c.args.machine.now in
    let i = c.args.place in
    let wholes = c.in-Wholes.wholes in
    let v = whole_by c.put_places.new.drawn.first c.put_places.new.drawn.second in
    let below : i < length (map (drawn_whole t) wholes) = subst (λ (p : Picture). i < length (picture_of t p)) c.in-Wholes.is c.requires.below in
    subst (λ (p : Picture). IfSome (slice_get (picture_of t p) i) (HaveSamePath c.fill_whole.new.drawn)) (sym c.in-Wholes.is)
    (subst (λ (d : Drawn). IfSome (slice_get (map (drawn_whole t) wholes) i) (HaveSamePath d)) (sym c.fill_whole.ensures.tile)
    (whole-path t i wholes v below c.put_places.ensures))
