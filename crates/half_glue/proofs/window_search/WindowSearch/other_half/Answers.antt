use Rattle.std.proofs.Common.{sym, subst}
use Rattle.rule_model.specs.Tiling.{tiling_of}
use Rattle.tile_place.specs.declared.placed_tile.PlacedTile.{PlacedTile}
use Rattle.half_glue.specs.Ends.{FindsHalf}
use Rattle.half_glue.proofs.AmongTiles.{tile-is}
use Rattle.half_glue.proofs.WindowSearches.{motion-fits, kind-below, found-alone, other-right, found-among, to-cross}
use Rattle.half_glue.proofs.window_search.WindowSearch.other_half.Goals as goal

pub bounds : goal.bounds
bounds c = kind-below c.args.self.now c.glue_laws.ensures c.requires.sought c.args.frame.now c.args.place c.requires.to_find
    c.kind-kind.result c.kind-kind.ensures c.from.result c.from.ensures

pub returns-in-None : goal.returns-in-None
returns-in-None c = found-alone c.args.self.now c.glue_laws.ensures c.requires.sought c.args.frame.now c.args.place c.requires.to_find
    c.kind-kind.result c.kind-kind.ensures c.from.result c.from.ensures c.in-None.is

pub half_among-requires-clause-other : goal.half_among-requires-clause-other
half_among-requires-clause-other c =
    other-right c.args.self.now c.glue_laws.ensures c.requires.sought c.args.frame.now c.args.place c.requires.to_find
    c.kind-kind.result c.kind-kind.ensures c.from.result c.from.ensures c.in-Some.side c.in-Some.is

pub half_among-requires-clause-motion : goal.half_among-requires-clause-motion
half_among-requires-clause-motion c =
    motion-fits c.args.self.now c.glue_laws.ensures c.requires.sought c.args.frame.now c.args.place c.requires.to_find
    c.motion-motion.result c.motion-motion.ensures

pub returns-in-Some-half_among : goal.returns-in-Some-half_among
returns-in-Some-half_among c =
    found-among c.args.self.now c.glue_laws.ensures c.requires.sought c.args.frame.now c.args.place c.requires.to_find
    c.kind-kind.result c.kind-kind.ensures c.from.result c.from.ensures c.in-Some.side c.in-Some.is
    c.motion-motion.result c.motion-motion.ensures c.in-Some-half_among.other c.in-Some-half_among.ensures

pub crossed_half-requires : goal.crossed_half-requires
crossed_half-requires c = to-cross c.args.self.now c.glue_laws.ensures c.requires.sought c.args.frame.now c.args.place c.requires.to_find
    c.kind-kind.result c.kind-kind.ensures c.from.result c.from.ensures c.in-Some.side c.in-Some.is
    c.tile-tile.result c.tile-tile.ensures

pub returns : goal.returns
returns c =
    let tiles = c.args.self.now.tiles.now in
    subst (λ (x : PlacedTile). FindsHalf (tiling_of c.args.self.now.machine.now) c.args.frame.now c.crossed_half.new.frame tiles x
    c.crossed_half.result)
    (sym (tile-is tiles c.args.place c.requires.to_find.below c.tile-tile.result c.tile-tile.ensures))
    (c.crossed_half.ensures tiles)
