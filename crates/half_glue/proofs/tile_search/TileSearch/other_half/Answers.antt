use Rattle.std.proofs.Common.{subst}
use Rattle.rule_model.specs.Tiling.{tiling_of}
use Rattle.tile_place.specs.declared.placed_tile.PlacedTile.{PlacedTile}
use Rattle.half_glue.specs.Ends.{FindsHalf}
use Rattle.half_glue.proofs.TileSearches.{as-given, motion-fits, kind-below, found-alone, other-right, found-given, to-cross}
use Rattle.half_glue.proofs.tile_search.TileSearch.other_half.Goals as goal

pub bounds : goal.bounds
bounds c = kind-below c.args.self.now c.glue_laws.ensures c.requires.sought c.args.frame.now c.args.place c.requires.to_find
    c.index-self-place.result c.from.result c.from.ensures

pub returns-in-None : goal.returns-in-None
returns-in-None c = found-alone c.args.self.now c.glue_laws.ensures c.requires.sought c.args.frame.now c.args.place c.requires.to_find
    c.index-self-place.result c.from.result c.from.ensures c.in-None.is

pub given_half-requires-clause-other : goal.given_half-requires-clause-other
given_half-requires-clause-other c =
    other-right c.args.self.now c.glue_laws.ensures c.requires.sought c.args.frame.now c.args.place c.requires.to_find
    c.index-self-place.result c.from.result c.from.ensures c.in-Some.side c.in-Some.is

pub given_half-requires-clause-motion : goal.given_half-requires-clause-motion
given_half-requires-clause-motion c =
    motion-fits c.args.self.now c.glue_laws.ensures c.requires.sought c.args.frame.now c.args.place c.requires.to_find
    c.index-self-place.result

pub returns-in-Some-given_half : goal.returns-in-Some-given_half
returns-in-Some-given_half c =
    found-given c.args.self.now c.glue_laws.ensures c.requires.sought c.args.frame.now c.args.place c.requires.to_find
    c.index-self-place.result c.from.result c.from.ensures c.in-Some.side c.in-Some.is
    c.in-Some-given_half.other c.in-Some-given_half.ensures

pub crossed_half-requires : goal.crossed_half-requires
crossed_half-requires c = to-cross c.args.self.now c.glue_laws.ensures c.requires.sought c.args.frame.now c.args.place c.requires.to_find
    c.index-self-place.result c.from.result c.from.ensures c.in-Some.side c.in-Some.is

pub returns : goal.returns
returns c =
    let tiles = c.args.self.now.tiles.now in
    subst (λ (x : PlacedTile). FindsHalf (tiling_of c.args.self.now.machine.now) c.args.frame.now c.crossed_half.new.frame tiles x
    c.crossed_half.result)
    (as-given c.args.self.now c.glue_laws.ensures c.requires.sought c.args.frame.now c.args.place c.requires.to_find
    c.index-self-place.result)
    (c.crossed_half.ensures tiles)
