use Rattle.std.proofs.lemmas.Result.{err_from_is_err_and}
use Rattle.rule_model.specs.Tiling.{tiling_of}
use Rattle.tile_app.proofs.Covering.{refused_if_err, at_most_limit, can_be_drawn}
use Rattle.tile_app.proofs.Gluing.{wholes-drawn, may-be-given, glue_refused_if_err}
use Rattle.tile_app.proofs.Pictured.{pictures-tiles, pictures-wholes}
use Rattle.tile_app.proofs.draw.pictured.Goals as goal

-- ---- the search
pub returns-in_err-tiles-clause-refused : goal.returns-in_err-tiles-clause-refused
returns-in_err-tiles-clause-refused c =
    let p = err_from_is_err_and c.from_residual.result c.from_residual.ensures.1 in
    rw (p.1, p.2) (refused_if_err c.args.whole
    (tiling_of c.args.machine.now) c.args.window.now c.args.frame.now c.covered_tiles.new.frame
    c.covered_tiles.ensures.frame c.covered_tiles.result c.in_err-tiles.field-0.0 c.in_err-tiles.was
    c.in_err-tiles.ensures.cause c.covered_tiles.ensures.answered)

pub returns-in_err-find_tiles-clause-refused : goal.returns-in_err-find_tiles-clause-refused
returns-in_err-find_tiles-clause-refused c =
    let p = err_from_is_err_and c.from_residual-in_err-find_tiles.result c.from_residual-in_err-find_tiles.ensures.1 in
    rw (p.1, p.2) (refused_if_err c.args.whole
    (tiling_of c.args.machine.now) c.args.window.now c.args.frame.now c.find_tiles.new.frame
    c.find_tiles.ensures.ends.frame c.find_tiles.result
    c.in_err-find_tiles.field-0.0
    c.in_err-find_tiles.was c.in_err-find_tiles.ensures.ends.cause c.find_tiles.ensures.ends.answered)

-- ---- what is given to be glued
pub glue_covered-requires-clause-to_glue : goal.glue_covered-requires-clause-to_glue
glue_covered-requires-clause-to_glue c =
    let t = tiling_of c.args.machine.now in
    let f = c.args.frame.now in
    let g = c.covered_tiles.new.frame in
    let w = c.args.window.now in
    let tiles = c.in_ok-tiles.tiles in
    let x = c.in_ok-tiles.ensures in
    record {
      frame = x.frame.is_frame;
      few = at_most_limit t f g w c.requires.frame x.frame x.within x.least tiles x.drawn;
      given = may-be-given t g tiles (c.given_law.ensures t g) x.stand
          (can_be_drawn t f g w c.requires.frame x.frame x.within x.least tiles x.drawn x.stand);
    }

pub returns-in_err-wholes-clause-refused : goal.returns-in_err-wholes-clause-refused
returns-in_err-wholes-clause-refused c =
    let x = c.in_ok-tiles.ensures in
    let p = err_from_is_err_and c.from_residual-in_err-wholes.result c.from_residual-in_err-wholes.ensures.1 in
    rw (p.1, p.2) (glue_refused_if_err c.args.whole
    (tiling_of c.args.machine.now) c.args.window.now c.if-whole.true c.args.frame.now c.covered_tiles.new.frame x.within
    c.in_ok-tiles.tiles (record {
      grown = x.frame;
      least = x.least;
      stand = x.stand;
      drawn = x.drawn;
      in_order = x.in_order;
      covered = x.covered;
    }) c.glue_covered.new.frame c.glue_covered.ensures.ends.frame
    c.glue_covered.result c.in_err-wholes.field-0.0 c.in_err-wholes.was
    c.in_err-wholes.ensures.ends.cause c.glue_covered.ensures.ends.answered)

-- ---- the pictures
pub returns-in_ok-wholes-clause-can : goal.returns-in_ok-wholes-clause-can
returns-in_ok-wholes-clause-can c =
    let t = tiling_of c.args.machine.now in
    let g = c.covered_tiles.new.frame in
    let h = c.glue_covered.new.frame in
    let tiles = c.in_ok-tiles.tiles in
    let wholes = c.in_ok-wholes.wholes in
    let x = c.in_ok-tiles.ensures in
    let y = c.in_ok-wholes.ensures in
    let given = may-be-given t g tiles (c.given_law.ensures t g) x.stand
    (can_be_drawn t c.args.frame.now g c.args.window.now c.requires.frame x.frame x.within x.least tiles x.drawn x.stand) in (
      wholes-drawn t h c.whole_tiles_law.ensures.glue_edge tiles wholes y.whole_tiles
          (c.parts_law.ensures g h tiles wholes x.frame.is_frame y.ends.frame given y.ends.within y.whole_tiles),
      c.new.ensures,
    )

pub returns-in_ok-wholes-clause-pictures : goal.returns-in_ok-wholes-clause-pictures
returns-in_ok-wholes-clause-pictures c =
    let t = tiling_of c.args.machine.now in
    let x = c.in_ok-tiles.ensures in
    let y = c.in_ok-wholes.ensures in
    let laws = c.whole_tiles_law.ensures in
    pictures-wholes c.args.whole t c.args.window.now c.args.frame.now c.covered_tiles.new.frame x.within c.in_ok-tiles.tiles
    (record { grown = x.frame; least = x.least; stand = x.stand; drawn = x.drawn; in_order = x.in_order; covered = x.covered })
    c.if-whole.true laws.counts laws.covering c.glue_covered.new.frame y.ends.frame y.ends.least y.ends.within c.in_ok-wholes.wholes
    y.whole_tiles y.in_order

pub returns-in_ok-find_tiles-clause-can : goal.returns-in_ok-find_tiles-clause-can
returns-in_ok-find_tiles-clause-can c =
    let x = c.in_ok-find_tiles.ensures in
    can_be_drawn (tiling_of c.args.machine.now) c.args.frame.now c.find_tiles.new.frame
    c.args.window.now c.requires.frame x.ends.frame x.found.within x.found.least c.in_ok-find_tiles.field-0 x.found.drawn
    x.found.stand

pub returns-in_ok-find_tiles-clause-pictures : goal.returns-in_ok-find_tiles-clause-pictures
returns-in_ok-find_tiles-clause-pictures c =
    let x = c.in_ok-find_tiles.ensures in
    pictures-tiles c.args.whole
    (tiling_of c.args.machine.now) c.args.window.now c.args.frame.now c.find_tiles.new.frame x.found.within c.in_ok-find_tiles.field-0
    (record {
      grown = x.ends.frame;
      least = x.found.least;
      stand = x.found.stand;
      drawn = x.found.drawn;
      in_order = x.found.in_order;
      covered = x.found.covered;
    })
    c.if-whole.false
