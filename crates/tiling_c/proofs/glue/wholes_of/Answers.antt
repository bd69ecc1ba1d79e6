use Rattle.std.proofs.Common.{inl, inr, arith}
use Rattle.std.proofs.lemmas.Result.{IfOk-weaker, IfErr-weaker, err_from_is_err_and}
use Rattle.rule_model.specs.Tiling.{tiling_of}
use Rattle.tile_app.proofs.Covering.{can_be_drawn}
use Rattle.tile_app.proofs.Gluing.{may-be-given}
use Rattle.window_cover.specs.Windows.{box_of}
use Rattle.c_values.specs.Windows.{window_in}
use Rattle.tiling_c.specs.Cover.{EndsSearch, FindsTiles}
use Rattle.tiling_c.specs.Glue.{GivesWholes, RefusesWholes}
use Rattle.tiling_c.proofs.Moved.{given_moved}
use Rattle.tiling_c.proofs.WholesFew.{wholes_few}
use Rattle.tiling_c.proofs.glue.wholes_of.Goals as goal

pub returns-in_err-given-clause-refused : goal.returns-in_err-given-clause-refused
returns-in_err-given-clause-refused c =
    let p = err_from_is_err_and c.from_residual.result c.from_residual.ensures.1 in
    rw (p.1, p.2) (inl c.in_err-given.ensures.refused)

pub returns-in_err-tiles-clause-refused : goal.returns-in_err-tiles-clause-refused
returns-in_err-tiles-clause-refused c =
    let t = tiling_of c.args.machine.now in
    let given = c.in_ok-given.ensures.given in
    let ended = given_moved (λ f w. EndsSearch t f w c.in_err-tiles.field-0.0) _ _ _ _ given.its_frame given.its_window
    c.in_err-tiles.ensures.ended in
    let p = err_from_is_err_and c.from_residual-in_err-tiles.result c.from_residual-in_err-tiles.ensures.1 in
    rw (p.1, p.2) (inr (record {
      window_given = given.window_given;
      named = given.named;
      ended = inl ended.ended;
      answered = λ within _. ended.answered within;
    }))

-- ---- what is given to be glued
pub glue-requires-clause-to_glue : goal.glue-requires-clause-to_glue
glue-requires-clause-to_glue c =
    let t = tiling_of c.args.machine.now in
    let given = c.in_ok-given.ensures.given in
    let g = c.find.new.given.frame in
    let x = c.in_ok-tiles.ensures.found in
    let exactly = x.exactly in
    record {
      frame = exactly.grown.is_frame;
      few = x.few;
      given = may-be-given t g c.in_ok-tiles.tiles (c.given_law.ensures t g) exactly.stand
          (can_be_drawn t _ g _ given.is_frame exactly.grown x.within exactly.least c.in_ok-tiles.tiles exactly.drawn exactly.stand);
    }

-- ---- the whole tiles
pub returns-clause-given : goal.returns-clause-given
returns-clause-given c =
    let t = tiling_of c.args.machine.now in
    let given = c.in_ok-given.ensures.given in
    let g = c.find.new.given.frame in
    let tiles = c.in_ok-tiles.tiles in
    let x = given_moved (λ f w. FindsTiles t f w g tiles) _ _ _ _ given.its_frame given.its_window c.in_ok-tiles.ensures.found in
    IfOk-weaker c.glue.result _ (GivesWholes t c.args.frame.now c.args.window.now)
    (λ all glued. let fewer = wholes_few t c.glue.new.frame tiles all c.whole_tiles_law.ensures.once glued.whole_tiles glued.in_order in record {
      window_given = given.window_given;
      named = given.named;
      within = x.within;
      grown_frame = g;
      tiles = tiles;
      exactly = x.exactly;
      glued_frame = c.glue.new.frame;
      glued = glued;
      few = omega (arith, x.few, fewer);
      cover = c.whole_tiles_law.ensures.covering g c.glue.new.frame (box_of t (window_in t.order c.args.window.now)) tiles all
          x.exactly.grown.is_frame glued.grown x.exactly.stand x.exactly.covered glued.whole_tiles glued.in_order;
    }) c.glue.ensures.glued

-- ---- the gluing ended
pub returns-clause-refused : goal.returns-clause-refused
returns-clause-refused c =
    let t = tiling_of c.args.machine.now in
    let given = c.in_ok-given.ensures.given in
    let g = c.find.new.given.frame in
    let tiles = c.in_ok-tiles.tiles in
    let x = given_moved (λ f w. FindsTiles t f w g tiles) _ _ _ _ given.its_frame given.its_window c.in_ok-tiles.ensures.found in
    IfErr-weaker c.glue.result _ (RefusesWholes t c.args.frame.now c.args.window.now)
    (λ status ended. inr (record {
      window_given = given.window_given;
      named = given.named;
      ended = inr (record { frame = g; tiles = tiles; exactly = x.exactly; ended = ended.ended });
      answered = λ _ can. ended.answered (can g tiles x.exactly.grown x.exactly.least x.exactly.stand x.exactly.drawn);
    })) c.glue.ensures.ended
