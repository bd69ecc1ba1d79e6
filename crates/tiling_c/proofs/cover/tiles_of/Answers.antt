use Rattle.std.proofs.Common.{inl, inr}
use Rattle.std.proofs.lemmas.Result.{IfOk-weaker, IfErr-weaker, err_from_is_err_and}
use Rattle.rule_model.specs.Tiling.{tiling_of}
use Rattle.tiling_c.specs.Cover.{FindsTiles, EndsSearch, GivesTiles, RefusesTiles}
use Rattle.tiling_c.proofs.Moved.{given_moved}
use Rattle.tiling_c.proofs.cover.tiles_of.Goals as goal

pub returns-in_err-given-clause-refused : goal.returns-in_err-given-clause-refused
returns-in_err-given-clause-refused c =
    let p = err_from_is_err_and c.from_residual.result c.from_residual.ensures.1 in
    rw (p.1, p.2) (inl c.in_err-given.ensures.refused)

pub returns-clause-given : goal.returns-clause-given
returns-clause-given c =
    let t = tiling_of c.args.machine.now in
    let x = c.in_ok-given.ensures.given in
    IfOk-weaker c.find.result _ (GivesTiles t c.args.frame.now c.args.window.now)
    (λ all found. record {
      window_given = x.window_given;
      named = x.named;
      grown_frame = c.find.new.given.frame;
      found = given_moved (λ f w. FindsTiles t f w c.find.new.given.frame all) _ _ _ _ x.its_frame x.its_window found;
    }) c.find.ensures.found

pub returns-clause-refused : goal.returns-clause-refused
returns-clause-refused c =
    let t = tiling_of c.args.machine.now in
    let x = c.in_ok-given.ensures.given in
    IfErr-weaker c.find.result _ (RefusesTiles t c.args.frame.now c.args.window.now)
    (λ status ended. inr (record {
      window_given = x.window_given;
      named = x.named;
      stopped = given_moved (λ f w. EndsSearch t f w status) _ _ _ _ x.its_frame x.its_window ended;
    })) c.find.ensures.ended
