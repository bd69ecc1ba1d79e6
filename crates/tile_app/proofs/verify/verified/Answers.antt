use Rattle.std.proofs.lemmas.Result.{err_from_is_err_and}
use Rattle.rule_model.specs.Tiling.{tiling_of}
use Rattle.tile_app.proofs.Turned.{listing_refused}
use Rattle.tile_app.proofs.verify.verified.Goals as goal

pub returns-in_err-lines-clause-refused : goal.returns-in_err-lines-clause-refused
returns-in_err-lines-clause-refused c =
    let p = err_from_is_err_and c.from_residual.result c.from_residual.ensures.1 in
    listing_refused (tiling_of c.args.machine.now) c.args.frame.now c.args.window.now c.args.listing.now
    c.verify.new.frame c.verify.ensures.frame c.verify.result c.in_err-lines.field-0.0 c.in_err-lines.was
    c.verify.ensures.cause c.from_residual.result p.0 p.1 p.2

pub returns-in_err-right_line-clause-refused : goal.returns-in_err-right_line-clause-refused
returns-in_err-right_line-clause-refused c =
    let p = err_from_is_err_and c.from_residual-in_err-right_line.result c.from_residual-in_err-right_line.ensures.1 in
    rw (p.1, p.2) tt

pub returns-clause-printed : goal.returns-clause-printed
returns-clause-printed c = (c.in_ok-lines.lines, c.in_ok-lines.ensures.right, c.in_ok-right_line.ensures)
