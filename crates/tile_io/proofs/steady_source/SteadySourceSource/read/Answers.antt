use Rattle.std.proofs.Common.{arith, ap, sym, take, ◌∙◌}
use Rattle.tile_io.proofs.LeftLemmas.{given_then_left}
use Rattle.tile_io.proofs.steady_source.SteadySourceSource.read.Goals as goal

pub returns-clause-gives : goal.returns-clause-gives
returns-clause-gives c =
    let count = c.min-count.result in
    given_then_left c.self.inside.bytes.items c.args.self.now c.copy_from_slice.new.self _ c.self.inside.at count
    c.self.view_is
    (c.copy_from_slice.ensures.after ∙ ap (take count) c.left-left.ensures)
    (rw (sym c.left-left.ensures) (omega (arith, c.min-count.ensures)))
