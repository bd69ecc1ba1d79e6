use Rattle.std.proofs.Common.{arith, ap, sym, refl, take, drop, ◌∙◌}
use Rattle.tile_io.proofs.LeftLemmas.{given_then_left}
use Rattle.tile_io.proofs.mem_source.MemSourceSource.read.Goals as goal

pub returns-clause-gives : goal.returns-clause-gives
returns-clause-gives c =
    let source = c.self.inside in
    let count = c.min-count.result in
    sym (ap (λ given. given.left) c.self.view_is)
    ∙ given_then_left source.bytes.items (drop source.at source.bytes.items) c.copy_from_slice.new.self _ source.at count
    refl
    (c.copy_from_slice.ensures.after ∙ ap (take count) c.left-left.ensures)
    (rw (sym c.left-left.ensures) (omega (arith, c.min.ensures, c.min-count.ensures)))
