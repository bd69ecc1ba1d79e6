use Rattle.std.proofs.Common.{sym, ◌∙◌}
use Rattle.window_cover.proofs.by_descent.is_contained.Goals as goal

pub returns-clause-found : goal.returns-clause-found
returns-clause-found c = λ k. c.contain.ensures.found_exactly.0 (sym c.is_ok.ensures.value ∙ k)
