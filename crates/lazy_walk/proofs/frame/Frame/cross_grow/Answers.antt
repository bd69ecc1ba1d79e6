use Rattle.std.proofs.Common.{subst, arith}
use Rattle.std.proofs.lemmas.Grind.{common_steps}
use Rattle.theory_addresses.specs.Address.{Address}
use Rattle.rule_model.specs.Tiling.{tiling_of}
use Rattle.theory_walks.specs.Boundary.{IsBoundaryEdge}
use Rattle.theory_walks.specs.Frames.{lifted_at}
use Rattle.lazy_walk.proofs.frame.Frame.cross_grow.Goals as goal

pub returns-in-Ok-clause-least : goal.returns-in-Ok-clause-least
returns-in-Ok-clause-least g c = λ n l h. subst
    (λ (a : Address). IsBoundaryEdge (tiling_of c.args.machine.now)
    (lifted_at (tiling_of c.args.machine.now) c.args.self.now a n) c.args.edge)
    c.copy-across.ensures.seen (c.cross_grow_in_place.ensures.least n l h)

pub returns-in-Err-clause-least : goal.returns-in-Err-clause-least
returns-in-Err-clause-least g c = λ n l h. subst
    (λ (a : Address). IsBoundaryEdge (tiling_of c.args.machine.now)
    (lifted_at (tiling_of c.args.machine.now) c.args.self.now a n) c.args.edge)
    c.copy-across.ensures.seen (c.cross_grow_in_place.ensures.least n l h)

pub cross_grow_in_place-requires-clause-of_frame : goal.cross_grow_in_place-requires-clause-of_frame
cross_grow_in_place-requires-clause-of_frame g c = grind (arith, common_steps)

pub returns-in-Ok-clause-crossed : goal.returns-in-Ok-clause-crossed
returns-in-Ok-clause-crossed g c = grind (arith, common_steps)

pub returns-in-Ok-clause-limit_exactly : goal.returns-in-Ok-clause-limit_exactly
returns-in-Ok-clause-limit_exactly g c = grind (arith, common_steps)
