use Rattle.std.proofs.Common.{sym}
use Rattle.tile_shape.specs.Views.{address_of}
use Rattle.transducer_core.proofs.laws.return_law.Goals as goal

pub returns-in-Ok-step_across-clause-same_tile : goal.returns-in-Ok-step_across-clause-same_tile
returns-in-Ok-step_across-clause-same_tile g c =
    let back = c.in-Ok.ensures.crossing.across.leads_back in
    sym (c.in-Ok-step_across.ensures.crossing.across.only.only (address_of c.args.addr.now) c.args.edge back.fits back.touched).0

pub returns-in-Ok-step_across-clause-same_edge : goal.returns-in-Ok-step_across-clause-same_edge
returns-in-Ok-step_across-clause-same_edge g c =
    let back = c.in-Ok.ensures.crossing.across.leads_back in
    sym (c.in-Ok-step_across.ensures.crossing.across.only.only (address_of c.args.addr.now) c.args.edge back.fits back.touched).1

pub returns-in-Err-step_across-clause-none_on_boundary : goal.returns-in-Err-step_across-clause-none_on_boundary
returns-in-Err-step_across-clause-none_on_boundary g c = λ none.
    let back = c.in-Ok.ensures.crossing.across.leads_back in
    let never = c.in-Err-step_across.ensures.crossing.across_when (address_of c.args.addr.now) c.args.edge back.fits back.touched in
    absurd cc

pub returns-in-Ok-step_across-clause-none_when : goal.returns-in-Ok-step_across-clause-none_when
returns-in-Ok-step_across-clause-none_when g c = λ top part lies.
    let never = c.in-Ok.ensures.crossing.boundary_when top part lies in
    absurd cc
