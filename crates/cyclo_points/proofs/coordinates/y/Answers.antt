use Rattle.std.proofs.Common.{◌∙◌, subst, sym}
use Rattle.cyclo_points.proofs.Identities.{pair_path}
use Rattle.cyclo_points.proofs.Reals.{in_either}
use Rattle.cyclo_points.proofs.CoordinateReadings.{IsY, part_kept, part_sum}
use Rattle.cyclo_points.proofs.coordinates.y.Goals as goal

pub returns-in-Four-clause-coordinate : goal.returns-in-Four-clause-coordinate
returns-in-Four-clause-coordinate c =
    let e = c.from_parts.ensures.of_a ∙ part_kept _ c.requires.p_within.at_1 in
    in_either (λ o. IsY o c.args.p.now c.from_parts.result) c.args.order c.in-Four.is e e

pub returns-in-Eight-clause-coordinate : goal.returns-in-Eight-clause-coordinate
returns-in-Eight-clause-coordinate c =
    let h = c.requires.p_within in
    let r = c.from_parts-in-Eight in
    subst (λ o. IsY o c.args.p.now r.result) (sym c.in-Eight.is)
    (pair_path _ _ (r.ensures.of_a ∙ part_sum _ _ h.at_1 h.at_3) (r.ensures.of_b ∙ part_kept _ h.at_2))

pub returns-in-Ten-clause-coordinate : goal.returns-in-Ten-clause-coordinate
returns-in-Ten-clause-coordinate c =
    let h = c.requires.p_within in
    let r = c.from_parts-in-Ten in
    subst (λ o. IsY o c.args.p.now r.result) (sym c.in-Ten.is)
    (pair_path _ _ (r.ensures.of_a ∙ part_kept _ h.at_1) (r.ensures.of_b ∙ part_sum _ _ h.at_2 h.at_3))
