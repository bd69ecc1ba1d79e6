use Rattle.std.proofs.Common.{◌*◌, ◌∙◌, subst, sym, arith}
use Rattle.std.proofs.lemmas.Grind.{common_steps}
use Rattle.cyclo_points.specs.Point.{Within}
use Rattle.cyclo_points.proofs.Identities.{pair_path}
use Rattle.cyclo_points.proofs.CoordinateReadings.{IsX, part_doubled, part_difference, part_of_x-six, part_of_x, part_of_x-theta, within_doubled, within_difference, within_part_of_x, within_part_of_x-theta}
use Rattle.cyclo_points.proofs.coordinates.x.Goals as goal

pub returns-in-Four-clause-coordinate : goal.returns-in-Four-clause-coordinate
returns-in-Four-clause-coordinate c =
    subst (λ o. IsX o c.args.p.now c.from_parts.result) (sym c.in-Four.is) (c.from_parts.ensures.of_a ∙ part_doubled _ c.requires.p_within.at_0)

pub returns-in-Six-clause-coordinate : goal.returns-in-Six-clause-coordinate
returns-in-Six-clause-coordinate c =
    subst (λ o. IsX o c.args.p.now c.from_parts-in-Six.result) (sym c.in-Six.is)
    (c.from_parts-in-Six.ensures.of_a ∙ part_of_x-six _ _ c.requires.p_within.at_0 c.requires.p_within.at_1)

pub returns-in-Eight-clause-coordinate : goal.returns-in-Eight-clause-coordinate
returns-in-Eight-clause-coordinate c =
    let h = c.requires.p_within in
    let r = c.from_parts-in-Eight in
    subst (λ o. IsX o c.args.p.now r.result) (sym c.in-Eight.is)
    (pair_path _ _ (r.ensures.of_a ∙ part_doubled _ h.at_0) (r.ensures.of_b ∙ part_difference _ _ h.at_1 h.at_3))

pub returns-in-Eight-clause-bounded : goal.returns-in-Eight-clause-bounded
returns-in-Eight-clause-bounded c =
    let h = c.requires.p_within in
    let r = c.from_parts-in-Eight in
    λ m f. record {
      at_a = subst (Within (4 * m)) (sym (r.ensures.of_a ∙ part_doubled _ h.at_0)) (within_doubled m _ f.at_0);
      at_b = subst (Within (4 * m)) (sym (r.ensures.of_b ∙ part_difference _ _ h.at_1 h.at_3)) (within_difference m _ _ f.at_1 f.at_3);
    }

pub returns-in-Ten-clause-coordinate : goal.returns-in-Ten-clause-coordinate
returns-in-Ten-clause-coordinate c =
    let h = c.requires.p_within in
    let r = c.from_parts-in-Ten in
    subst (λ o. IsX o c.args.p.now r.result) (sym c.in-Ten.is)
    (pair_path _ _ (r.ensures.of_a ∙ part_of_x _ _ _ h.at_0 h.at_2 h.at_3) (r.ensures.of_b ∙ part_of_x-theta _ _ _ h.at_1 h.at_2 h.at_3))

pub returns-in-Ten-clause-bounded : goal.returns-in-Ten-clause-bounded
returns-in-Ten-clause-bounded c =
    let h = c.requires.p_within in
    let r = c.from_parts-in-Ten in
    λ m f. record {
      at_a = subst (Within (4 * m)) (sym (r.ensures.of_a ∙ part_of_x _ _ _ h.at_0 h.at_2 h.at_3)) (within_part_of_x m _ _ _ f.at_0 f.at_2 f.at_3);
      at_b = subst (Within (4 * m)) (sym (r.ensures.of_b ∙ part_of_x-theta _ _ _ h.at_1 h.at_2 h.at_3))
          (within_part_of_x-theta m _ _ _ f.at_1 f.at_2 f.at_3);
    }

pub returns-in-Four-clause-in_order : goal.returns-in-Four-clause-in_order
returns-in-Four-clause-in_order c = grind (arith, common_steps)

pub returns-in-Six-clause-in_order : goal.returns-in-Six-clause-in_order
returns-in-Six-clause-in_order c = grind (arith, common_steps)

pub returns-in-Eight-clause-in_order : goal.returns-in-Eight-clause-in_order
returns-in-Eight-clause-in_order c = grind (arith, common_steps)

pub returns-in-Ten-clause-in_order : goal.returns-in-Ten-clause-in_order
returns-in-Ten-clause-in_order c = grind (arith, common_steps)
