use Rattle.std.proofs.Common.{◌≡◌, None, inl, inr, refl, ap, ◌∙◌}
use Rattle.cyclo_points.specs.Point.{point_in}
use Rattle.theory_walks.specs.Containing.{first_refused_outward}
use Rattle.rule_model.specs.Tiling.{tiling_of}
use Rattle.c_values.specs.Windows.{point_given}
use Rattle.tiling_c.specs.At.{IsTileAtPoint}
use Rattle.tiling_c.proofs.Moved.{given_moved}
use Rattle.tiling_c.proofs.at.holder.Goals as goal

pub returns-in_default-clause-refused : goal.returns-in_default-clause-refused
returns-in_default-clause-refused c = inl (refl, λ near. absurd (cc (c.in_default.ensures.near.1 near)))

pub returns-in_default-frame-clause-refused : goal.returns-in_default-frame-clause-refused
returns-in_default-frame-clause-refused c =
    inr (inl (refl, c.in-Some.ensures.near.0 refl, λ named. absurd (cc (c.in_default-frame.ensures.named.1 named))))

pub returns-in-Ok-clause-given : goal.returns-in-Ok-clause-given
returns-in-Ok-clause-given c =
    let t = tiling_of c.args.machine.now in
    let order = c.order.ensures.order ∙ ap (λ r. r.order) c.checked.ensures.rule in
    let point = c.in-Some.ensures.point ∙ ap (λ o. point_given o c.args.point.now.c) order in record {
      near = c.in-Some.ensures.near.0 refl;
      named = c.in-Some-frame.ensures.named.0 refl;
      holder = given_moved (λ f p. IsTileAtPoint t f (point_in t.order p) c.in-Ok.found) _ _ _ _ c.in-Some-frame.ensures.seen point (record {
        frame = c.contain.new.self;
        grown = c.contain.ensures.frame;
        least = c.contain.ensures.least;
        only = c.in-Ok.ensures.only_tile;
        stands = c.in-Ok.ensures.stands;
        found = c.in-Ok.ensures.found_exactly.0 refl;
      });
    }

pub returns-in-Err-clause-refused : goal.returns-in-Err-clause-refused
returns-in-Err-clause-refused c =
    let t = tiling_of c.args.machine.now in
    let order = c.order.ensures.order ∙ ap (λ r. r.order) c.checked.ensures.rule in
    let point = c.in-Some.ensures.point ∙ ap (λ o. point_given o c.args.point.now.c) order in inr (inr (record {
      near = c.in-Some.ensures.near.0 refl;
      named = c.in-Some-frame.ensures.named.0 refl;
      is_status = refl;
      refused = given_moved (λ f p. ¬ first_refused_outward t f (point_in t.order p) ≡ None) _ _ _ _ c.in-Some-frame.ensures.seen point
          (λ none. absurd (cc (c.in-Err.ensures.found_exactly.1 none)));
    }))
