use Rattle.std.proofs.Common.{List, inl, inr, refl, sym, ap, ◌∙◌, subst, arith}
use Rattle.cyclo_points.specs.declared.motion.Motion.{Motion}
use Rattle.cyclo_points.specs.declared.point.Point.{Point}
use Rattle.rule_model.specs.Tiling.{tiling_of}
use Rattle.tile_place.specs.Corners.{AreCorners}
use Rattle.c_values.specs.Outlines.{HoldsOutline}
use Rattle.c_values.specs.Statuses.{ok, bad_words}
use Rattle.c_values.specs.Tiles.{GivesMotion}
use Rattle.tiling_c.specs.Shapes.{HasKind, ShowsCorners}
use Rattle.tiling_c.proofs.shapes.tiling_corners.Goals as goal

pub returns-then-tile-kinds_of-clause-shown : goal.returns-then-tile-kinds_of-clause-shown
returns-then-tile-kinds_of-clause-shown c =
    subst (λ r. ShowsCorners (tiling_of r) c.args.tile.now c.args.out.now c.args.out.now bad_words) c.get-machine.ensures (record {
      corners = λ e. absurd (cc e);
      not_asked = (λ _ is. absurd (omega (arith, is.kind_exists, c.if-tile-kinds_of.true, c.kinds_of.ensures)), λ _. refl);
      statuses = inr refl;
    })

pub returns-in_default-clause-shown : goal.returns-in_default-clause-shown
returns-in_default-clause-shown c =
    let order = c.order.ensures.order ∙ ap (λ r. r.order) c.checked.ensures.rule in
    subst (λ r. ShowsCorners (tiling_of r) c.args.tile.now c.args.out.now c.args.out.now bad_words) c.get-machine.ensures (record {
      corners = λ e. absurd (cc e);
      not_asked = (
        λ _ is. absurd (cc (c.in_default.ensures.given.1 (subst (λ o. GivesMotion o c.args.tile.now) (sym order) is.motion_given))),
        λ _. refl,
      );
      statuses = inr refl;
    })

pub returns-clause-shown : goal.returns-clause-shown
returns-clause-shown c =
    let corners = c.put_corners.new.corners.items in
    let order = c.order.ensures.order ∙ ap (λ r. r.order) c.checked.ensures.rule in
    let given = subst (λ o. GivesMotion o c.args.tile.now) order (c.in-Some.ensures.given.0 refl) in
    let m = c.get-machine.result.now in
    let exists : HasKind (tiling_of m) c.args.tile.now.kind = omega (arith, c.if-tile-kinds_of.false, c.kinds_of.ensures) in
    subst (λ r. ShowsCorners (tiling_of r) c.args.tile.now c.args.out.now c.write.new.self ok) c.get-machine.ensures (record {
      corners = λ _. record {
        corners = corners;
        are = subst (λ (m : Motion). AreCorners (tiling_of c.get-machine.result.now) c.args.tile.now.kind m corners)
            c.in-Some.ensures.motion c.put_corners.ensures.corners;
        held = subst (λ (ps : List Point). HoldsOutline ps c.args.out.now c.write.new.self) c.as_slice.ensures.value c.write.ensures;
      };
      not_asked = (λ e. absurd (cc e), λ none. absurd (none (record { kind_exists = exists; motion_given = given })));
      statuses = inl refl;
    })
