use Rattle.std.proofs.Common.{◌≡◌, pos, [], ◌∷◌, refl, sym, ap, ◌∙◌, subst}
use Rattle.theory_addresses.specs.Address.{Address, depth}
use Rattle.cyclo_points.specs.Order.{PointsLaw, points_of}
use Rattle.cyclo_points.specs.Motion.{motion_in}
use Rattle.rule_model.specs.Views.{rule_of}
use Rattle.theory_frames.specs.Frame.{StandsInFrame, IsTileOf, lifted_in}
use Rattle.rule_model.specs.declared.rule.Rule.{Rule}
use Rattle.rule_model.specs.Tiling.{tiling_of, children}
use Rattle.tile_place.proofs.Start.{IsOrigin, start-still, start-turn, start-in_order}
use Rattle.tile_shape.specs.Usable.{AreUsable}
use Rattle.tile_shape.specs.Views.{address_of}
use Rattle.theory_walks.specs.Frames.{whole}
use Rattle.theory_walks.proofs.Walks.{whole-fits}
use Rattle.theory_walks.proofs.Walked.{whole-tile_of, base-lifted}
use Rattle.theory_walks.proofs.Standing.{stands-base}
use Rattle.lazy_walk.proofs.frame.Frame.base_tile.Goals as goal

pub returns-clause-stands : goal.returns-clause-stands
returns-clause-stands c =
    let m = c.args.machine.now in
    let f = c.args.self.now in
    let fits = whole-fits (tiling_of m) (λ base start n h. c.grown_fits_law.ensures (children (tiling_of m)) base start n
    (subst AreUsable (c.uses.ensures ∙ ap (λ (r : Rule). children (tiling_of r))
    c.checked-checked.ensures.rule) c.kinds-usable.ensures.limits) h) f c.requires.frame in
    let named : address_of c.lift.result ≡ whole f = c.lift.ensures
    ∙ ap (lifted_in (whole f)) c.base-2.ensures ∙ base-lifted (tiling_of m) f c.requires.frame in
    let laws : PointsLaw m.order = subst PointsLaw
    (c.order.ensures.order ∙ ap (λ (r : Rule). r.order) c.checked-checked.ensures.rule)
    c.points_law.ensures in
    let origin : IsOrigin (record { c = pos 0 ∷ pos 0 ∷ pos 0 ∷ pos 0 ∷ [] }) = record { at_0 = refl; at_1 = refl; at_2 = refl; at_3 = refl } in
    record {
      its_kind = ap (λ (a : Address). a.kind) (c.base.ensures
          ∙ sym (λ i. record { kind = f.base.kind; digits = f.base.digits }))
          ∙ sym (ap (λ (a : Address). a.kind) named);
      of_frame = subst (IsTileOf (children (tiling_of m)) (whole f)) (sym named)
          (whole-tile_of (children (tiling_of m)) (whole f) (whole f)
          (record { fits = fits; same_depth = refl; same_top = refl }));
      at_depth = ap depth named;
      in_frame = subst (λ a. StandsInFrame (points_of m.order) (rule_of m) (whole f) a
          (motion_in m.order (record {
            turn = 0;
            shift = record { c = pos 0 ∷ pos 0 ∷ pos 0 ∷ pos 0 ∷ [] };
          }))) (sym named)
          (stands-base (tiling_of m) laws (whole f)
          (motion_in m.order (record {
            turn = 0;
            shift = record { c = pos 0 ∷ pos 0 ∷ pos 0 ∷ pos 0 ∷ [] };
          })) fits
          (start-still m.order _ refl origin));
      turn_below = start-turn m.order (record { turn = 0; shift = record { c = pos 0 ∷ pos 0 ∷ pos 0 ∷ pos 0 ∷ [] } }) refl;
      in_order = start-in_order m.order _ origin;
    }
