use Rattle.std.proofs.Common.{◌≡◌, None, Some, length, map, sym, subst, arith}
use Rattle.std.specs.Prelude.{string_bytes}
use Rattle.std.proofs.lemmas.Result.{err_from_is_err_and}
use Rattle.theory_addresses.specs.Address.{Fits}
use Rattle.cyclo_points.specs.Motion.{motion_in}
use Rattle.cyclo_points.specs.Point.{point_in}
use Rattle.cyclo_points.proofs.Coefficients.{coefficients_of}
use Rattle.rule_model.specs.Tiling.{ListedRule, tiling_listed, children, IsPlaced}
use Rattle.tile_place.specs.Placing.{first_refused}
use Rattle.tile_shape.specs.Views.{address_of, step_of}
use Rattle.tile_app.specs.Place.{PrintsPlace, PassesLimit}
use Rattle.tile_app.specs.Tilings.{builtin_tiling}
use Rattle.tile_app.proofs.place.placed_by_name.Goals as goal

-- the digits are those of an address of a tile of the rule that is named
pub place_digits-requires : goal.place_digits-requires
place_digits-requires c =
    let a = c.args.address.now in
    record {
      fits = subst (λ (w : ListedRule). Fits (children (tiling_listed w)) (record { kind = a.kind; digits = map step_of c.as_slice.result.now }))
          (sym c.of-rule.ensures)
          (subst (λ xs. Fits (children (builtin_tiling c.args.name)) (record { kind = a.kind; digits = map step_of xs }))
          (sym c.as_slice.ensures.value) c.requires.fits);
    }

pub returns-in_err-motion-clause-refused : goal.returns-in_err-motion-clause-refused
returns-in_err-motion-clause-refused c =
    let p = err_from_is_err_and c.from_residual.result c.from_residual.ensures.1 in
    let value = c.in_err-motion.field-0.0.value in
    let w = c.of-rule.result in
    let l : length value.c ≡ 4 = omega arith in
    rw (p.1, p.2) (subst (λ (w : ListedRule). PassesLimit (tiling_listed w) (address_of c.args.address.now) value) c.of-rule.ensures (record {
      number = point_in w.order value;
      first = subst (λ xs. first_refused (tiling_listed w) (map step_of xs) ≡ Some
          (point_in w.order value)) c.as_slice.ensures.value c.in_err-motion.ensures.limit;
      is_value = coefficients_of w.order value l c.in_err-motion.ensures.limit_in_order;
    }))

pub returns-clause-printed : goal.returns-clause-printed
returns-clause-printed c =
    let a = c.args.address.now in
    let w = c.of-rule.result in
    let m = c.in_ok-motion.motion in
    let text = c.in_ok-place_line.field-0 in
    subst (λ (w : ListedRule). PrintsPlace (tiling_listed w) (address_of a) (string_bytes text)) c.of-rule.ensures (record {
      within = subst (λ xs. first_refused (tiling_listed w) (map step_of xs) ≡ None) c.as_slice.ensures.value c.in_ok-motion.ensures.within;
      motion = motion_in w.order m;
      placed = subst (λ xs. IsPlaced (tiling_listed w) (record { kind = a.kind; digits = map step_of xs })
          (motion_in w.order m)) c.as_slice.ensures.value c.in_ok-motion.ensures.beside;
      line = c.in_ok-place_line.ensures w.order c.in_ok-motion.ensures.in_order;
    })
