use Rattle.std.proofs.Common.{◌≡◌, List, None, IsSome, inl, inr, map, refl, sym, ◌∙◌, subst}
use Rattle.cyclo_points.specs.Motion.{motion_in}
use Rattle.rule_model.specs.Tiling.{tiling_of, IsPlaced}
use Rattle.tile_place.specs.Placing.{first_refused}
use Rattle.tile_shape.specs.Views.{step_of}
use Rattle.tile_shape.specs.declared.step.Step.{Step}
use Rattle.tiling_c.proofs.placing.place_of.Goals as goal

pub returns-then-not-names_tile-clause-refused : goal.returns-then-not-names_tile-clause-refused
returns-then-not-names_tile-clause-refused c =
    inl (refl, λ named. absurd (cc (sym c.if-not-names_tile.true ∙ c.names_tile.ensures.1 named)))

pub returns-in-Ok-clause-given : goal.returns-in-Ok-clause-given
returns-in-Ok-clause-given c =
    let t = tiling_of c.args.machine.now in
    record {
      named = c.names_tile.ensures.0 c.if-not-names_tile.false;
      placed = subst (λ (xs : List Step). IsPlaced t (record { kind = c.args.addr.now.kind; digits = map step_of xs })
          (motion_in t.order c.in-Ok.motion)) c.digits.ensures c.in-Ok.ensures.beside;
      turn_below = c.in-Ok.ensures.turn_below;
      in_order = c.in-Ok.ensures.in_order;
      within = subst (λ (xs : List Step). first_refused t (map step_of xs) ≡ None) c.digits.ensures c.in-Ok.ensures.within;
    }

pub returns-in-Err-clause-refused : goal.returns-in-Err-clause-refused
returns-in-Err-clause-refused c =
    let t = tiling_of c.args.machine.now in
    inr (
      refl,
      c.names_tile.ensures.0 c.if-not-names_tile.false,
      subst (λ (xs : List Step). IsSome (first_refused t (map step_of xs))) c.digits.ensures
          (subst IsSome (sym c.in-Err.ensures.limit) refl),
    )
