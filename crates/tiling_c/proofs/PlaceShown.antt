-- What the place of a tile is shown as, and what each refusal is.
use Rattle.std.proofs.Common.{◌≡◌, inl, inr, ℕ, refl, sym, subst, ◌∙◌}
use Rattle.cyclo_points.specs.declared.motion.Motion.{Motion}
use Rattle.rule_model.specs.Tiling.{Tiling}
use Rattle.c_values.specs.declared.plain_address.PlainAddress.{PlainAddress}
use Rattle.c_values.specs.declared.plain_tile.PlainTile.{PlainTile}
use Rattle.c_values.specs.Statuses.{ok}
use Rattle.c_values.specs.Tiles.{tile_as, refused_as}
use Rattle.tiling_c.specs.Placing.{GivesPlace, RefusesPlace, ShowsPlace, ShowsPlaceInArray}

module _ (t : Tiling) (addr : PlainAddress) where
  as_given : (m : Motion) → GivesPlace t addr m → ShowsPlace t addr (tile_as addr.kind m 0) ok
  as_given m x = record {
    placed = λ _. x.placed;
    plain = λ _. refl;
    turn_below = λ _. x.turn_below;
    in_order = λ _. x.in_order;
    within = λ _. x.within;
    names_none = (λ e. absurd (cc e), λ none. absurd (none x.named));
    too_far = λ e. absurd (cc e);
    statuses = inl refl;
  }

  pub shows_place : (m : Motion) (tile : PlainTile) → GivesPlace t addr m → tile ≡ tile_as addr.kind m 0 → ShowsPlace t addr tile ok
  shows_place m tile x e = subst (λ p. ShowsPlace t addr p ok) (sym e) (as_given m x)

  pub shows_no_place : (tile : PlainTile) (status : ℕ) → RefusesPlace t addr status → ShowsPlace t addr tile status
  shows_no_place tile status (inl (is, none)) = record {
    placed = λ e. absurd (cc (sym is ∙ e));
    plain = λ e. absurd (cc (sym is ∙ e));
    turn_below = λ e. absurd (cc (sym is ∙ e));
    in_order = λ e. absurd (cc (sym is ∙ e));
    within = λ e. absurd (cc (sym is ∙ e));
    names_none = (λ _. none, λ _. is);
    too_far = λ e. absurd (cc (sym is ∙ e));
    statuses = inr (inl is);
  }
  shows_no_place tile status (inr (is, named, far)) = record {
    placed = λ e. absurd (cc (sym is ∙ e));
    plain = λ e. absurd (cc (sym is ∙ e));
    turn_below = λ e. absurd (cc (sym is ∙ e));
    in_order = λ e. absurd (cc (sym is ∙ e));
    within = λ e. absurd (cc (sym is ∙ e));
    names_none = (λ e. absurd (cc (sym is ∙ e)), λ none. absurd (none named));
    too_far = λ _. far;
    statuses = inr (inr is);
  }

  pub shows_in_array : (m : Motion) (tile : PlainTile) → GivesPlace t addr m → tile ≡ tile_as addr.kind m 0
      → ShowsPlaceInArray t addr tile
  shows_in_array m tile x e = subst (λ p. ShowsPlaceInArray t addr p) (sym e)
      (record { shown = as_given m x; refused = λ not. absurd (not refl) })

  pub shows_none_in_array : (tile : PlainTile) (status : ℕ) → RefusesPlace t addr status → tile ≡ refused_as status
      → ShowsPlaceInArray t addr tile
  shows_none_in_array tile status x e = subst (λ p. ShowsPlaceInArray t addr p) (sym e)
      (record { shown = shows_no_place (refused_as status) status x; refused = λ _. refl })
