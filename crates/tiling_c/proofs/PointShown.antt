-- What the tile that holds a point is shown as, and what each refusal is.
use Rattle.std.proofs.Common.{◌≡◌, ◌⊎◌, inl, inr, ℕ, refl, sym, ◌∙◌}
use Rattle.rule_model.specs.Tiling.{Tiling}
use Rattle.tile_place.specs.declared.placed_tile.PlacedTile.{PlacedTile}
use Rattle.tile_shape.specs.Views.{address_of}
use Rattle.c_values.specs.declared.plain_address.PlainAddress.{PlainAddress}
use Rattle.c_values.specs.declared.plain_frame.PlainFrame.{PlainFrame}
use Rattle.c_values.specs.declared.plain_point.PlainPoint.{PlainPoint}
use Rattle.c_values.specs.declared.plain_tile.PlainTile.{PlainTile}
use Rattle.c_values.specs.Addresses.{ShowsAddress}
use Rattle.c_values.specs.Statuses.{ok, bad_words, coord_limit, outside}
use Rattle.tiling_c.specs.At.{GivesHolder, RefusesHolder, ShowsAt}
use Rattle.tiling_c.specs.Locate.{GivesTile, RefusesPoint, ShowsLocate}
use Rattle.tiling_c.specs.Shown.{tile_shown}

-- ---- in a supertile
module _ (t : Tiling) (top : PlainTile) (depth : ℕ) (p : PlainPoint) (numbers : PlainTile) (addr : PlainAddress) where
  pub shows_located : (tile : PlacedTile) → GivesTile t top depth p tile → numbers ≡ tile_shown tile → ShowsAddress addr (address_of tile.addr)
      → ShowsLocate t top depth p numbers addr ok
  shows_located tile x its_numbers its_address = record {
    located = λ _. record {
      tile = tile;
      only = x.located.only;
      of_supertile = x.located.of_supertile;
      its_numbers = its_numbers;
      its_address = its_address;
    };
    by = λ _. x.located.by;
    not_asked = (λ e. absurd (cc e), λ none. absurd (none x.asks));
    statuses = inl refl;
  }

  found_none : (status : ℕ) → (status ≡ coord_limit) ⊎ (status ≡ outside) → (¬ status ≡ ok) × (¬ status ≡ bad_words)
  found_none status (inl is) = (λ e. absurd (cc (sym is ∙ e)), λ e. absurd (cc (sym is ∙ e)))
  found_none status (inr is) = (λ e. absurd (cc (sym is ∙ e)), λ e. absurd (cc (sym is ∙ e)))

  last_two : (status : ℕ) → (status ≡ coord_limit) ⊎ (status ≡ outside)
      → (status ≡ ok) ⊎ (status ≡ bad_words) ⊎ (status ≡ coord_limit) ⊎ (status ≡ outside)
  last_two status h = inr (inr h)

  pub shows_not_located : (status : ℕ) → RefusesPoint t top depth p status → ShowsLocate t top depth p numbers addr status
  shows_not_located status (inl (is, none)) = record {
    located = λ e. absurd (cc (sym is ∙ e));
    by = λ asks. absurd (none asks);
    not_asked = (λ _. none, λ _. is);
    statuses = inr (inl is);
  }
  shows_not_located status (inr x) = record {
    located = λ e. absurd ((found_none status x.statuses).0 e);
    by = λ _. x.by;
    not_asked = (λ e. absurd ((found_none status x.statuses).1 e), λ none. absurd (none x.asks));
    statuses = last_two status x.statuses;
  }

-- ---- in a frame
module _ (t : Tiling) (frame : PlainFrame) (p : PlainPoint) (numbers : PlainTile) (addr : PlainAddress) where
  pub shows_holder : (tile : PlacedTile) → GivesHolder t frame p tile → numbers ≡ tile_shown tile → ShowsAddress addr (address_of tile.addr)
      → ShowsAt t frame p numbers addr ok
  shows_holder tile x its_numbers its_address = record {
    holds = λ _. record { tile = tile; holder = x.holder; its_numbers = its_numbers; its_address = its_address };
    found = λ _ _. (λ _. x.holder.found, λ _. refl);
    not_asked = (λ e. absurd (cc e), λ none. absurd (none x.near));
    names_none = (λ e. absurd (cc e), λ w. absurd (w.1 x.named));
    statuses = inl refl;
  }

  pub shows_no_holder : (status : ℕ) → RefusesHolder t frame p status → ShowsAt t frame p numbers addr status
  shows_no_holder status (inl (is, none)) = record {
    holds = λ e. absurd (cc (sym is ∙ e));
    found = λ _ near. absurd (none near);
    not_asked = (λ _. none, λ _. is);
    names_none = (λ e. absurd (cc (sym is ∙ e)), λ w. absurd (none w.0));
    statuses = inr (inl is);
  }
  shows_no_holder status (inr (inl (is, near, none))) = record {
    holds = λ e. absurd (cc (sym is ∙ e));
    found = λ named _. absurd (none named);
    not_asked = (λ e. absurd (cc (sym is ∙ e)), λ far. absurd (far near));
    names_none = (λ _. (near, none), λ _. is);
    statuses = inr (inr (inl is));
  }
  shows_no_holder status (inr (inr x)) =
      let is = x.is_status in record {
        holds = λ e. absurd (cc (sym is ∙ e));
        found = λ _ _. (λ e. absurd (cc (sym is ∙ e)), λ none. absurd (x.refused none));
        not_asked = (λ e. absurd (cc (sym is ∙ e)), λ far. absurd (far x.near));
        names_none = (λ e. absurd (cc (sym is ∙ e)), λ w. absurd (w.1 x.named));
        statuses = inr (inr (inr is));
      }
