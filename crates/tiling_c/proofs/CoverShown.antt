-- What the tiles of a window are shown as, and what a refusal is.
use Rattle.std.proofs.Common.{◌≡◌, ◌⊎◌, ◌≤◌, inl, inr, ℕ, List, length, refl, sym, subst, ◌∙◌}
use Rattle.rule_model.specs.Tiling.{Tiling}
use Rattle.theory_windows.specs.Limits.{most_tiles}
use Rattle.tile_place.specs.declared.placed_tile.PlacedTile.{PlacedTile}
use Rattle.c_values.specs.declared.plain_address.PlainAddress.{PlainAddress}
use Rattle.c_values.specs.declared.plain_frame.PlainFrame.{PlainFrame}
use Rattle.c_values.specs.declared.plain_tile.PlainTile.{PlainTile}
use Rattle.c_values.specs.declared.plain_window.PlainWindow.{PlainWindow}
use Rattle.c_values.specs.Statuses.{ok, bad_words}
use Rattle.tiling_c.specs.Cover.{HoldsTiles, HoldsAddresses, GivesTiles, RefusesTiles, ShowsCover}
use Rattle.tiling_c.proofs.Covers.{ends_not_ok, ends_not_words, ends_not_address}

module _ (t : Tiling) (frame : PlainFrame) (window : PlainWindow) (tiles : List PlainTile) (addrs : List PlainAddress)
    (lengths : (length addrs ≡ 0) ⊎ (length addrs ≡ length tiles)) where
  pub shows_tiles : (new_tiles : List PlainTile) (new_addrs : List PlainAddress) (all : List PlacedTile) (count : ℕ)
      → GivesTiles t frame window all → HoldsTiles all tiles new_tiles → HoldsAddresses all addrs new_addrs → count ≡ length all
      → ShowsCover t frame window tiles new_tiles addrs new_addrs count ok
  shows_tiles new_tiles new_addrs all count x held_tiles held_addresses number = record {
    covers = λ _. record {
      frame = x.grown_frame;
      all = all;
      exactly = x.found.exactly;
      number = number;
      at_most = subst (λ n. n ≤ most_tiles) (sym number) x.found.few;
      held_tiles = held_tiles;
      held_addresses = held_addresses;
    };
    within = λ _. x.found.within;
    answered = λ _ _ _. inl refl;
    not_asked = (λ e. absurd (cc e), λ none. absurd (none (record { window_given = x.window_given; lengths = lengths })));
    names_none = (λ e. absurd (cc e), λ w. absurd (w.1 x.named));
    ended = λ not_ok _ _. absurd (not_ok refl);
  }

  pub shows_refusal : (count status : ℕ) → RefusesTiles t frame window status
      → ShowsCover t frame window tiles tiles addrs addrs count status
  shows_refusal count status (inl (inl (is, none))) = record {
    covers = λ e. absurd (cc (sym is ∙ e));
    within = λ e. absurd (cc (sym is ∙ e));
    answered = λ asks _ _. absurd (none asks.window_given);
    not_asked = (λ _ asks. none asks.window_given, λ _. is);
    names_none = (λ e. absurd (cc (sym is ∙ e)), λ w. absurd (none w.0.window_given));
    ended = λ _ not_words _. absurd (not_words is);
  }
  shows_refusal count status (inl (inr (is, given, none))) = record {
    covers = λ e. absurd (cc (sym is ∙ e));
    within = λ e. absurd (cc (sym is ∙ e));
    answered = λ _ named _. absurd (none named);
    not_asked = (λ e. absurd (cc (sym is ∙ e)), λ asks_not. absurd (asks_not (record { window_given = given; lengths = lengths })));
    names_none = (λ _. (record { window_given = given; lengths = lengths }, none), λ _. is);
    ended = λ _ _ not_address. absurd (not_address is);
  }
  shows_refusal count status (inr x) = record {
    covers = λ e. absurd (ends_not_ok t _ _ status x.stopped.ended e);
    within = λ e. absurd (ends_not_ok t _ _ status x.stopped.ended e);
    answered = λ _ _ within. inr (x.stopped.answered within);
    not_asked = (
      λ e. absurd (ends_not_words t _ _ status x.stopped.ended e),
      λ asks_not. absurd (asks_not (record { window_given = x.window_given; lengths = lengths })),
    );
    names_none = (λ e. absurd (ends_not_address t _ _ status x.stopped.ended e), λ w. absurd (w.1 x.named));
    ended = λ _ _ _. x.stopped.ended;
  }

-- without such rooms nothing is asked
pub shows_no_room : (t : Tiling) (frame : PlainFrame) (window : PlainWindow) (tiles : List PlainTile) (addrs : List PlainAddress) (count : ℕ)
    → ¬ ((length addrs ≡ 0) ⊎ (length addrs ≡ length tiles))
    → ShowsCover t frame window tiles tiles addrs addrs count bad_words
shows_no_room t frame window tiles addrs count none = record {
  covers = λ e. absurd (cc e);
  within = λ e. absurd (cc e);
  answered = λ asks _ _. absurd (none asks.lengths);
  not_asked = (λ _ asks. none asks.lengths, λ _. refl);
  names_none = (λ e. absurd (cc e), λ w. absurd (none w.0.lengths));
  ended = λ _ not_words _. absurd (not_words refl);
}
