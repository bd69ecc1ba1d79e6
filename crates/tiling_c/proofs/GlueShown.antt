-- What the whole tiles of a window are shown as, and what a refusal is.
use Rattle.std.proofs.Common.{◌≡◌, ◌≤◌, inl, inr, ℕ, List, length, refl, sym, subst, ◌∙◌}
use Rattle.half_glue.specs.declared.whole_tile.WholeTile.{WholeTile}
use Rattle.rule_model.specs.Tiling.{Tiling}
use Rattle.theory_windows.specs.Limits.{most_tiles}
use Rattle.c_values.specs.declared.plain_frame.PlainFrame.{PlainFrame}
use Rattle.c_values.specs.declared.plain_whole_tile.PlainWholeTile.{PlainWholeTile}
use Rattle.c_values.specs.declared.plain_window.PlainWindow.{PlainWindow}
use Rattle.c_values.specs.Statuses.{ok}
use Rattle.tiling_c.specs.Glue.{HoldsWholes, GivesWholes, RefusesWholes, ShowsGlue}
use Rattle.tiling_c.proofs.Glued.{wholes_not_ok, wholes_not_words, wholes_not_address}

module _ (t : Tiling) (frame : PlainFrame) (window : PlainWindow) (old : List PlainWholeTile) where
  pub shows_wholes : (new : List PlainWholeTile) (all : List WholeTile) (count : ℕ) → GivesWholes t frame window all
      → HoldsWholes all old new → count ≡ length all → ShowsGlue t frame window old new count ok
  shows_wholes new all count x held number = record {
    wholes = λ _. record {
      frame = x.grown_frame;
      tiles = x.tiles;
      exactly = x.exactly;
      glued = record { glued_frame = x.glued_frame; all = all; glued = x.glued; number = number; held = held };
      at_most = subst (λ n. n ≤ most_tiles) (sym number) x.few;
      cover = x.cover;
    };
    within = λ _. x.within;
    answered = λ _ _ _ _. inl refl;
    not_asked = (λ e. absurd (cc e), λ none. absurd (none x.window_given));
    names_none = (λ e. absurd (cc e), λ w. absurd (w.1 x.named));
    ended = λ not_ok _ _. absurd (not_ok refl);
  }

  pub shows_refusal : (count status : ℕ) → RefusesWholes t frame window status → ShowsGlue t frame window old old count status
  shows_refusal count status (inl (inl (is, none))) = record {
    wholes = λ e. absurd (cc (sym is ∙ e));
    within = λ e. absurd (cc (sym is ∙ e));
    answered = λ given _ _ _. absurd (none given);
    not_asked = (λ _. none, λ _. is);
    names_none = (λ e. absurd (cc (sym is ∙ e)), λ w. absurd (none w.0));
    ended = λ _ not_words _. absurd (not_words is);
  }
  shows_refusal count status (inl (inr (is, given, none))) = record {
    wholes = λ e. absurd (cc (sym is ∙ e));
    within = λ e. absurd (cc (sym is ∙ e));
    answered = λ _ named _ _. absurd (none named);
    not_asked = (λ e. absurd (cc (sym is ∙ e)), λ gives_none. absurd (gives_none given));
    names_none = (λ _. (given, none), λ _. is);
    ended = λ _ _ not_address. absurd (not_address is);
  }
  shows_refusal count status (inr x) = record {
    wholes = λ e. absurd (wholes_not_ok t _ _ status x.ended e);
    within = λ e. absurd (wholes_not_ok t _ _ status x.ended e);
    answered = λ _ _ within can. inr (x.answered within can);
    not_asked = (λ e. absurd (wholes_not_words t _ _ status x.ended e), λ gives_none. absurd (gives_none x.window_given));
    names_none = (λ e. absurd (wholes_not_address t _ _ status x.ended e), λ w. absurd (w.1 x.named));
    ended = λ _ _ _. x.ended;
  }
