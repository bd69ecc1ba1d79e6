-- What a star is shown as, and what each refusal is.
use Rattle.std.proofs.Common.{◌≡◌, ◌⊎◌, inl, inr, ℕ, List, refl, sym, ◌∙◌, arith}
use Rattle.rule_model.specs.Tiling.{Tiling}
use Rattle.star_walk.specs.declared.corner.Corner.{Corner}
use Rattle.c_values.specs.declared.plain_frame.PlainFrame.{PlainFrame}
use Rattle.c_values.specs.declared.plain_vertex_star.PlainVertexStar.{PlainVertexStar}
use Rattle.c_values.specs.Statuses.{ok, bad_address, no_vertex, depth_limit, star_too_big}
use Rattle.tiling_c.specs.Star.{HoldsCorners, GivesStar, RefusesStar, ShowsStar}
use Rattle.tiling_c.proofs.EdgeGiven.{not_both}
use Rattle.tiling_c.proofs.Turns.{turn_not_ok, turn_not_address, turn_not_vertex, turn_status}

module _ (t : Tiling) (frame : PlainFrame) (vertex : ℕ) (old : PlainVertexStar) where
  pub shows_star : (new : PlainVertexStar) (corners : List Corner) → GivesStar t frame vertex corners → HoldsCorners corners old new
      → ShowsStar t frame vertex old new ok
  shows_star new corners x held = record {
    star = λ _. record { corners = corners; star = x.found.star; held = held };
    within = λ _. x.found.within;
    answered = λ _ _ _. refl;
    names_none = (λ e. absurd (cc e), λ none. absurd (none x.named));
    lacks_vertex = (λ e. absurd (cc e), λ w. not_both vertex _ x.exists w.1);
    ended = λ h. absurd (no_fault h);
    statuses = inl refl;
  }
    where
      no_fault : (ok ≡ depth_limit) ⊎ (ok ≡ star_too_big) → ⊥
      no_fault (inl e) = absurd (cc e)
      no_fault (inr e) = absurd (cc e)

  not_named : (status : ℕ) → status ≡ bad_address → (status ≡ depth_limit) ⊎ (status ≡ star_too_big) → ⊥
  not_named status is (inl e) = absurd (cc (sym is ∙ e))
  not_named status is (inr e) = absurd (cc (sym is ∙ e))

  no_such : (status : ℕ) → status ≡ no_vertex → (status ≡ depth_limit) ⊎ (status ≡ star_too_big) → ⊥
  no_such status is (inl e) = absurd (omega (arith, is, e))
  no_such status is (inr e) = absurd (omega (arith, is, e))

  last_two : (status : ℕ) → (status ≡ depth_limit) ⊎ (status ≡ star_too_big)
      → (status ≡ ok) ⊎ (status ≡ bad_address) ⊎ (status ≡ no_vertex) ⊎ (status ≡ depth_limit) ⊎ (status ≡ star_too_big)
  last_two status h = inr (inr (inr h))

  pub shows_refusal : (status : ℕ) → RefusesStar t frame vertex status → ShowsStar t frame vertex old old status
  shows_refusal status (inl (is, none)) = record {
    star = λ e. absurd (cc (sym is ∙ e));
    within = λ e. absurd (cc (sym is ∙ e));
    answered = λ named _ _. absurd (none named);
    names_none = (λ _. none, λ _. is);
    lacks_vertex = (λ e. absurd (cc (sym is ∙ e)), λ w. absurd (none w.0));
    ended = λ h. absurd (not_named status is h);
    statuses = inr (inl is);
  }
  shows_refusal status (inr (inl (is, named, beyond))) = record {
    star = λ e. absurd (cc (sym is ∙ e));
    within = λ e. absurd (cc (sym is ∙ e));
    answered = λ _ exists _. not_both vertex _ exists beyond;
    names_none = (λ e. absurd (cc (sym is ∙ e)), λ none. absurd (none named));
    lacks_vertex = (λ _. (named, beyond), λ _. is);
    ended = λ h. absurd (no_such status is h);
    statuses = inr (inr (inl is));
  }
  shows_refusal status (inr (inr x)) =
      let ended = x.stopped.ended in record {
        star = λ e. absurd (turn_not_ok ended.fault status ended.is_status e);
        within = λ e. absurd (turn_not_ok ended.fault status ended.is_status e);
        answered = λ _ _ within. absurd (x.stopped.beyond within);
        names_none = (λ e. absurd (turn_not_address ended.fault status ended.is_status e), λ none. absurd (none x.named));
        lacks_vertex = (λ e. absurd (turn_not_vertex ended.fault status ended.is_status e), λ w. not_both vertex _ x.exists w.1);
        ended = λ _. ended;
        statuses = last_two status (turn_status ended.fault status ended.is_status);
      }
