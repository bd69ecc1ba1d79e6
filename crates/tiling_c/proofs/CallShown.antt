-- What the ending of a call is shown as, and what each refusal is.
use Rattle.std.proofs.Common.{◌≡◌, ◌⊎◌, ◌≤◌, ℕ, List, length, inl, inr, refl, sym, ap, ◌∙◌, subst, IsUtf8}
use Rattle.call_notes.specs.declared.status.Status.{Status}
use Rattle.call_notes.specs.declared.status.Status.TheVariants.{Done}
use Rattle.call_notes.specs.Notes.{longest_note}
use Rattle.call_notes.specs.Status.{code_of, IsLimit}
use Rattle.tile_app.specs.Causes.{Causes}
use Rattle.tile_app.specs.Call.{Call}
use Rattle.c_values.specs.Statuses.{ok, not_text, no_memory}
use Rattle.tiling_c.specs.Calling.{EndsWith, ShowsCall, TellsStatus, call_in}
use Rattle.tiling_c.specs.Opening.{HoldsText}
use Rattle.tiling_c.proofs.ExitCodes.{not_done, is_text, has_memory}

-- ---- what the code of an ending says
module _ (c : Call) (text line : List ℕ) (code : ℕ) (h : EndsWith c text line code) where
  is_done : code ≡ ok → h.status ≡ Done
  is_done e = not_done h.status (sym h.is_code ∙ e)

  has_text : ¬ code ≡ not_text
  has_text e = is_text h.status (sym h.is_code ∙ e)

  has_room : ¬ code ≡ no_memory
  has_room e = has_memory h.status h.answer.whole (sym h.is_code ∙ e)

  its_cause : ¬ code ≡ ok → Causes c h.status
  its_cause not = elim h.answer.refused [
    | inl done ↦ absurd (not (h.is_code ∙ ap code_of done))
    | inr cause ↦ cause
  ]

  status_told : (note new_note : List ℕ) (bytes : ℕ) → HoldsText line note new_note → bytes ≡ length line
      → TellsStatus h.status code note new_note bytes
  status_told note new_note bytes held whole = record {
    is_code = h.is_code;
    line = subst (λ (xs : List ℕ). HoldsText xs note new_note) h.answer.noted held;
    whole = whole ∙ ap (λ (xs : List ℕ). length xs) h.answer.noted;
    short = subst (λ n. n ≤ longest_note) (sym whole) h.answer.short;
  }

  -- a refusal is neither of those of which nothing is noted
  pub is_noted : {A : Type 0} → ¬ code ≡ ok → (code ≡ ok) ⊎ (code ≡ not_text) ⊎ (code ≡ no_memory) → A
  is_noted not (inl done) = absurd (not done)
  is_noted not (inr (inl no_text)) = absurd (has_text no_text)
  is_noted not (inr (inr none)) = absurd (has_room none)

-- ---- what is shown
module _ (words input : List ℕ) (out : List ℕ) (note : List ℕ) where
  pub shows_no_text : (out_bytes note_bytes : ℕ) → ¬ IsUtf8 words
      → ShowsCall words input out out out_bytes note note note_bytes not_text
  shows_no_text out_bytes note_bytes none = record {
    printed = λ e. absurd (cc e);
    refused = λ _ not _. absurd (not refl);
    no_text = (λ _. none, λ _. refl);
    complete = λ utf8 _. absurd (none utf8);
    refused_when = λ _ utf8 _ _. absurd (none utf8);
    beyond_limits = λ utf8 _. absurd (none utf8);
  }

  pub shows_no_memory : (out_bytes note_bytes : ℕ) → IsUtf8 words
      → ShowsCall words input out out out_bytes note note note_bytes no_memory
  shows_no_memory out_bytes note_bytes utf8 = record {
    printed = λ e. absurd (cc e);
    refused = λ _ _ not. absurd (not refl);
    no_text = (λ e. absurd (cc e), λ none. absurd (none utf8));
    complete = λ _ _. inr refl;
    refused_when = λ _ _ _ _. inr refl;
    beyond_limits = λ _ _. inr refl;
  }

  pub shows_printed : (text line : List ℕ) (code : ℕ) → IsUtf8 words → EndsWith (call_in words input) text line code → code ≡ ok
      → (new_out : List ℕ) (out_bytes note_bytes : ℕ) → HoldsText text out new_out → out_bytes ≡ length text
      → ShowsCall words input out new_out out_bytes note note note_bytes ok
  shows_printed text line code utf8 h e new_out out_bytes note_bytes held whole =
      let done = is_done (call_in words input) text line code h e in record {
        printed = λ _. record { text = text; printed = h.answer.printed done; held = held; whole = whole };
        refused = λ not _ _. absurd (not refl);
        no_text = (λ e. absurd (cc e), λ none. absurd (none utf8));
        complete = λ _ _. inl refl;
        refused_when = λ other _ cause no_limit. absurd (h.answer.done_has_no_cause
            (subst (Causes (call_in words input)) (sym (h.answer.refused_when other cause no_limit) ∙ done) cause));
        beyond_limits = λ _ over. absurd (subst IsLimit done (h.answer.beyond_limits over));
      }

  pub shows_noted : (text line : List ℕ) (code : ℕ) → IsUtf8 words → EndsWith (call_in words input) text line code → ¬ code ≡ ok
      → (new_note : List ℕ) (out_bytes note_bytes : ℕ) → HoldsText line note new_note → note_bytes ≡ length line
      → ShowsCall words input out out out_bytes note new_note note_bytes code
  shows_noted text line code utf8 h not new_note out_bytes note_bytes held whole =
      let c = call_in words input in
      let told = status_told c text line code h note new_note note_bytes held whole in record {
        printed = λ e. absurd (not e);
        refused = λ _ _ _. record { status = h.status; cause = its_cause c text line code h not; told = told };
        no_text = (λ e. absurd (has_text c text line code h e), λ none. absurd (none utf8));
        complete = λ _ can. absurd (not (h.is_code ∙ ap code_of (h.answer.complete can)));
        refused_when = λ other _ cause no_limit. inl (subst (λ (s : Status). TellsStatus s code note new_note note_bytes)
            (h.answer.refused_when other cause no_limit) told);
        beyond_limits = λ _ over. inl (record { status = h.status; limit = h.answer.beyond_limits over; told = told });
      }
