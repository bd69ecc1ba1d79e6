-- What a run of the command over bytes in memory says of the call that it answers.
use Rattle.std.proofs.Common.{◌≡◌, ◌⊎◌, ◌≤◌, ℕ, Bool, true, false, List, [], ◌++◌, Some, length, inl, inr, refl, sym, ap, ◌∙◌, subst, arith}
use Rattle.std.specs.declared.option.Option.{Option}
use Rattle.layer_api.specs.declared.format.Format.{Format}
use Rattle.tile_io.specs.Causes.{Rose}
use Rattle.tile_io.specs.Taken.{Takes}
use Rattle.call_notes.specs.declared.status.Status.{Status}
use Rattle.call_notes.specs.declared.status.Status.TheVariants.{Done, WriteFault, NoMemory}
use Rattle.call_notes.specs.Notes.{note_of, longest_note}
use Rattle.call_notes.specs.Status.{IsCutShort, IsLimit, IsRefusal}
use Rattle.tile_app.specs.Answer.{IsPrinted, Prints, CanBeAnswered, IsBeyondLimits}
use Rattle.tile_app.specs.Asked.{OfCall, IsAsked, IsFileIn}
use Rattle.tile_app.specs.Call.{Call, reads_file}
use Rattle.tile_app.specs.Causes.{Causes, IsNoLimit, IsRefused}
use Rattle.tile_app.proofs.Answered.{of_asked, caused, never_at_done}
use Rattle.tiling_c.specs.Calling.{IsEnding, all_formats, call_of, file_in}

-- without faults before and after, their count did not rise
pub no_rise : (before after : ℕ) → before ≡ 0 → after ≡ 0 → ¬ Rose before after
no_rise before after b a rose = absurd (omega (arith, rose, b, a))

-- the file is the input, if one is read
is_in : (b : Bool) (input : List ℕ) → IsFileIn b (Some input) (file_in b input)
is_in true input = refl
is_in false input = refl

module _ (words arguments : List (List ℕ)) (handed : List Format) (input : List ℕ) (rest : Option (List ℕ))
    (are : words ≡ arguments) (formats : handed ≡ all_formats) where
  abbrev told : List ℕ → Option (List ℕ)
  told bytes = Some bytes

  asked : IsAsked words handed (told input) (call_of arguments input)
  asked =
      subst (λ h. IsAsked words h (told input) (call_of arguments input)) (sym formats)
      (subst (λ w. IsAsked w all_formats (told input) (call_of arguments input)) (sym are)
      (record { by_words = refl; by_layers = refl; in_source = is_in (reads_file arguments all_formats) input }))

  printed : (old new : List ℕ) → old ≡ []
      → OfCall words handed (told input) rest (λ c. (text : List ℕ) × Prints c text × Takes (told old) (told new) text)
      → Prints (call_of arguments input) new
  printed old new none k =
      subst (λ (text : List ℕ). Prints (call_of arguments input) text)
      (sym (k.2.2 ∙ ap (λ (xs : List ℕ). xs ++ k.2.0) none))
      (of_asked words handed (told input) rest (call_of arguments input) asked (λ q file t. IsPrinted q file t k.2.0)
      (k.0, k.1, k.2.1))

  cause_of : (s : Status) → ¬ s ≡ WriteFault → ¬ IsCutShort s
      → (IsRefusal s → IsRefused words handed (told input) rest s) → (s ≡ Done) ⊎ Causes (call_of arguments input) s
  cause_of Done written whole refused = inl refl
  cause_of WriteFault written whole refused = absurd (written refl)
  cause_of s written whole refused = elim (caused words handed (told input) rest (call_of arguments input) asked s tt (refused tt)) [
    | inl cut ↦ absurd (whole cut)
    | inr cause ↦ inr cause
  ]

  or_cut : (A : Type 0) (s : Status) → ¬ IsCutShort s → A ⊎ IsCutShort s → A
  or_cut A s whole (inl a) = a
  or_cut A s whole (inr cut) = absurd (whole cut)

  or_no_memory : (s : Status) → ¬ IsCutShort s → (s ≡ Done) ⊎ (s ≡ NoMemory) → s ≡ Done
  or_no_memory s whole (inl e) = e
  or_no_memory s whole (inr e) = absurd (whole (subst IsCutShort (sym e) tt))

  -- what the run says, with nothing taken before and no faults after
  pub is_ending : (s : Status) (old new noted line : List ℕ) → ¬ IsCutShort s → old ≡ [] → noted ≡ []
      → (s ≡ Done → OfCall words handed (told input) rest (λ c. (text : List ℕ) × Prints c text × Takes (told old) (told new) text))
      → (IsRefusal s → IsRefused words handed (told input) rest s)
      → ((c : Call) (u : Status) → IsAsked words handed (told input) c → Causes c u → IsNoLimit c u → (s ≡ u) ⊎ IsCutShort s)
      → ((c : Call) → IsAsked words handed (told input) c → IsBeyondLimits c → IsLimit s ⊎ IsCutShort s)
      → ((c : Call) → IsAsked words handed (told input) c → CanBeAnswered c → (s ≡ Done) ⊎ (s ≡ NoMemory))
      → ¬ s ≡ WriteFault → line ≡ noted ++ note_of s → length (note_of s) ≤ longest_note
      → IsEnding (call_of arguments input) new line s
  is_ending s old new noted line whole none none_noted done refused when beyond complete written its_line short = record {
    whole = whole;
    printed = λ e. printed old new none (done e);
    noted = its_line ∙ ap (λ (xs : List ℕ). xs ++ note_of s) none_noted;
    short = subst (λ (xs : List ℕ). length xs ≤ longest_note) (sym (its_line ∙ ap (λ (xs : List ℕ). xs ++ note_of s) none_noted)) short;
    refused = cause_of s written whole refused;
    complete = λ can. or_no_memory s whole (complete (call_of arguments input) asked can);
    refused_when = λ u cause no_limit. or_cut (s ≡ u) s whole (when (call_of arguments input) u asked cause no_limit);
    beyond_limits = λ over. or_cut (IsLimit s) s whole (beyond (call_of arguments input) asked over);
    done_has_no_cause = never_at_done (call_of arguments input);
  }
