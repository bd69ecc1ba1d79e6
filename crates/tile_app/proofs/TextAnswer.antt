-- A text as the answer to a call.
use Rattle.std.proofs.Common.{◌≡◌, ℕ, Bool, false, List, [], Result, Ok, Err, MatchResult, IsOkAnd, IfOk, IfErr, refl, sym, subst}
use Rattle.std.proofs.lemmas.Result.{IfOk-weaker, IfErr-weaker}
use Rattle.std.specs.declared.option.Option.{Option}
use Rattle.std.specs.Global.{Vec}
use Rattle.call_words.specs.Request.{Request}
use Rattle.layer_api.specs.declared.drawn.Drawn.{Drawn}
use Rattle.layer_api.specs.declared.format.Format.{Format}
use Rattle.layer_api.specs.declared.view.View.{View}
use Rattle.rule_model.specs.Tiling.{Tiling}
use Rattle.call_notes.specs.declared.status.Status.{Status}
use Rattle.call_notes.specs.declared.status.Status.TheVariants.{ReadFault}
use Rattle.tile_app.specs.declared.whole_answer.WholeAnswer.{WholeAnswer}
use Rattle.tile_app.specs.declared.whole_answer.WholeAnswer.TheVariants.{Text}
use Rattle.tile_app.specs.Answer.{IsPrinted, Refuses}
use Rattle.tile_app.specs.Files.{has_own_file}
use Rattle.tile_app.specs.LayerTexts.{IsTextOf}
use Rattle.tile_app.specs.Reading.{OfOwnFile, IsRequestRefused}
use Rattle.call_notes.specs.Status.{OrNoMemory}
use Rattle.tile_app.proofs.Own.{alone_printed, alone_refused, alone_unread}

-- the answer is the text, or its refusal
abbrev pub IsAnswerOf : Result (Vec ℕ) Status → Result WholeAnswer Status → Type 0
IsAnswerOf text answer = MatchResult text (λ x. IsOkAnd answer (λ y. y ≡ Text x)) (λ s. answer ≡ Err s)

pub text_refused : (Q : Status → Type 0) (text : Result (Vec ℕ) Status) (answer : Result WholeAnswer Status) → IsAnswerOf text answer
    → IfErr text Q → IfErr answer Q
text_refused Q (Ok x) (Ok y) is h = tt
text_refused Q (Ok x) (Err s) is h = absurd is
text_refused Q (Err s) answer is h = subst (λ r. IfErr r Q) (sym is) h

module _ {D : Type 0} (form : D → Format) (seen : D → View) (ended : D → Bool) (draws : D → List Drawn → Type 0) (layers : List D) where
  -- this is printed
  abbrev pub IsTold : (List ℕ → Type 0) → WholeAnswer → Type 0
  IsTold P answer = (text : List ℕ) × P text × IsTextOf form seen ended draws layers answer text

  pub text_told : (P : List ℕ → Type 0) (text : Result (Vec ℕ) Status) (answer : Result WholeAnswer Status) → IsAnswerOf text answer
      → IfOk text (λ x. P x.items) → IfOk answer (IsTold P)
  text_told P (Ok x) (Ok y) is h = (x.items, h, subst (λ z. IsTextOf form seen ended draws layers z x.items) (sym is) refl)
  text_told P (Ok x) (Err s) is h = absurd is
  text_told P (Err s) answer is h = subst (λ r. IfOk r (IsTold P)) (sym is) tt

  -- of a request without a file of its own
  pub alone_told : (q : Request) (t : Tiling) (left : Option (List ℕ)) → has_own_file q ≡ false
      → (text : Result (Vec ℕ) Status) (answer : Result WholeAnswer Status) → IsAnswerOf text answer
      → IfOk text (λ x. IsPrinted q [] t x.items) → IfOk answer (IsTold (λ xs. OfOwnFile q left left (λ file. IsPrinted q file t xs)))
  alone_told q t left none text answer is h =
      text_told (λ xs. OfOwnFile q left left (λ file. IsPrinted q file t xs)) text answer is
      (IfOk-weaker text _ _ (λ x k. alone_printed q t left none x.items k) h)

module _ (q : Request) (t : Tiling) (text : Result (Vec ℕ) Status) (answer : Result WholeAnswer Status) (is : IsAnswerOf text answer)
    (refused : IfErr text (OrNoMemory (λ s. Refuses q [] t s))) where
  pub alone_untold : (left : Option (List ℕ)) → has_own_file q ≡ false → IfErr answer (IsRequestRefused q t left left)
  alone_untold left none = text_refused (IsRequestRefused q t left left) text answer is (IfErr-weaker text _ _ (alone_refused q t left none) refused)

  pub answer_unread : answer ≡ Err ReadFault → ⊥
  answer_unread = alone_unread q t answer (text_refused (OrNoMemory (λ s. Refuses q [] t s)) text answer is refused)
