-- A script has one answer.
use Rattle.std.proofs.Common.{◌≡◌, inl, inr, ℕ, ◌+◌, List, [], ◌∷◌, Result, Ok, Err, sym, ap, ap₂, ◌∙◌, subst}
use Rattle.rule_model.specs.Tiling.{Tiling, children}
use Rattle.tile_shape.specs.Usable.{AreUsable}
use Rattle.addr_calc.specs.Bindings.{Bindings}
use Rattle.addr_calc.specs.declared.calc_fault.CalcFault.{CalcFault}
use Rattle.addr_calc.specs.declared.calc_fault.CalcFault.TheVariants.{BadLine}
use Rattle.addr_calc.specs.Does.{Does, Runs}
use Rattle.addr_calc.specs.Reading.{statement_in}
use Rattle.addr_calc.specs.Refuses.{LineRefuses, HasFault}
use Rattle.addr_calc.specs.Script.{Outcome, put_before, ComesOf}
use Rattle.addr_calc.specs.Statement.{Statement}
use Rattle.addr_calc.proofs.Faults.{OneText}
use Rattle.addr_calc.proofs.OneEffect.{FitsAreShort, AreOne, does_once}
use Rattle.addr_calc.proofs.OneRefusal.{done_or_refused, refused_once}

ok_is : {A B : Type 0} (x y : A) (o : Result A B) → o ≡ Ok x → o ≡ Ok y → x ≡ y
ok_is x y o e f = cc

err_is : {A B : Type 0} (x y : B) (o : Result A B) → o ≡ Err x → o ≡ Err y → x ≡ y
err_is x y o e f = cc

either : {A B : Type 0} (x : A) (y : B) (o : Result A B) → o ≡ Ok x → o ≡ Err y → ⊥
either x y o e f = absurd (cc (e, f))

module _ (one_text : OneText) (short : FitsAreShort) (t : Tiling) (usable : AreUsable (children t)) where
  -- ---- lines
  runs_once : (names : Bindings) (text : List ℕ) (after after' : Bindings) (printed printed' : List ℕ)
      → Runs t names text after printed → Runs t names text after' printed'
      → AreOne after after' printed printed'
  runs_once names text after after' printed printed' h k =
      does_once one_text short t usable names k.statement after after' printed printed'
      (subst (λ s. Does t names s after printed)
      (ok_is h.statement k.statement (statement_in text) h.is_statement k.is_statement) h.does) k.does

  -- a line has a statement and its fault, or none
  abbrev HasRefusal : Bindings → ℕ → List ℕ → CalcFault → Type 0
  HasRefusal names number text f = (s : Statement) × (statement_in text ≡ Ok s) × LineRefuses t names s number f

  refusal_runs : (names : Bindings) (number : ℕ) (text : List ℕ) (f : CalcFault) (after : Bindings)
      (printed : List ℕ) → HasRefusal names number text f → Runs t names text after printed → ⊥
  refusal_runs names number text f after printed h k =
      done_or_refused one_text t names k.statement after printed number f k.does
      (subst (λ s. LineRefuses t names s number f)
      (ok_is h.0 k.statement (statement_in text) h.1 k.is_statement) h.2)

  refusal_once : (names : Bindings) (number : ℕ) (text : List ℕ) (f g : CalcFault)
      → HasRefusal names number text f → HasRefusal names number text g → f ≡ g
  refusal_once names number text f g h k =
      refused_once one_text t names k.0 number f g (subst (λ s. LineRefuses t names s number f) (ok_is h.0 k.0 (statement_in text) h.1 k.1) h.2) k.2

  fault_or_runs : (names : Bindings) (number : ℕ) (text : List ℕ) (f : CalcFault) (after : Bindings)
      (printed : List ℕ) → HasFault t names number text f → Runs t names text after printed → ⊥
  fault_or_runs names number text (BadLine at place) after printed h k = either k.statement place (statement_in text) k.is_statement h.1
  fault_or_runs names number text f after printed h k = refusal_runs names number text f after printed h k

  bad_or_refusal : (names : Bindings) (number : ℕ) (text : List ℕ) (place : ℕ) (f : CalcFault)
      → statement_in text ≡ Err place → HasRefusal names number text f → ⊥
  bad_or_refusal names number text place f e k = either k.0 place (statement_in text) k.1 e

  has_fault_once : (names : Bindings) (number : ℕ) (text : List ℕ) (f g : CalcFault)
      → HasFault t names number text f → HasFault t names number text g → f ≡ g
  has_fault_once names number text (BadLine m i) (BadLine n j) h k = ap₂ (λ l p. BadLine l p) (h.0 ∙ sym k.0) (err_is i j (statement_in text) h.1 k.1)
  has_fault_once names number text (BadLine m i) g h k = absurd (bad_or_refusal names number text i g h.1 k)
  has_fault_once names number text f (BadLine n j) h k = absurd (bad_or_refusal names number text j f k.1 h)
  has_fault_once names number text f g h k = refusal_once names number text f g h k

  -- ---- scripts
  pub comes_once : (names : Bindings) (number : ℕ) (lines : List (List ℕ)) (one other : Outcome)
      → ComesOf t names number lines one → ComesOf t names number lines other → one ≡ other
  comes_once names number [] one other h k = h ∙ sym k
  comes_once names number (line ∷ lines) one other (inl h) (inl k) = h.2
      ∙ ap (λ f. Err f) (has_fault_once names number line h.0 k.0 h.1 k.1) ∙ sym k.2
  comes_once names number (line ∷ lines) one other (inl h) (inr k) = absurd (fault_or_runs names number line h.0 k.0 k.1 h.1 k.3)
  comes_once names number (line ∷ lines) one other (inr h) (inl k) = absurd (fault_or_runs names number line k.0 h.0 h.1 k.1 h.3)
  comes_once names number (line ∷ lines) one other (inr h) (inr k) =
      let same = runs_once names line h.0 k.0 h.1 k.1 h.3 k.3 in
      let rest = comes_once k.0 (number + 1) lines h.2 k.2 (subst (λ after. ComesOf t after (number + 1) lines h.2) same.0 h.4) k.4 in
      h.5 ∙ ap₂ put_before same.1 rest ∙ sym k.5
