use Rattle.std.proofs.Common.{◌≡◌, List, ℕ, Result, Ok, Err, IfOk, IfErr, Vec, ap, ◌∙◌, subst}
use Rattle.rule_model.specs.Tiling.{Tiling, tiling_of, children}
use Rattle.tile_shape.specs.Usable.{AreUsable}
use Rattle.addr_calc.specs.declared.calc_fault.CalcFault.{CalcFault}
use Rattle.addr_calc.specs.declared.calc_fault.CalcFault.TheVariants.{NoMemory}
use Rattle.addr_calc.specs.Script.{Outcome, IsOutcome, LineOrNoMemory, IsOrNoMemory, outcome_of}
use Rattle.addr_calc.proofs.calc.calc.Goals as goal

-- where an answer is what comes of a script, or want of memory, it is what comes of it
module _ (t : Tiling) (script : List ℕ) (once : (one other : Outcome) → IsOutcome t script one → IsOutcome t script other → one ≡ other) where
  fault_is : (fault : CalcFault) → LineOrNoMemory (λ f. IsOutcome t script (Err f)) fault → (outcome : Outcome)
      → IsOutcome t script outcome → IsOrNoMemory (Err fault) outcome
  fault_is NoMemory h outcome k = tt
  fault_is fault h outcome k = once (Err fault) outcome h k

  answer_is : {A : Type 0} (result : Result (Vec ℕ A) CalcFault)
      → IfOk result (λ text. IsOutcome t script (Ok text.items))
      → IfErr result (LineOrNoMemory (λ f. IsOutcome t script (Err f)))
      → (outcome : Outcome) → IsOutcome t script outcome → IsOrNoMemory (outcome_of result) outcome
  answer_is (Ok text) h k outcome a = once (Ok text.items) outcome h a
  answer_is (Err fault) h k outcome a = fault_is fault k outcome a

pub returns-clause-answered : goal.returns-clause-answered
returns-clause-answered c =
    let t = tiling_of c.args.machine.now in
    let usable : AreUsable (children t) = subst AreUsable
    (c.uses.ensures ∙ ap (λ m. children (tiling_of m)) c.checked.ensures.rule)
    c.kinds-limits.ensures.limits in
    answer_is t c.args.script.now (λ one other. c.one_answer_law.ensures t c.args.script.now one other usable)
    c.calculated.result c.calculated.ensures.ran c.calculated.ensures.fault
