use Rattle.std.proofs.Common.{◌≡◌, ◌⊎◌, inl, inr, ℕ, ◌+◌, ◌<◌, List, slice_get, Some, subst, arith}
use Rattle.tile_shape.specs.Views.{address_of}
use Rattle.listing_text.specs.declared.entry.Entry.{Entry}
use Rattle.list_verify.specs.declared.list_fault.ListFault.{ListFault}
use Rattle.list_verify.specs.declared.list_fault.ListFault.TheVariants.{Double}
use Rattle.list_verify.specs.Faults.{OrNoRoom}
use Rattle.list_verify.specs.LineIndex.{IsAgain, NoneAgain, HasAddress}
use Rattle.list_verify.proofs.Chains.{below_or}
use Rattle.theory_walks.proofs.Outcomes.{if_err-is}
use Rattle.list_verify.proofs.line_index.LineIndex.new.Goals as goal

doubled : (lines : List Entry) (line : ℕ) (fault : ListFault) → NoneAgain lines line
    → OrNoRoom (λ f. (f ≡ Double (line + 1)) × IsAgain lines line) fault
    → OrNoRoom (λ f. (i : ℕ) × (f ≡ Double (i + 1)) × IsAgain lines i × NoneAgain lines i) fault
doubled lines line fault none (inl e) = inl e
doubled lines line fault none (inr h) = inr (line, h.0, h.1, none)

one-more : (lines : List Entry) (line : ℕ) → NoneAgain lines line
    → ((e : Entry) → slice_get lines line ≡ Some e → (j : ℕ) → j < line
    → ¬ HasAddress lines j (address_of e.address)) → NoneAgain lines (line + 1)
one-more lines line none new i e below at j lower has = at_line (below_or i line (omega arith))
  where
    at_line : (i ≡ line) ⊎ (i < line) → ⊥
    at_line (inl s) = absurd (new e (subst (λ k. slice_get lines k ≡ Some e) s at) j (subst (λ k. j < k) s lower) has)
    at_line (inr k) = absurd (none i e k at j lower has)

pub returns-in_err-add-clause-double : goal.returns-in_err-add-clause-double
returns-in_err-add-clause-double c = if_err-is _ c.from_residual-in_err-add.result c.in_err-add.field-0.0 c.from_residual-in_err-add.ensures.1
    (doubled c.args.lines.now c.loop-line.line c.in_err-add.field-0.0 c.loop-line.invariant.1 c.in_err-add.ensures.double)

pub loop-line-preserved : goal.loop-line-preserved
loop-line-preserved c = (c.in_ok-add.ensures.index, one-more c.args.lines.now c.loop-line.line c.loop-line.invariant.1 c.in_ok-add.ensures.new)

pub returns-clause-distinct : goal.returns-clause-distinct
returns-clause-distinct c i e below at j lower has = absurd
    (c.loop-line.invariant.1 i e (omega (arith, below, c.loop-line-test.false)) at j lower has)
