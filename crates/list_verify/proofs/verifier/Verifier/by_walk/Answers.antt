use Rattle.std.proofs.Common.{◌≡◌, ◌≤◌, inl, inr, List, All, length, get_or, Ok, Err, sym, ap, ◌∙◌, subst, arith}
use Rattle.std.proofs.lemmas.Bool.{cases_lt}
use Rattle.theory_addresses.specs.Address.{Fits}
use Rattle.tile_shape.specs.Accepted.{IsAcceptedAddress}
use Rattle.tile_shape.specs.Views.{address_of}
use Rattle.listing_text.specs.declared.entry.Entry.{Entry}
use Rattle.listing_text.specs.Limits.{most_lines}
use Rattle.listing_text.specs.Lines.{lines_in}
use Rattle.listing_text.specs.Listing.{listing_in}
use Rattle.listing_text.specs.Views.{OrWantsMemory}
use Rattle.rule_model.specs.declared.rule.Rule.{Rule}
use Rattle.rule_model.specs.Tiling.{tiling_of, children}
use Rattle.list_verify.specs.FoundLines.{entries_of}
use Rattle.list_verify.specs.Verdict.{IsVerdict}
use Rattle.list_verify.proofs.Answered.{text-refused, of-text}
use Rattle.list_verify.proofs.verifier.Verifier.by_walk.Goals.{After-uses, After-as_mut_slice}
use Rattle.list_verify.proofs.verifier.Verifier.by_walk.Goals as goal

kinds : (c : After-uses) → c.uses.result.now ≡ children (tiling_of c.args.self.now.machine.now)
kinds c = c.uses.ensures ∙ ap (λ (r : Rule). children (tiling_of r)) c.checked.ensures.rule

-- the lines are those of the text, and not too many
read : (c : After-as_mut_slice) → c.uses.result.now ≡ children (tiling_of c.args.self.now.machine.now)
    → listing_in (children (tiling_of c.args.self.now.machine.now)) c.args.listing.now ≡ Ok (entries_of c.as_mut_slice.result.now)
read c e = subst (λ (lines : List Entry). listing_in (children (tiling_of c.args.self.now.machine.now)) c.args.listing.now ≡ Ok (entries_of lines))
    (sym c.as_mut_slice.ensures.value)
    (subst (λ ks. listing_in ks c.args.listing.now ≡ Ok (entries_of c.in-Ok.entries.items)) e c.in-Ok.ensures.read)

few : (c : After-as_mut_slice) → length (lines_in c.args.listing.now) ≤ most_lines
few c = elim (cases_lt most_lines (length (lines_in c.args.listing.now))) [
  | inl long ↦ absurd (cc (c.in-Ok.ensures.too_long.1 long))
  | inr h ↦ h
]

pub returns-in-Err : goal.returns-in-Err
returns-in-Err c =
    subst (λ fault. IsVerdict (tiling_of c.args.self.now.machine.now) c.args.frame.now c.args.frame.now c.args.self.now.window.now
    c.args.listing.now (Err fault)) (sym c.into.ensures)
    (text-refused _ (tiling_of c.args.self.now.machine.now) c.args.frame.now c.args.self.now.window.now c.args.listing.now
    c.in-Err.fault c.requires.ready.frame
    (subst (λ ks. OrWantsMemory (λ e. listing_in ks c.args.listing.now ≡ Err e) c.in-Err.fault)
    (kinds ((goal.at.returns-in-Err c).After-uses)) c.in-Err.ensures.fault)
    c.in-Err.ensures.too_long)

pub verdict_of-requires-clause-lines : goal.verdict_of-requires-clause-lines
verdict_of-requires-clause-lines c =
    let same = ap length c.as_mut_slice.ensures.value in
    let lines = c.in-Ok.ensures.lines in
    let most = few (goal.at.verdict_of-requires-clause-lines c).After-as_mut_slice in
    record {
      frame = c.requires.ready.frame;
      fit = subst (All (λ (line : Entry). Fits (children (tiling_of c.args.self.now.machine.now)) (address_of line.address)))
          (sym c.as_mut_slice.ensures.value)
          (λ k d l. (subst (λ ks. IsAcceptedAddress ks (address_of (get_or c.in-Ok.entries.items k d).address))
          (kinds (goal.at.verdict_of-requires-clause-lines c).After-uses) (c.in-Ok.ensures.accepted k d l)).fits);
      few = omega (arith, same, lines, most);
    }

pub returns : goal.returns
returns c =
    let at = goal.at.returns c in
    of-text (tiling_of c.args.self.now.machine.now) c.args.frame.now c.verdict_of.new.frame c.args.self.now.window.now c.args.listing.now
    (entries_of c.as_mut_slice.result.now) (read at.After-as_mut_slice (kinds at.After-uses))
    (few at.After-as_mut_slice) c.verdict_of.result c.verdict_of.ensures
