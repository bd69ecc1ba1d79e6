use Rattle.std.proofs.Common.{◌≡◌, ℕ, ◌<◌, ◌≤◌, List, length, get_or, slice_set, refl, sym, ap, ◌∙◌, subst, arith}
use Rattle.std.proofs.lemmas.List.{length-map}
use Rattle.std.proofs.lemmas.Option.{slice_get_within}
use Rattle.theory_addresses.specs.Address.{depth, Fits}
use Rattle.theory_addresses.proofs.Lists.{AllByRecursion-from}
use Rattle.theory_addresses.proofs.Ranges.{among-place}
use Rattle.theory_frames.specs.Frame.{IsTileOf}
use Rattle.theory_walks.specs.Frames.{whole}
use Rattle.listing_text.specs.declared.entry.Entry as program
use Rattle.listing_text.specs.Listing.{Entry}
use Rattle.listing_text.specs.Views.{entry_of}
use Rattle.tile_shape.specs.Views.{address_of}
use Rattle.list_verify.specs.FoundLines.{entries_of}
use Rattle.list_verify.specs.Lifted.{entry_lifted, first_lifted}
use Rattle.list_verify.proofs.Chains.{get_or-default}
use Rattle.list_verify.proofs.FirstLifted.{all-lifted, entries-set, line-as-was, one-more-lifted, one-more-so, same-line}
use Rattle.list_verify.proofs.Marks.{set-length}
use Rattle.list_verify.proofs.lifted_lines.lift_each.Goals.{After-index-lines-line}
use Rattle.list_verify.proofs.lifted_lines.lift_each.Goals as goal

within : {a b n : ℕ} → n < a → b ≡ a → n < b
within h e = omega arith

pub is_of_frame-requires : goal.is_of_frame-requires
is_of_frame-requires c = record {
  no_deeper = subst (λ (e : Entry). depth e.address ≤ length c.args.frame.now.digits)
      (same-line (whole c.args.frame.now) c.loop-line.line c.args.lines.now c.loop-line.lines
      c.index-lines-line.result c.loop-line.invariant.1
      (within c.loop-line-test.true c.loop-line.invariant.0) c.loop-line-test.true)
      (c.requires.no_deeper c.loop-line.line c.index-lines-line.result c.loop-line-test.true);
}

pub raise-requires : goal.raise-requires
raise-requires c = record {
  no_deeper = subst (λ (e : Entry). depth e.address ≤ length c.args.frame.now.digits)
      (same-line (whole c.args.frame.now) c.loop-line.line c.args.lines.now c.loop-line.lines
      c.index-lines-line-in-loop-line.result c.loop-line.invariant.1
      (within c.loop-line-test.true c.loop-line.invariant.0) c.loop-line-test.true)
      (c.requires.no_deeper c.loop-line.line c.index-lines-line-in-loop-line.result c.loop-line-test.true);
}

-- the next line fits what all fit
fits-next : (c : After-index-lines-line) (kinds : List (List ℕ))
    → ((k : ℕ) (d : program.Entry) → k < length c.args.lines.now
    → Fits kinds (address_of (get_or c.args.lines.now k d).address))
    → Fits kinds (address_of (get_or c.loop-line.lines c.loop-line.line c.index-lines-line.result).address)
fits-next c kinds fit = subst (λ (e : Entry). Fits kinds e.address)
    (same-line (whole c.args.frame.now) c.loop-line.line c.args.lines.now c.loop-line.lines
    c.index-lines-line.result c.loop-line.invariant.1
    (within c.loop-line-test.true c.loop-line.invariant.0) c.loop-line-test.true)
    (fit c.loop-line.line c.index-lines-line.result c.loop-line-test.true)

pub returns-then-not-is_of_frame-clause-fault : goal.returns-then-not-is_of_frame-clause-fault
returns-then-not-is_of_frame-clause-fault c kinds fit =
    let p = (goal.at.returns-then-not-is_of_frame-clause-fault c).After-index-lines-line in record {
      number = c.loop-line.line;
      is = refl;
      first = record {
        line = entry_of (get_or c.loop-line.lines c.loop-line.line c.index-lines-line.result);
        is_line = line-as-was (whole c.args.frame.now) c.loop-line.line c.args.lines.now c.loop-line.lines
            c.index-lines-line.result c.loop-line.invariant.1
            (within c.loop-line-test.true c.loop-line.invariant.0);
        so = λ of. absurd (cc (sym c.if-not-is_of_frame.true ∙ (c.is_of_frame.ensures kinds (fits-next p kinds fit)).1 of));
        first = λ j e l at n. absurd (n (c.loop-line.invariant.2 kinds fit j e l at));
      };
    }

pub loop-line-preserved : goal.loop-line-preserved
loop-line-preserved c =
    let p = (goal.at.loop-line-preserved c).After-index-lines-line in
    let F = whole c.args.frame.now in
    let d = c.index-lines-line-in-loop-line.result in
    let own : program.Entry = get_or c.loop-line.lines c.loop-line.line d in
    let lifted : program.Entry = record { motion = own.motion; address = c.raise.new.tile } in
    let below = within c.loop-line-test.true c.loop-line.invariant.0 in
    let at = line-as-was F c.loop-line.line c.args.lines.now c.loop-line.lines d c.loop-line.invariant.1 below in
    let is : entry_of lifted ≡ entry_lifted F (entry_of own) = (λ i. record { motion = own.motion; address = c.raise.ensures i }) in (
      set-length c.loop-line.lines c.loop-line.line lifted ∙ c.loop-line.invariant.0,
      entries-set c.loop-line.lines c.loop-line.line lifted
          ∙ ap (λ (es : List Entry). slice_set es c.loop-line.line (entry_of lifted)) c.loop-line.invariant.1
          ∙ ap (λ (e : Entry). slice_set (first_lifted F c.loop-line.line (entries_of c.args.lines.now)) c.loop-line.line e) is
          ∙ one-more-lifted F c.loop-line.line (entries_of c.args.lines.now) (entry_of own) at,
      λ kinds fit. one-more-so (λ (e : Entry). IsTileOf kinds F e.address) (entries_of c.args.lines.now) c.loop-line.line (entry_of own) at
          (subst (λ (e : program.Entry). IsTileOf kinds F (address_of e.address))
          (get_or-default c.loop-line.lines c.loop-line.line c.index-lines-line.result d below)
          ((c.is_of_frame.ensures kinds (fits-next p kinds fit)).0 c.if-not-is_of_frame.false))
          (λ j e l there. c.loop-line.invariant.2 kinds fit j e l there),
    )

pub returns-clause-lifted : goal.returns-clause-lifted
returns-clause-lifted c kinds fit =
    let F = whole c.args.frame.now in
    let all = c.loop-line-test.false in
    let count = length-map c.args.lines.now entry_of in record {
      of_frame = AllByRecursion-from (λ (e : Entry). IsTileOf kinds F e.address) (entries_of c.args.lines.now) (λ x i.
          let place = among-place x (entries_of c.args.lines.now) i in
          let l = slice_get_within (entries_of c.args.lines.now) place.0 x place.1 in
          c.loop-line.invariant.2 kinds fit place.0 x (omega (arith, l, all, count)) place.1);
      are = c.loop-line.invariant.1 ∙ all-lifted F c.loop-line.line (entries_of c.args.lines.now) (omega (arith, all, count));
    }
