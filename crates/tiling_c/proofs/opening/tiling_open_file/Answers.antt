use Rattle.std.proofs.Common.{◌≡◌, ℕ, List, inl, inr, length, refl, ap, ◌∙◌, subst, arith}
use Rattle.std.specs.Fmt.{digits}
use Rattle.call_notes.specs.declared.status.Status.TheVariants.{RuleTooLong}
use Rattle.call_notes.specs.Notes.{note_of}
use Rattle.tiling_c.specs.Opening.{HoldsText}
use Rattle.tiling_c.proofs.opening.tiling_open_file.Goals as goal

pub returns-in-Ok-clause-shown : goal.returns-in-Ok-clause-shown
returns-in-Ok-clause-shown c = record {
  opened = λ _. c.in-Ok.ensures.opened;
  refused = λ e. absurd (cc e);
  statuses = inl refl;
}

-- the file is too long
pub returns-then-file-gt-LONGEST_FILE-clause-shown : goal.returns-then-file-gt-LONGEST_FILE-clause-shown
unfolding digits
returns-then-file-gt-LONGEST_FILE-clause-shown c =
    let told : c.as_slice.result.now ≡ note_of RuleTooLong = c.as_slice.ensures in
    let whole : c.put_text.new.bytes ≡ 14 = c.put_text.ensures.bytes ∙ ap (λ (xs : List ℕ). length xs) told in
    record {
      opened = λ e. absurd (cc e);
      refused = λ _. record {
        status = RuleTooLong;
        cause = c.if-file-gt-LONGEST_FILE.true;
        line = subst (λ (xs : List ℕ). HoldsText xs c.args.line.now c.put_text.new.out) told c.put_text.ensures.text;
        whole = whole;
        short = omega (arith, whole);
      };
      statuses = inr (inl refl);
    }
