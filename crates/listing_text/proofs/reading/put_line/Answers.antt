use Rattle.std.proofs.Common.{◌≡◌, ℕ, ◌+◌, Ok, Err, length, vec_len, Vec, Global, arith, ap, ◌∙◌, eq-eqb}
use Rattle.std.proofs.lemmas.Bool.{ne_eqb}
use Rattle.cyclo_points.specs.Text.{blank}
use Rattle.tile_shape.specs.Views.{address_of}
use Rattle.listing_text.specs.declared.entry.Entry.{Entry}
use Rattle.listing_text.specs.Listing.{entry_in, entry_of_words}
use Rattle.listing_text.specs.Views.{texts_behind}
use Rattle.listing_text.specs.Words.{listed_behind}
use Rattle.listing_text.proofs.LineRead.{start_wrong, started, behind_none, of_its_kind, of_another_kind}
use Rattle.listing_text.proofs.ListingRead.{or_cause}
use Rattle.listing_text.proofs.reading.put_line.Goals as goal

count : (v : Vec Entry Global) (n : ℕ) → n ≡ vec_len v → length v.items ≡ n
count v n e = omega (arith, e, v.ok)

pub returns-in-Err-clause-fault : goal.returns-in-Err-clause-fault
returns-in-Err-clause-fault c =
    ap (λ n. entry_in c.args.uses.now (n + 1) c.args.line.now) (count c.args.entries.now c.len.result c.len.ensures)
    ∙ start_wrong c.args.uses.now (c.len.result + 1) c.args.line.now c.in-Err.place c.in-Err.ensures

pub returns-in_default-clause-fault : goal.returns-in_default-clause-fault
returns-in_default-clause-fault c =
    let placed = c.in-Ok.placed in
    ap (λ n. entry_in c.args.uses.now (n + 1) c.args.line.now) (count c.args.entries.now c.len.result c.len.ensures)
    ∙ started c.args.uses.now (c.len.result + 1) c.args.line.now placed.kind placed.motion (texts_behind blank placed.left) c.in-Ok.ensures
    ∙ ap (λ l. entry_of_words c.args.uses.now (c.len.result + 1) (listed_behind placed.kind placed.motion (texts_behind blank l))) c.in_default.is
    ∙ ap (entry_of_words c.args.uses.now (c.len.result + 1)) (behind_none placed.kind placed.motion)

pub returns-then-address-placed-clause-fault : goal.returns-then-address-placed-clause-fault
returns-then-address-placed-clause-fault c =
    let placed = c.in-Ok.placed in
    let a = address_of c.in-Ok-read_address.address in
    ap (λ n. entry_in c.args.uses.now (n + 1) c.args.line.now) (count c.args.entries.now c.len.result c.len.ensures)
    ∙ of_another_kind c.args.uses.now (c.len.result + 1) c.args.line.now placed.kind placed.motion c.in-Some.text.now a
    (c.in-Ok.ensures ∙ ap (λ l. Ok (placed.kind, placed.motion, texts_behind blank l)) c.in-Some.is)
    c.in-Ok-read_address.ensures.read.1
    (c.short_numbers_law.ensures c.args.uses.now a c.kinds-limits.ensures.limits c.in-Ok-read_address.ensures.read.0.fits)
    c.in-Ok-read_address.ensures.exact
    (ne_eqb a.kind placed.kind c.if-address-placed.true)

pub returns-in-Err-read_address-clause-fault : goal.returns-in-Err-read_address-clause-fault
returns-in-Err-read_address-clause-fault c =
    let placed = c.in-Ok.placed in
    or_cause (λ f. entry_in c.args.uses.now (length c.args.entries.now.items + 1) c.args.line.now ≡ Err f) c.wrong_end.result
    (ap (λ n. entry_in c.args.uses.now (n + 1) c.args.line.now) (count c.args.entries.now c.len.result c.len.ensures)
    ∙ started c.args.uses.now (c.len.result + 1) c.args.line.now placed.kind placed.motion (texts_behind blank placed.left) c.in-Ok.ensures
    ∙ ap (λ l. entry_of_words c.args.uses.now (c.len.result + 1) (listed_behind placed.kind placed.motion (texts_behind blank l))) c.in-Some.is
    ∙ c.wrong_end.ensures c.args.uses.now placed.kind placed.motion c.in-Err-read_address.ensures.exact)

pub returns-in_ok-push-in-Ok-read_address-clause-put : goal.returns-in_ok-push-in-Ok-read_address-clause-put
returns-in_ok-push-in-Ok-read_address-clause-put c =
    let placed = c.in-Ok.placed in
    let a = address_of c.in-Ok-read_address.address in
    record {
      entry = record { motion = placed.motion; address = c.in-Ok-read_address.address };
      read =
          ap (λ n. entry_in c.args.uses.now (n + 1) c.args.line.now) (count c.args.entries.now c.len.result c.len.ensures)
          ∙ of_its_kind c.args.uses.now (c.len.result + 1) c.args.line.now placed.kind placed.motion c.in-Some.text.now a
          (c.in-Ok.ensures ∙ ap (λ l. Ok (placed.kind, placed.motion, texts_behind blank l)) c.in-Some.is)
          c.in-Ok-read_address.ensures.read.1
          (c.short_numbers_law.ensures c.args.uses.now a c.kinds-limits.ensures.limits c.in-Ok-read_address.ensures.read.0.fits)
          c.in-Ok-read_address.ensures.exact
          (eq-eqb a.kind placed.kind c.if-address-placed.false);
      accepted = c.in-Ok-read_address.ensures.read.0;
      behind = c.in_ok-push-in-Ok-read_address.ensures.items;
    }
