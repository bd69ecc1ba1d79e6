use Rattle.std.proofs.Common.{length, ap, ◌∙◌, subst, arith}
use Rattle.std.proofs.lemmas.List.{length-map}
use Rattle.rule_model.specs.Tiling.{tiling_of}
use Rattle.listing_text.specs.Views.{entry_of}
use Rattle.c_values.specs.Statuses.{ok}
use Rattle.tiling_c.specs.declared.verify.Refusal.{Refusal}
use Rattle.tiling_c.specs.Verify.{ShowsVerify}
use Rattle.tiling_c.proofs.Moved.{no_true}
use Rattle.tiling_c.proofs.Verified.{entries_length}
use Rattle.tiling_c.proofs.VerifyShown.{shows_lengths, shows_none, shows_no_entries, shows_right, shows_wrong}
use Rattle.tiling_c.proofs.verify.tiling_verify.Goals as goal

pub returns-then-not-are_lengths-clause-shown : goal.returns-then-not-are_lengths-clause-shown
returns-then-not-are_lengths-clause-shown c = shows_lengths _ c.args.frame.now c.args.window.now c.args.tiles.now c.args.addrs.now
    c.args.fault.now c.args.index.now (λ both. no_true c.are_lengths.result c.if-not-are_lengths.true (c.are_lengths.ensures.1 both))

pub returns-in-Err-clause-shown : goal.returns-in-Err-clause-shown
returns-in-Err-clause-shown c = subst (λ r. ShowsVerify (tiling_of r) c.args.frame.now c.args.window.now c.args.tiles.now c.args.addrs.now
    c.in-Err.status c.args.fault.now c.args.index.now) c.get-machine.ensures
    (shows_none _ c.args.frame.now c.args.window.now c.args.tiles.now c.args.addrs.now c.args.fault.now c.args.index.now
    (c.are_lengths.ensures.0 c.if-not-are_lengths.false) c.in-Err.status c.in-Err.ensures.refused)

pub returns-in-Err-entries-clause-shown : goal.returns-in-Err-entries-clause-shown
returns-in-Err-entries-clause-shown c = subst (λ r. ShowsVerify (tiling_of r) c.args.frame.now c.args.window.now c.args.tiles.now
    c.args.addrs.now c.tell.result c.tell.new.fault c.tell.new.index) c.get-machine.ensures
    (shows_no_entries _ c.args.frame.now c.args.window.now c.args.tiles.now c.args.addrs.now c.tell.new.fault c.tell.new.index
    (c.are_lengths.ensures.0 c.if-not-are_lengths.false) c.in-Ok.given.frame c.in-Ok.given.window c.in-Ok.ensures.given
    c.in-Err-entries.refusal c.tell.result c.in-Err-entries.ensures.refused c.tell.ensures.status c.tell.ensures.told)

pub verify_entries-requires-clause-few : goal.verify_entries-requires-clause-few
verify_entries-requires-clause-few c =
    let lengths = c.are_lengths.ensures.0 c.if-not-are_lengths.false in
    let given = ap length c.in-Ok-entries.ensures.given in
    let own = length-map c.in-Ok-entries.entries.items entry_of in
    let count = entries_length c.args.tiles.now c.args.addrs.now lengths.0 in
    omega (arith, given, own, count, lengths.1)

pub returns-in-Ok-verify_entries-clause-shown : goal.returns-in-Ok-verify_entries-clause-shown
returns-in-Ok-verify_entries-clause-shown c = subst (λ r. ShowsVerify (tiling_of r) c.args.frame.now c.args.window.now c.args.tiles.now
    c.args.addrs.now ok c.args.fault.now c.args.index.now) c.get-machine.ensures
    (shows_right _ c.args.frame.now c.args.window.now c.args.tiles.now c.args.addrs.now c.args.fault.now c.args.index.now
    (c.are_lengths.ensures.0 c.if-not-are_lengths.false) c.in-Ok.given.frame c.in-Ok.given.window c.in-Ok.ensures.given
    c.in-Ok-entries.entries.items c.in-Ok-entries.ensures.given c.in-Ok-entries.ensures.are_entries c.verify_entries.new.frame
    c.verify_entries.result c.verify_entries.ensures c.in-Ok-verify_entries.field-0 c.in-Ok-verify_entries.is)

pub returns-in-Err-verify_entries-clause-shown : goal.returns-in-Err-verify_entries-clause-shown
returns-in-Err-verify_entries-clause-shown c =
    let told = c.tell-in-Err-verify_entries.ensures in
    subst (λ r. ShowsVerify (tiling_of r) c.args.frame.now c.args.window.now c.args.tiles.now c.args.addrs.now
    c.tell-in-Err-verify_entries.result c.tell-in-Err-verify_entries.new.fault c.tell-in-Err-verify_entries.new.index) c.get-machine.ensures
    (shows_wrong _ c.args.frame.now c.args.window.now c.args.tiles.now c.args.addrs.now c.tell-in-Err-verify_entries.new.fault
    c.tell-in-Err-verify_entries.new.index (c.are_lengths.ensures.0 c.if-not-are_lengths.false) c.in-Ok.given.frame c.in-Ok.given.window
    c.in-Ok.ensures.given c.in-Ok-entries.entries.items c.in-Ok-entries.ensures.given c.in-Ok-entries.ensures.are_entries
    c.verify_entries.new.frame c.verify_entries.result c.verify_entries.ensures c.in-Err-verify_entries.why
    c.tell-in-Err-verify_entries.result c.in-Err-verify_entries.is (told.status ∙ ap (λ (r : Refusal). r.status) c.refusal_of.ensures)
    (λ e. (
      (told.told e).0 ∙ ap (λ (r : Refusal). r.fault) c.refusal_of.ensures,
      (told.told e).1 ∙ ap (λ (r : Refusal). r.index) c.refusal_of.ensures,
    )))
