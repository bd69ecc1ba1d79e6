use Rattle.std.proofs.Common.{rules, ◌≡◌, string_bytes, IfErr, ap, ◌∙◌, sym, subst}
use Rattle.std.proofs.lemmas.Result.{err_from_is_err_and}
use Rattle.call_words.specs.Views.{window_of}
use Rattle.plane_geom.specs.declared.window.Window.{Window}
use Rattle.rule_model.specs.declared.rule.Rule.{Rule}
use Rattle.rule_model.specs.Tiling.{tiling_of}
use Rattle.tile_app.specs.declared.file_kind.FileKind.TheVariants.{Listing}
use Rattle.tile_app.specs.Reading.{IsFileUnread, IsListingPrinted, IsListingRefused}
use Rattle.call_notes.specs.Status.{OrNoMemory}
use Rattle.tile_app.specs.Verify.{PrintsVerify, VerifyRefuses}
use Rattle.tile_app.specs.Windows.{window_asked}
use Rattle.tile_app.proofs.Own.{listing_unread, listing_done, listing_wrong, listing_unfailed}
use Rattle.tile_app.proofs.Read.{refused_by}
use Rattle.tile_app.proofs.verify.verify_text.Given.{Over}
use Rattle.tile_app.proofs.verify.verify_text.Goals.{After-window_in-window}
use Rattle.tile_app.proofs.verify.verify_text.Goals as goal

-- the window is the one that is asked for, in the order of the rule
window : (g : Over) (c : After-window_in-window g) → c.window_in-window.result ≡ window_asked c.args.machine.now.order (window_of c.args.asked.now)
window g c =
    c.window_in-window.ensures.window
    ∙ ap (λ o. window_asked o (window_of c.args.asked.now)) (c.order.ensures.order ∙ ap (λ (r : Rule). r.order) c.checked.ensures.rule)

-- the listing can't be read
pub returns-in_err-listing-clause-refused : goal.returns-in_err-listing-clause-refused
returns-in_err-listing-clause-refused g c =
    let asked = window_asked c.args.machine.now.order (window_of c.args.asked.now) in
    let h = refused_by (IsFileUnread Listing (g.R.Source.left c.args.source.now) (g.R.Source.left c.file_read.new.source))
    (IsListingRefused (tiling_of c.args.machine.now) c.args.frame.now asked
    (g.R.Source.left c.args.source.now) (g.R.Source.left c.file_read.new.source))
    (listing_unread (tiling_of c.args.machine.now) c.args.frame.now asked
    (g.R.Source.left c.args.source.now) (g.R.Source.left c.file_read.new.source)) c.file_read.result c.file_read.ensures.refused in
    search (rules, h)

-- the slice is the list
pub returns-in_err-verified-clause-refused : goal.returns-in_err-verified-clause-refused
returns-in_err-verified-clause-refused g c =
    let s = goal.at.returns-in_err-verified-clause-refused g c in
    let t = tiling_of c.args.machine.now in
    let f = c.args.frame.now in
    let w = window_asked t.order (window_of c.args.asked.now) in
    let left = g.R.Source.left c.args.source.now in
    let rest = g.R.Source.left c.file_read.new.source in
    let listing = c.in_ok-listing.listing.items in
    let of_file = subst (λ file. IfErr c.verified.result (OrNoMemory (VerifyRefuses t f c.window_in-window.result file)))
    c.as_slice.ensures.value c.verified.ensures.refused in
    let asked = subst (λ (v : Window). IfErr c.verified.result (OrNoMemory (VerifyRefuses t f v listing)))
    (window g s.After-window_in-window) of_file in
    let h = listing_wrong t f w left rest listing c.in_ok-listing.ensures.read c.in_ok-listing.ensures.not_too_long c.verified.result asked in
    let p = err_from_is_err_and c.from_residual-in_err-verified.result c.from_residual-in_err-verified.ensures.1 in
    rw (p.1, p.2) (subst (λ r. IfErr r (IsListingRefused t f w left rest)) c.in_err-verified.was h)

pub returns-in_err-verified-clause-read_fault : goal.returns-in_err-verified-clause-read_fault
returns-in_err-verified-clause-read_fault g c =
    let h = listing_unfailed (tiling_of c.args.machine.now) c.args.frame.now c.window_in-window.result
    c.as_slice.result.now c.verified.result c.verified.ensures.refused in
    search (rules, h)

pub returns-clause-printed : goal.returns-clause-printed
returns-clause-printed g c =
    let s = goal.at.returns-clause-printed g c in
    let t = tiling_of c.args.machine.now in
    let f = c.args.frame.now in
    let w = window_asked t.order (window_of c.args.asked.now) in
    let left = g.R.Source.left c.args.source.now in
    let rest = g.R.Source.left c.file_read.new.source in
    let text = string_bytes c.in_ok-verified.field-0 in
    let same : c.into_bytes.result.items ≡ text = search rules in
    let of_file = subst (λ file. PrintsVerify t f c.window_in-window.result file text) c.as_slice.ensures.value c.in_ok-verified.ensures.printed in
    let asked = subst (λ (v : Window). PrintsVerify t f v c.in_ok-listing.listing.items text) (window g s.After-window_in-window) of_file in
    subst (IsListingPrinted t f w left rest) (sym same)
    (listing_done t f w left rest c.in_ok-listing.listing.items c.in_ok-listing.ensures.read c.in_ok-listing.ensures.not_too_long text asked)
