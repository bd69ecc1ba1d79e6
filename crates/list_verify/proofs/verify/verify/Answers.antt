use Rattle.std.proofs.Common.{◌≡◌, sym, ap, ◌∙◌, subst, arith}
use Rattle.std.proofs.lemmas.Grind.{common_steps}
use Rattle.theory_walks.specs.Frames.{FrameValue, IsFrameOf}
use Rattle.rule_model.specs.declared.rule.Rule.{Rule}
use Rattle.rule_model.specs.Tiling.{tiling_of, children}
use Rattle.listing_text.specs.Listing.{listing_in}
use Rattle.tile_place.proofs.Plane.{IsSettled, its_rule}
use Rattle.std.specs.declared.result.Result.TheVariants.{Ok}
use Rattle.list_verify.specs.OneVerdict.{HasOneVerdict, OneVerdictLaw}
use Rattle.list_verify.specs.Verdict.{IsVerdict}
use Rattle.list_verify.proofs.Verdicts.{complete, told, lacking}
use Rattle.list_verify.proofs.verify.verify.Goals.{After-one_verdict_law, After-by_walk}
use Rattle.list_verify.proofs.verify.verify.Goals as goal

one : (c : After-one_verdict_law) → HasOneVerdict (tiling_of c.args.machine.now) c.args.frame.now c.args.window.now c.args.listing.now
one c =
    let settled : IsSettled c.args.machine.now = record {
      accepted = c.checked.ensures.accepted;
      usable = c.checked.ensures.usable;
      same_child_kinds = c.checked.ensures.same_child_kinds;
    } in
    subst OneVerdictLaw (c.order.ensures.order ∙ ap (λ (r : Rule). r.order) c.checked.ensures.rule) c.one_verdict_law.ensures
    (its_rule c.args.machine.now settled) c.args.frame.now c.args.window.now
    (listing_in (children (tiling_of c.args.machine.now)) c.args.listing.now) c.requires.frame c.requires.window_fits

-- ---- a listing that is the text of the window
pub returns-in-Some-clause-unread : goal.returns-in-Some-clause-unread
returns-in-Some-clause-unread c = λ fault e. absurd (cc (e, c.in-Some.ensures.listed.right.read))

pub returns-in-Some-clause-complete : goal.returns-in-Some-clause-complete
returns-in-Some-clause-complete c = complete (tiling_of c.args.machine.now) c.args.frame.now c.as_written.new.frame
    c.args.window.now (listing_in (children (tiling_of c.args.machine.now)) c.args.listing.now)
    (one (goal.at.returns-in-Some-clause-complete c).After-one_verdict_law)
    (Ok c.in-Some.count) c.in-Some.ensures.listed.right tt

pub returns-in-Some-clause-told : goal.returns-in-Some-clause-told
returns-in-Some-clause-told c = told (tiling_of c.args.machine.now) c.args.frame.now c.as_written.new.frame
    c.args.window.now (listing_in (children (tiling_of c.args.machine.now)) c.args.listing.now)
    (one (goal.at.returns-in-Some-clause-told c).After-one_verdict_law)
    (Ok c.in-Some.count) c.in-Some.ensures.listed.right tt

pub returns-in-Some-clause-lacking : goal.returns-in-Some-clause-lacking
returns-in-Some-clause-lacking c = lacking (tiling_of c.args.machine.now) c.args.frame.now c.as_written.new.frame
    c.args.window.now (listing_in (children (tiling_of c.args.machine.now)) c.args.listing.now)
    (one (goal.at.returns-in-Some-clause-lacking c).After-one_verdict_law)
    (Ok c.in-Some.count) c.in-Some.ensures.listed.right tt

-- ---- any other is walked through
verdict : (c : After-by_walk) → c.as_written.new.frame ≡ c.args.frame.now
    → IsVerdict (tiling_of c.args.machine.now) c.args.frame.now c.by_walk.new.frame c.args.window.now c.args.listing.now c.by_walk.result
verdict c stays = subst (λ (f : FrameValue). IsVerdict (tiling_of c.args.machine.now) f c.by_walk.new.frame
    c.args.window.now c.args.listing.now c.by_walk.result) stays c.by_walk.ensures

pub returns-clause-frame : goal.returns-clause-frame
returns-clause-frame c = (verdict (goal.at.returns-clause-frame c).After-by_walk c.in_default.ensures.stays).on.frame

pub returns-clause-depth : goal.returns-clause-depth
returns-clause-depth c = (verdict (goal.at.returns-clause-depth c).After-by_walk c.in_default.ensures.stays).on.depth

pub returns-clause-not_beyond : goal.returns-clause-not_beyond
returns-clause-not_beyond c = (verdict (goal.at.returns-clause-not_beyond c).After-by_walk c.in_default.ensures.stays).on.not_beyond

pub returns-clause-unread : goal.returns-clause-unread
returns-clause-unread c = (verdict (goal.at.returns-clause-unread c).After-by_walk c.in_default.ensures.stays).unread

pub returns-clause-right : goal.returns-clause-right
returns-clause-right c = (verdict (goal.at.returns-clause-right c).After-by_walk c.in_default.ensures.stays).on.right

pub returns-clause-cause : goal.returns-clause-cause
returns-clause-cause c = (verdict (goal.at.returns-clause-cause c).After-by_walk c.in_default.ensures.stays).on.cause

pub returns-clause-too_long : goal.returns-clause-too_long
returns-clause-too_long c = (verdict (goal.at.returns-clause-too_long c).After-by_walk c.in_default.ensures.stays).too_long

pub returns-clause-complete : goal.returns-clause-complete
returns-clause-complete c =
    let at = goal.at.returns-clause-complete c in
    let v = verdict at.After-by_walk c.in_default.ensures.stays in
    complete (tiling_of c.args.machine.now) c.args.frame.now c.by_walk.new.frame c.args.window.now
    (listing_in (children (tiling_of c.args.machine.now)) c.args.listing.now) (one at.After-one_verdict_law) c.by_walk.result v.on.right v.on.cause

pub returns-clause-told : goal.returns-clause-told
returns-clause-told c =
    let at = goal.at.returns-clause-told c in
    let v = verdict at.After-by_walk c.in_default.ensures.stays in
    told (tiling_of c.args.machine.now) c.args.frame.now c.by_walk.new.frame c.args.window.now
    (listing_in (children (tiling_of c.args.machine.now)) c.args.listing.now) (one at.After-one_verdict_law) c.by_walk.result v.on.right v.on.cause

pub returns-clause-lacking : goal.returns-clause-lacking
returns-clause-lacking c =
    let at = goal.at.returns-clause-lacking c in
    let v = verdict at.After-by_walk c.in_default.ensures.stays in
    lacking (tiling_of c.args.machine.now) c.args.frame.now c.by_walk.new.frame c.args.window.now
    (listing_in (children (tiling_of c.args.machine.now)) c.args.listing.now) (one at.After-one_verdict_law) c.by_walk.result v.on.right v.on.cause

pub returns-in-Some-clause-depth : goal.returns-in-Some-clause-depth
returns-in-Some-clause-depth c = grind (arith, common_steps)

pub returns-in-Some-clause-right : goal.returns-in-Some-clause-right
returns-in-Some-clause-right c = grind (arith, common_steps)

pub by_walk-requires : goal.by_walk-requires
by_walk-requires c = record {
  ready = record {
    frame = subst (IsFrameOf (tiling_of c.args.machine.now)) (sym c.in_default.ensures.stays) c.requires.frame;
    window_fits = c.requires.window_fits;
  };
}
