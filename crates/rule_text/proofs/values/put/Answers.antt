use Rattle.std.proofs.Common.{◌∙◌, ap}
use Rattle.toml.specs.View.{view, members_view}
use Rattle.rule_text.specs.Written.{put_member}
use Rattle.rule_text.proofs.Puts.{put_member-insert}
use Rattle.rule_text.proofs.values.put.Goals as goal

pub returns-in-Ok : goal.returns-in-Ok
returns-in-Ok c =
    let old = c.args.table.now.entries in
    ap members_view c.in-Ok.ensures.entries
    ∙ put_member-insert old c.in_ok-key.key c.args.value
    ∙ ap (λ k. put_member k (view c.args.value) (members_view old)) c.in_ok-key.ensures.ok
