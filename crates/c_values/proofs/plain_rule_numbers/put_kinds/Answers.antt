use Rattle.std.proofs.Common.{◌≡◌, ◌<◌, ◌≤◌, length, replicate, slice_set, ap, ◌∙◌, arith, rules}
use Rattle.rule_model.specs.declared.kind_row.KindRow.{KindRow}
use Rattle.rule_model.specs.Views.{as_kind}
use Rattle.c_values.specs.Rules.{kind_as, no_kind}
use Rattle.c_values.proofs.RuleRooms.{kind_fits, kinds_few}
use Rattle.c_values.proofs.Rules.{padded_none, padded_more, padded_all}
use Rattle.c_values.proofs.plain_rule_numbers.put_kinds.Goals as goal

pub loop-i-init : goal.loop-i-init
loop-i-init c =
    let room = length c.args.kinds.now in
    let blanks : c.fill.new.self ≡ replicate room c.blank.result = search rules in
    blanks ∙ ap (replicate room) c.blank.ensures ∙ padded_none room no_kind

pub of-requires : goal.of-requires
of-requires c =
    let inside : c.loop-i.i < length c.args.rule.now.kinds.items = search rules in
    record { room = kind_fits c.args.rule.now c.requires.usable c.loop-i.i c.index.result.now inside c.index.ensures }

pub loop-i-preserved : goal.loop-i-preserved
loop-i-preserved c =
    let i = c.loop-i.i in
    let rows = c.args.rule.now.kinds.items in
    let inside : i < length rows = search rules in
    let fits : length rows ≤ length c.args.kinds.now = omega (arith, c.requires.room, kinds_few c.args.rule.now c.requires.usable) in
    ap (λ xs. slice_set xs i c.of.result) c.loop-i.invariant
    ∙ padded_more (λ (x : KindRow). kind_as (as_kind x)) (length c.args.kinds.now) no_kind rows i c.index.result.now c.of.result
    inside fits (c.of.ensures ∙ ap (λ (x : KindRow). kind_as (as_kind x)) c.index.ensures)

pub returns : goal.returns
returns c =
    let all : length c.args.rule.now.kinds.items ≤ c.loop-i.i = search rules in
    c.loop-i.invariant ∙ padded_all as_kind kind_as (length c.args.kinds.now) no_kind c.args.rule.now.kinds.items c.loop-i.i all
