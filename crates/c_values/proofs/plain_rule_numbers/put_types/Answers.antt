use Rattle.std.proofs.Common.{◌≡◌, ◌<◌, ◌≤◌, length, replicate, slice_set, ap, ◌∙◌, arith, rules}
use Rattle.rule_model.specs.declared.type_row.TypeRow.{TypeRow}
use Rattle.rule_model.specs.Views.{as_type}
use Rattle.c_values.specs.Rules.{type_as, no_type}
use Rattle.c_values.proofs.RuleRooms.{type_fits, types_few}
use Rattle.c_values.proofs.Rules.{padded_none, padded_more, padded_all}
use Rattle.c_values.proofs.plain_rule_numbers.put_types.Goals as goal

pub loop-i-init : goal.loop-i-init
loop-i-init c =
    let room = length c.args.types.now in
    let blanks : c.fill.new.self ≡ replicate room c.blank.result = search rules in
    blanks ∙ ap (replicate room) c.blank.ensures ∙ padded_none room no_type

pub of-requires : goal.of-requires
of-requires c =
    let inside : c.loop-i.i < length c.args.rule.now.types.items = search rules in
    record { at_most_8 = type_fits c.args.rule.now c.requires.usable c.loop-i.i c.index.result.now inside c.index.ensures }

pub loop-i-preserved : goal.loop-i-preserved
loop-i-preserved c =
    let i = c.loop-i.i in
    let rows = c.args.rule.now.types.items in
    let inside : i < length rows = search rules in
    let fits : length rows ≤ length c.args.types.now = omega (arith, c.requires.room, types_few c.args.rule.now c.requires.usable) in
    ap (λ xs. slice_set xs i c.of.result) c.loop-i.invariant
    ∙ padded_more (λ (x : TypeRow). type_as (as_type x)) (length c.args.types.now) no_type rows i c.index.result.now c.of.result
    inside fits (c.of.ensures ∙ ap (λ (x : TypeRow). type_as (as_type x)) c.index.ensures)

pub returns : goal.returns
returns c =
    let all : length c.args.rule.now.types.items ≤ c.loop-i.i = search rules in
    c.loop-i.invariant ∙ padded_all as_type type_as (length c.args.types.now) no_type c.args.rule.now.types.items c.loop-i.i all
