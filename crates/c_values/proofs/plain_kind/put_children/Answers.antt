use Rattle.std.proofs.Common.{◌≡◌, ◌<◌, ◌≤◌, [], length, replicate, slice_set, ap, ◌∙◌, rules}
use Rattle.rule_model.specs.declared.child.Child.{Child}
use Rattle.rule_model.specs.Views.{as_child}
use Rattle.c_values.specs.Rules.{child_as}
use Rattle.c_values.specs.Tiles.{refused_as}
use Rattle.c_values.proofs.Rules.{padded_none, padded_more, padded_all}
use Rattle.c_values.proofs.plain_kind.put_children.Goals as goal

pub loop-i-init : goal.loop-i-init
loop-i-init c =
    let room = length c.args.tiles.now in
    let blanks : c.fill.new.self ≡ replicate room c.refused.result = search rules in
    blanks ∙ ap (replicate room) c.refused.ensures ∙ padded_none room (refused_as 0)

pub loop-i-preserved : goal.loop-i-preserved
loop-i-preserved c =
    let i = c.loop-i.i in
    let tile = c.placed.result in
    let none : Child = record { kind = 0; turn = 0; shift = record { c = [] } } in
    let inside : i < length c.args.children.now = search rules in
    ap (λ ts. slice_set ts i tile) c.loop-i.invariant
    ∙ padded_more (λ (x : Child). child_as (as_child x)) (length c.args.tiles.now) (refused_as 0) c.args.children.now i none tile
    inside c.requires.room c.placed.ensures

pub returns : goal.returns
returns c =
    let all : length c.args.children.now ≤ c.loop-i.i = search rules in
    c.loop-i.invariant ∙ padded_all as_child child_as (length c.args.tiles.now) (refused_as 0) c.args.children.now c.loop-i.i all
