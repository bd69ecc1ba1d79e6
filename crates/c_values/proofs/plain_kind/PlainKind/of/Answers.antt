use Rattle.std.proofs.Common.{◌≡◌, List, map, length, sym, ap, ◌∙◌, subst, rules}
use Rattle.std.proofs.lemmas.List.{length-map}
use Rattle.cyclo_points.specs.declared.point.Point.{Point}
use Rattle.rule_model.specs.declared.child.Child.{Child}
use Rattle.rule_model.specs.Views.{as_child}
use Rattle.c_values.specs.declared.plain_kind.PlainKind.{PlainKind}
use Rattle.c_values.specs.Outlines.{HoldsOutline}
use Rattle.c_values.specs.Rules.{child_as, padded}
use Rattle.c_values.specs.Tiles.{refused_as}
use Rattle.c_values.proofs.Rules.{children_room, edges_room, outline_over_zeros}
use Rattle.c_values.proofs.plain_kind.PlainKind.of.Goals as goal

pub returns : goal.returns
returns c =
    let row = c.args.row.now in
    let blank = c.blank-kind.result in
    let written = subst (λ (ps : List Point). HoldsOutline ps blank.prototile c.write.new.self) c.deref.ensures.value c.write.ensures in
    let prototile = outline_over_zeros row.vertices.items blank.prototile c.write.new.self
    (ap (λ (k : PlainKind). k.prototile) c.blank-kind.ensures) written in
    let children = c.put_children.ensures
    ∙ ap (λ n. padded n (refused_as 0) (map child_as (map as_child c.deref-2.result.now))) (children_room blank c.blank-kind.ensures)
    ∙ ap (λ (cs : List Child). padded 16 (refused_as 0) (map child_as (map as_child cs))) c.deref-2.ensures.value in
    let edges = c.put_numbers.ensures ∙ ap (λ n. padded n 0 c.deref-3.result.now) (edges_room blank c.blank-kind.ensures)
    ∙ ap (padded 12 0) c.deref-3.ensures.value in
    let counted : c.len.result ≡ length row.children.items = search rules in
    let count = counted ∙ sym (length-map row.children.items as_child) in
    λ i. record { prototile = prototile i; children = children i; edges = edges i; child_count = count i }
