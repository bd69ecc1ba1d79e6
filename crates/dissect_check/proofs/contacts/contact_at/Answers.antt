use Rattle.std.proofs.Common.{◌<◌, map, length, get_or, sym, ap, subst, ◌∙◌}
use Rattle.theory_addresses.specs.Contact.{outer}
use Rattle.theory_edge_to_edge.specs.Contacts.{index_in, contact_by}
use Rattle.cyclo_points.specs.Order.{points_of}
use Rattle.edge_tables.specs.Views.{as_child_edge}
use Rattle.rule_model.specs.Views.{rule_of}
use Rattle.dissect_check.specs.Views.{as_lie}
use Rattle.dissect_check.specs.Parts.{LiesBelow}
use Rattle.dissect_check.proofs.Parts.{parts_at}
use Rattle.dissect_check.proofs.contacts.contact_at.Goals as goal

pub returns-in-Boundary : goal.returns-in-Boundary
returns-in-Boundary c r k fact =
    let s = as_child_edge c.args.name in
    let e = c.in-Boundary.edge in
    let v = c.index-parts-from.result in
    let there : e < length c.args.parts.now = subst (LiesBelow (length c.args.parts.now)) c.in-Boundary.is c.requires.below in
    let at = ap (λ n. get_or c.args.parts.now n v) c.from.ensures in
    let number = c.number_among.ensures.number ∙ ap (λ xs. index_in s 0 (map as_child_edge xs)) c.deref.ensures.value
    ∙ ap (index_in s 0) (parts_at r k c.args.parts.now fact e v there (c.index-parts-from.is ∙ at)) in
    ap (outer e) number ∙ ap (λ l. contact_by (points_of r.order) (rule_of r) k s (as_lie l)) (sym c.in-Boundary.is)
