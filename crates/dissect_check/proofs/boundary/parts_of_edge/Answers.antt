use Rattle.std.proofs.Common.{arith}
use Rattle.dissect_check.proofs.EdgeParts.{no_fault, found_names, its_fault, whole_there, whole_is_small, parts_found}
use Rattle.dissect_check.proofs.boundary.parts_of_edge.Goals as goal

pub index-requires : goal.index-requires
index-requires c = let h = whole_there c.args.rule.now c.args.kind c.args.edge c.args.inflated.now
    c.requires.inflated c.requires.edge_exists.edge_exists in omega arith

pub parts_among-requires-clause-whole_small : goal.parts_among-requires-clause-whole_small
parts_among-requires-clause-whole_small c =
    whole_is_small c.args.rule.now c.args.kind c.args.edge c.args.inflated.now c.requires.inflated
    c.requires.edge_exists.edge_exists c.index.result.now c.index.ensures

pub returns-in-Ok-clause-fault : goal.returns-in-Ok-clause-fault
returns-in-Ok-clause-fault c =
    let r = c.args.rule.now in
    no_fault c.args.kind c.args.edge c.in_ok-names.field-0 c.in-Ok.names _ c.in-Ok.is
    (parts_found r c.args.kind c.args.edge c.args.inflated.now c.requires.inflated c.requires.edge_exists.edge_exists
    c.in_ok-names.field-0 c.deref.result.now c.in_ok-along.along.items c.index.result.now
    c.edge_type-ty.result
    c.in_ok-names.ensures.parts c.index.ensures (c.edge_type-ty.ensures.numbers r.order) c.deref.ensures.value
    (c.in_ok-along.ensures.edges r c.args.kind c.requires.inflated))

pub returns-in-Ok-clause-parts : goal.returns-in-Ok-clause-parts
returns-in-Ok-clause-parts c =
    let r = c.args.rule.now in
    found_names c.in_ok-names.field-0 c.in-Ok.names _ c.in-Ok.is
    (parts_found r c.args.kind c.args.edge c.args.inflated.now c.requires.inflated c.requires.edge_exists.edge_exists
    c.in_ok-names.field-0 c.deref.result.now c.in_ok-along.along.items c.index.result.now
    c.edge_type-ty.result
    c.in_ok-names.ensures.parts c.index.ensures (c.edge_type-ty.ensures.numbers r.order) c.deref.ensures.value
    (c.in_ok-along.ensures.edges r c.args.kind c.requires.inflated))

pub returns-clause-fault : goal.returns-clause-fault
returns-clause-fault c =
    let r = c.args.rule.now in
    its_fault c.args.kind c.args.edge c.in_ok-names.field-0 c.in-Err.part _ c.in-Err.is
    (parts_found r c.args.kind c.args.edge c.args.inflated.now c.requires.inflated c.requires.edge_exists.edge_exists
    c.in_ok-names.field-0 c.deref.result.now c.in_ok-along.along.items c.index.result.now
    c.edge_type-ty.result
    c.in_ok-names.ensures.parts c.index.ensures (c.edge_type-ty.ensures.numbers r.order) c.deref.ensures.value
    (c.in_ok-along.ensures.edges r c.args.kind c.requires.inflated))
