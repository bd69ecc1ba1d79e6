use Rattle.std.proofs.Common.{◌<◌, subst, arith}
use Rattle.rule_model.proofs.Views.{kind_count-in}
use Rattle.dissect_check.proofs.stars.corner_count.Goals as goal

pub vertex_count-requires : goal.vertex_count-requires
vertex_count-requires c = let r = c.args.rule.now in subst (λ n. c.args.kind < n) (kind_count-in r.order r) c.requires.kind_in

pub returns-clause-value : goal.returns-clause-value
returns-clause-value c = c.vertex_count.ensures.numbers c.args.rule.now.order

pub returns-clause-at_least_3 : goal.returns-clause-at_least_3
returns-clause-at_least_3 c =
    let usable = c.requires.usable.numbered in
    omega (
      arith,
      c.vertex_count.ensures.numbers c.args.rule.now.order,
      usable.vertex_each c.args.kind
          c.requires.kind_in,
      usable.at_least_3_edges c.args.kind c.requires.kind_in,
    )
