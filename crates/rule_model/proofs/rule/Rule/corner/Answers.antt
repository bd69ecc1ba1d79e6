use Rattle.std.proofs.Common.{◌<◌, sym, ◌∙◌, subst}
use Rattle.rule_model.specs.Usable.{IsSmall, origin}
use Rattle.rule_model.proofs.Views.{kind_count-in, vertex_count-in}
use Rattle.rule_model.proofs.rule.Rule.corner.Goals as goal

pub vertex-requires-clause-kind_in : goal.vertex-requires-clause-kind_in
vertex-requires-clause-kind_in c = subst (λ n. c.args.kind < n) (kind_count-in c.args.self.now.order c.args.self.now) c.requires.kind_in

pub vertex-requires-clause-i_in : goal.vertex-requires-clause-i_in
vertex-requires-clause-i_in c =
    let r = c.args.self.now in
    let each = c.requires.usable.numbered.vertex_each c.args.kind c.requires.kind_in in
    let listed = vertex_count-in r.order r c.args.kind in
    subst (λ n. c.args.i < n) (sym each ∙ listed) c.requires.i_in

pub returns-clause-small : goal.returns-clause-small
returns-clause-small c =
    subst (IsSmall c.args.self.now.order) (sym (c.vertex.ensures.lists origin))
    (c.requires.usable.vertex_small c.args.kind c.args.i c.requires.kind_in c.requires.i_in)
