use Rattle.std.proofs.Common.{sym, ◌∙◌, rules, tests}
use Rattle.std.proofs.lemmas.Iterator.{YieldsList-from_slice}
use Rattle.std.proofs.lemmas.Iterator.Search.{all_from_yields_List}
use Rattle.std.proofs.lemmas.List.Folds.{list_all-map}
use Rattle.theory_edge_to_edge.specs.Limits.{is_child}
use Rattle.cyclo_points.specs.Order.{points_of}
use Rattle.rule_model.specs.Small.{is_small}
use Rattle.rule_model.specs.Views.{as_rule, as_child}
use Rattle.rule_model.specs.declared.child.Child.{Child}
use Rattle.dissect_check.proofs.fits.are_children.Goals as goal

pub returns : goal.returns
returns c =
    let rule = c.args.rule.now in
    let fits = is_child (points_of rule.order).order (is_small rule.order) (as_rule rule) in
    let children = c.args.children.now in
    all_from_yields_List (λ (child : Child). fits (as_child child)) _ _ _ c.all.ensures.ran
    (YieldsList-from_slice children cc) (λ x b q k. search (rules, tests))
    ∙ sym (list_all-map fits as_child children)
