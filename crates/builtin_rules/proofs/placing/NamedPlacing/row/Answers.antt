use Rattle.std.proofs.Common.{ℕ, map, sym, ap, ◌∙◌, subst}
use Rattle.theory_substitution.specs.Rule.{kind_of}
use Rattle.rule_model.specs.Tiling.{ListedRule}
use Rattle.rule_model.proofs.Views.{get_or-map}
use Rattle.builtin_rules.specs.Numbers.{fixed_kind}
use Rattle.builtin_rules.specs.Placeable.{IsPlaceable}
use Rattle.builtin_rules.specs.Written.{written_kind}
use Rattle.builtin_rules.proofs.placing.NamedPlacing.row.Goals as goal

-- the numbers of a kind, through both lists that are made of those of all kinds
pub returns-clause-lists : goal.returns-clause-lists
returns-clause-lists c =
    let kinds = c.self.inside.numbers.kinds.now in
    sym (ap written_kind (get_or-map fixed_kind kinds c.from.result _))
    ∙ sym (get_or-map written_kind (map fixed_kind kinds) c.from.result _)
    ∙ ap (λ (w : ListedRule). kind_of w.rule c.from.result) c.self.view_is
    ∙ ap (λ (k : ℕ). kind_of c.args.self.now.rule k) c.from.ensures

pub returns-clause-placeable : goal.returns-clause-placeable
returns-clause-placeable c = subst IsPlaceable c.self.view_is c.self.invariant
