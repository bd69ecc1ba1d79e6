-- The kinds, edges and types of a machine's rule, in the lists of the program.
use Rattle.std.proofs.Common.{◌≡◌, ℕ, ◌<◌, length, sym, subst}
use Rattle.theory_substitution.specs.RuleParts.{edge_count, edge_type}
use Rattle.rule_model.specs.declared.rule.Rule.{Rule}
use Rattle.rule_model.specs.Tiling.{tiling_of}
use Rattle.rule_model.specs.Views.{as_rule, rule_in}
use Rattle.rule_model.proofs.Views.{kind_count-in, edge_count-in}
use Rattle.half_glue.specs.Checked.{HasGlueLaws}

module _ (m r : Rule) (same : r ≡ m) where
  pub kind-listed : (k j : ℕ) → j ≡ k → k < length (tiling_of m).rule.kinds → j < length (as_rule r).kinds
  kind-listed k j e l =
      subst (λ (x : Rule). j < length (as_rule x).kinds) (sym same)
      (subst (λ n. n < length (as_rule m).kinds) (sym e) (subst (λ n. k < n) (kind_count-in m.order m) l))

  pub edge-listed : (k j e f : ℕ) → j ≡ k → f ≡ e → e < edge_count (tiling_of m).rule k → f < edge_count (as_rule r) j
  edge-listed k j e f kind edge l =
      subst (λ (x : Rule). f < edge_count (as_rule x) j) (sym same)
      (subst (λ n. f < edge_count (as_rule m) n) (sym kind)
      (subst (λ n. n < edge_count (as_rule m) k) (sym edge) (subst (λ n. e < n) (edge_count-in m.order m k) l)))

  pub type-listed : HasGlueLaws m → (k j e f : ℕ) → j ≡ k → f ≡ e → k < length (tiling_of m).rule.kinds → e < edge_count (tiling_of m).rule k
      → (ty : ℕ) → ty ≡ edge_type (rule_in m.order r) j f → ty < length (as_rule r).types
  type-listed L k j e f kind edge there l ty is =
      subst (λ n. n < length (as_rule r).types) (sym is)
      (subst (λ (x : Rule). edge_type (rule_in m.order x) j f < length (as_rule x).types) (sym same)
      (subst (λ n. edge_type (rule_in m.order m) n f < length (as_rule m).types) (sym kind)
      (subst (λ n. edge_type (rule_in m.order m) k n < length (as_rule m).types) (sym edge) (L.usable.numbered.type_exists k e there l))))
