-- The parts of a rule that numbers name.
use Rattle.std.specs.Prelude.{ℕ, ◌<◌, length}
use Rattle.theory_substitution.specs.Rule.{children_of}
use Rattle.theory_substitution.specs.RuleParts.{edge_count}
use Rattle.rule_model.specs.declared.rule.Rule.{Rule}
use Rattle.rule_model.specs.Views.{as_rule, rule_of}

-- it has a type t
abbrev pub IsTypeOf : Rule → ℕ → Type 0
IsTypeOf r t = t < length (rule_of r).types

-- it has a kind k
abbrev pub IsKindOf : Rule → ℕ → Type 0
IsKindOf r k = k < length (rule_of r).kinds

-- its lists have a type t, or a kind k: nothing else is known of it
abbrev pub ListsType : Rule → ℕ → Type 0
ListsType r t = t < length (as_rule r).types

abbrev pub ListsKind : Rule → ℕ → Type 0
ListsKind r k = k < length (as_rule r).kinds

-- it has a kind k, with an edge e
pub record IsEdgeOf (r : Rule) (k e : ℕ) : Type 0 where
  pub kind_exists : IsKindOf r k
  pub edge_exists : e < edge_count (rule_of r) k

-- it has a kind k, with a child c
pub record IsChildOf (r : Rule) (k c : ℕ) : Type 0 where
  pub kind_exists : IsKindOf r k
  pub child_exists : c < length (children_of (rule_of r) k)
