-- The parts of the edges of a kind, as the program keeps them.
use Rattle.std.specs.Prelude.{◌≡◌, ℕ, ◌<◌, ◌≤◌, List, map, length, Vec, All}
use Rattle.std.specs.Global.{Global}
use Rattle.theory_substitution.specs.RuleParts.{edge_count}
use Rattle.theory_addresses.specs.Search.{below}
use Rattle.theory_edge_to_edge.specs.Contacts.{named_parts, tables_of_kind}
use Rattle.cyclo_points.specs.Order.{points_of}
use Rattle.edge_tables.specs.declared.child_edge.ChildEdge.{ChildEdge}
use Rattle.edge_tables.specs.declared.kind_rows.KindRows.{KindRows}
use Rattle.edge_tables.specs.Views.{as_child_edge, as_kind_tables}
use Rattle.rule_model.specs.declared.rule.Rule.{Rule}
use Rattle.rule_model.specs.Views.{rule_of}
use Rattle.dissect_check.specs.declared.lie.Lie.{Lie}
use Rattle.dissect_check.specs.declared.lie.Lie.TheVariants.{Inner, Boundary, Loose}

-- if the child edge is on the boundary, the edge along which it lies is below n
abbrev pub LiesBelow : ℕ → Lie → Type 0
LiesBelow n (Inner c e) = Unit {0}
LiesBelow n (Boundary e) = e < n
LiesBelow n Loose = Unit {0}

-- there are at most eight names
abbrev pub AreFew : Vec ChildEdge Global → Type 0
AreFew v = length v.items ≤ 8

-- these are the contact tables of each kind
abbrev pub AreTables : Rule → List KindRows → Type 0
AreTables r rows = map as_kind_tables rows
    ≡ below (tables_of_kind (points_of r.order) (rule_of r)) (length (rule_of r).kinds)

-- these are the names of the parts of each edge of kind k
pub record AreParts (r : Rule) (k : ℕ) (parts : List (Vec ChildEdge Global)) : Type 0 where
  pub names : map (λ v. map as_child_edge v.items) parts
      ≡ below (named_parts (points_of r.order) (rule_of r) k) (edge_count (rule_of r) k)
  pub few : All AreFew parts
