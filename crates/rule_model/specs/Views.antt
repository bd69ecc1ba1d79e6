-- What a rule of the program stands for: a rule of the theory over its points, and over the numbers of its
-- order.
use Rattle.std.specs.Prelude.{map}
use Rattle.theory_substitution.specs.Rule as theory
use Rattle.theory_substitution.specs.RuleParts.{map_rule}
use Rattle.cyclo_points.specs.declared.order.Order.{Order}
use Rattle.cyclo_points.specs.declared.point.Point.{Point}
use Rattle.cyclo_points.specs.Order.{NumberOf}
use Rattle.cyclo_points.specs.Point.{point_in}
use Rattle.rule_model.specs.declared.type_row.TypeRow.{TypeRow}
use Rattle.rule_model.specs.declared.child.Child.{Child}
use Rattle.rule_model.specs.declared.kind_row.KindRow.{KindRow}
use Rattle.theory_edge_to_edge.specs.Edition as theory_edition
use Rattle.rule_model.specs.declared.edition.Edition.{Edition}
use Rattle.rule_model.specs.declared.edition.Edition.TheVariants.{One, Two}
use Rattle.rule_model.specs.declared.rule.Rule.{Rule}

-- the lists that the vectors of an edge type, of a kind and of a rule hold, and the numbers of a child
abbrev pub as_type : TypeRow → theory.EdgeType
as_type t = record { mate = t.mate; parts = t.parts.items }

abbrev pub as_child : Child → theory.Child Point
as_child c = record { kind = c.kind; motion = record { turn = c.turn; shift = c.shift } }

abbrev pub as_kind : KindRow → theory.Kind Point
as_kind k = record {
  vertices = k.vertices.items;
  edges = k.edges.items;
  children = map as_child k.children.items;
}

abbrev pub as_rule : Rule → theory.Rule Point
as_rule r = record {
  factor = r.factor;
  glue = r.glue.items;
  types = map as_type r.types.items;
  kinds = map as_kind r.kinds.items;
}

-- a rule and a child of the program over the numbers of an order
abbrev pub rule_in : (o : Order) → Rule → theory.Rule (NumberOf o)
rule_in o r = map_rule (point_in o) (as_rule r)

abbrev pub child_in : (o : Order) → Child → theory.Child (NumberOf o)
child_in o c = record { kind = c.kind; motion = record { turn = c.turn; shift = point_in o c.shift } }

-- a rule of the program over the numbers of its own order
abbrev pub rule_of : (r : Rule) → theory.Rule (NumberOf r.order)
rule_of r = rule_in r.order r

-- an edition of the program as the theory has it
abbrev pub as_edition : Edition → theory_edition.Edition
as_edition One = theory_edition.First
as_edition Two = theory_edition.Second
