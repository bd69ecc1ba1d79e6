-- Rules as they are written down: an edition, an order, and lists of numbers, each point by its coefficients.
use Rattle.std.specs.Prelude.{map}
use Rattle.theory_substitution.specs.Rule.{EdgeType, Kind}
use Rattle.cyclo_points.specs.declared.point.Point.{Point}
use Rattle.rule_model.specs.Views.{as_child}
use Rattle.rule_model.specs.Tiling.{ListedRule}
use Rattle.builtin_rules.specs.Numbers.{TypeBy, KindBy, RuleBy, Fixed}

-- an edge type, a kind and a rule, from constants
abbrev pub written_type : TypeBy Fixed → EdgeType
written_type t = record { mate = t.mate; parts = t.parts.now }

abbrev pub written_kind : KindBy Fixed → Kind Point
written_kind k = record {
  vertices = k.vertices.now;
  edges = k.edges.now;
  children = map as_child k.children.now;
}

abbrev pub written : RuleBy Fixed → ListedRule
written r = record {
  edition = r.edition;
  order = r.order;
  rule = record {
    factor = r.factor;
    glue = r.glue.now;
    types = map written_type r.types.now;
    kinds = map written_kind r.kinds.now;
  };
}
