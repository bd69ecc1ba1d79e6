use Rattle.std.proofs.Common.{◌≡◌, map, length}
use Rattle.theory_substitution.specs.RuleParts.{parts}
use Rattle.cyclo_points.specs.Order.{points_of}
use Rattle.cyclo_points.specs.Point.{point_in, IsOf}
use Rattle.edge_tables.specs.Views.{as_child_edge}
use Rattle.rule_model.specs.Views.{rule_of}
use Rattle.dissect_check.specs.Views.{line_in, edge_in}
use Rattle.dissect_check.proofs.Walk.{IsFound}
use Rattle.dissect_check.proofs.boundary.parts_among.Given as goal

abbrev pub invariant-loop-part : goal.invariant-loop-part
invariant-loop-part l = record {
  found :
      IsFound (points_of l.rule.order) (map (edge_in l.rule.order) l.edges) (line_in l.rule.order l.whole)
      (parts (rule_of l.rule) l.ty) (map as_child_edge l.names.items) l.part
      (point_in l.rule.order l.from);
  from_of : IsOf l.rule.order l.from;
  long : length l.names.items ≡ l.part;
}
