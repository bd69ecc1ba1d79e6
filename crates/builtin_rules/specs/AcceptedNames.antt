-- The rules that have a name, as they are written down, are accepted.
use Rattle.cyclo_points.specs.Order.{points_of, is_refused}
use Rattle.theory_edge_to_edge.specs.EdgeToEdge.{IsEdgeToEdge}
use Rattle.theory_edge_to_edge.specs.Numbered.{IsNumbered}
use Rattle.rule_model.specs.Tiling.{tiling_listed}
use Rattle.rule_model.specs.Views.{as_edition}
use Rattle.builtin_rules.specs.declared.name.Name.{Name}
use Rattle.builtin_rules.specs.Named.{named}

-- the numbers of the rule of a name exist, and its children fit edge to edge, in its edition and with the
-- values that its order refuses
pub record IsAcceptedName (name : Name) : Type 0 where
  pub numbered : IsNumbered (points_of (named name).order) (tiling_listed (named name)).rule
  pub edge_to_edge : IsEdgeToEdge (points_of (named name).order) (as_edition (named name).edition)
      (is_refused (named name).order) (tiling_listed (named name)).rule
