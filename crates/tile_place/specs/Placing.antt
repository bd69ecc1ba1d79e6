-- Which values of Horner's scheme are refused.
use Rattle.std.specs.Prelude.{List, find}
use Rattle.std.specs.declared.option.Option.{Option}
use Rattle.theory_addresses.specs.Address.{Step}
use Rattle.theory_substitution.specs.Placement.{horner_values}
use Rattle.cyclo_points.specs.Order.{NumberOf, points_of, is_refused}
use Rattle.rule_model.specs.Tiling.{Tiling}

-- the first Horner value, from coarse to fine, that is refused
abbrev pub first_refused : (t : Tiling) → List Step → Option (NumberOf t.order)
first_refused t digits = find (is_refused t.order) (horner_values (points_of t.order) t.rule digits)
