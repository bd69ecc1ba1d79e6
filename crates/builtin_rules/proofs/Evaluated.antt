-- The built-in rules are accepted, by evaluation.
use Rattle.std.proofs.Common.{refl}
use Rattle.cyclo_points.specs.Order.{points_of, is_refused}
use Rattle.rule_model.specs.Small.{is_small}
use Rattle.rule_model.specs.Views.{as_edition}
use Rattle.builtin_rules.specs.declared.name.Name.{Name}
use Rattle.builtin_rules.specs.declared.name.Name.TheVariants.{Chair, P2, P3, AmmannBeenker, HalfHex}
use Rattle.rule_model.specs.Tiling.{tiling_listed}
use Rattle.builtin_rules.specs.Named.{named}
use Rattle.builtin_rules.proofs.Acceptance.{FitsLimits, PassesTests}

pub fits : (name : Name) → FitsLimits (points_of (named name).order).order (is_small (named name).order) (named name).rule
fits Chair = record {
  kinds = refl;
  types = refl;
  factor = refl;
  glue = refl;
  mates = refl;
  parts = refl;
  edges = refl;
  vertices = refl;
  children = refl;
}
fits P2 = record {
  kinds = refl;
  types = refl;
  factor = refl;
  glue = refl;
  mates = refl;
  parts = refl;
  edges = refl;
  vertices = refl;
  children = refl;
}
fits P3 = record {
  kinds = refl;
  types = refl;
  factor = refl;
  glue = refl;
  mates = refl;
  parts = refl;
  edges = refl;
  vertices = refl;
  children = refl;
}
fits AmmannBeenker = record {
  kinds = refl;
  types = refl;
  factor = refl;
  glue = refl;
  mates = refl;
  parts = refl;
  edges = refl;
  vertices = refl;
  children = refl;
}
fits HalfHex = record {
  kinds = refl;
  types = refl;
  factor = refl;
  glue = refl;
  mates = refl;
  parts = refl;
  edges = refl;
  vertices = refl;
  children = refl;
}

pub passes : (name : Name) → PassesTests (points_of (named name).order) (as_edition (named name).edition)
    (is_refused (named name).order) (tiling_listed (named name)).rule
passes Chair = record {
  star_shaped = refl;
  inflation_factor = refl;
  mates_back = refl;
  equal_lengths = refl;
  mirrored = refl;
  none_loose = refl;
  boundary_cut = refl;
  each_used = refl;
  glue_right = refl;
}
passes P2 = record {
  star_shaped = refl;
  inflation_factor = refl;
  mates_back = refl;
  equal_lengths = refl;
  mirrored = refl;
  none_loose = refl;
  boundary_cut = refl;
  each_used = refl;
  glue_right = refl;
}
passes P3 = record {
  star_shaped = refl;
  inflation_factor = refl;
  mates_back = refl;
  equal_lengths = refl;
  mirrored = refl;
  none_loose = refl;
  boundary_cut = refl;
  each_used = refl;
  glue_right = refl;
}
passes AmmannBeenker = record {
  star_shaped = refl;
  inflation_factor = refl;
  mates_back = refl;
  equal_lengths = refl;
  mirrored = refl;
  none_loose = refl;
  boundary_cut = refl;
  each_used = refl;
  glue_right = refl;
}
passes HalfHex = record {
  star_shaped = refl;
  inflation_factor = refl;
  mates_back = refl;
  equal_lengths = refl;
  mirrored = refl;
  none_loose = refl;
  boundary_cut = refl;
  each_used = refl;
  glue_right = refl;
}
