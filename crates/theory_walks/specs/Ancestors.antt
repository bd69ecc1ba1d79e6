-- The ancestors of a frame's base, from the base outward, and the values that a search looks at at each.
use Rattle.std.specs.Prelude.{ℕ, List, [], ◌∷◌}
use Rattle.theory_ring.specs.Ring.{power}
use Rattle.theory_addresses.specs.Address.{Address, top_kind}
use Rattle.cyclo_points.specs.Order.{NumberOf, points_of}
use Rattle.theory_frames.specs.Frame.{at_level}
use Rattle.theory_frames.specs.Outline.{outline}
use Rattle.theory_frames.specs.Looked.{values_looked_at}
use Rattle.theory_frames.specs.Contain.{ancestor_motion}
use Rattle.rule_model.specs.Tiling.{Tiling}
use Rattle.theory_walks.specs.Frames.{FrameValue, whole, at_depth}

-- the base's address at depth 64, whatever the depth of the frame
abbrev pub full : Tiling → FrameValue → Address
full t f = whole (at_depth t 64 f)

-- λ^level
abbrev pub factor_power : (t : Tiling) → ℕ → NumberOf t.order
factor_power t level = power (points_of t.order).ring t.rule.factor level

-- the first two values looked at at a level: the power of the factor, and the ancestor's shift
abbrev pub values_of_level : (t : Tiling) → Address → ℕ → List (NumberOf t.order)
values_of_level t f level =
    factor_power t level ∷ ((ancestor_motion (points_of t.order) t.rule f level).shift ∷ [])

-- then its vertices
abbrev pub vertices_of_ancestor : (t : Tiling) → Address → ℕ → List (NumberOf t.order)
vertices_of_ancestor t f level =
    outline (points_of t.order) t.rule (top_kind (at_level f level)) (factor_power t level)
    (ancestor_motion (points_of t.order) t.rule f level)

-- and those that the search in it looks at
abbrev pub values_in : (t : Tiling) → Address → NumberOf t.order → ℕ → List (NumberOf t.order)
values_in t f p level =
    values_looked_at (points_of t.order) t.rule (top_kind (at_level f level)) level
    (ancestor_motion (points_of t.order) t.rule f level) p
