-- What is known of a machine when tiles are glued: its rule, and the laws of its tiling.
use Rattle.std.specs.Prelude.{◌≡◌, ℕ}
use Rattle.theory_addresses.specs.Address.{Address, Fits}
use Rattle.theory_addresses.specs.Tables.{child_kinds}
use Rattle.cyclo_points.specs.Order.{PointsLaw, points_of}
use Rattle.theory_dissection.specs.Laws.{AcrossLaw, BoundaryLaw, CrossingLaw}
use Rattle.theory_frames.specs.Growth.{grown_by}
use Rattle.rule_model.specs.declared.rule.Rule.{Rule}
use Rattle.rule_model.specs.Accepted.{IsAccepted}
use Rattle.rule_model.specs.Tiling.{tiling_of, contacts, children}
use Rattle.rule_model.specs.Usable.{IsUsable}
use Rattle.seeded_growth.specs.Words.{word}
use Rattle.tile_shape.specs.Usable.{AreUsable}
use Rattle.tile_shape.specs.UsesInOrder.{uses_in_order}
use Rattle.theory_windows.specs.FrameSearch.{KnownLaw}

-- The rule is accepted, and its numbers exist. Each of its kinds has a use, and its contact tables have its
-- child kinds. With grown digits addresses still fit. The laws of points, of crossings, and of the names of
-- tiles hold.
pub record HasGlueLaws (m : Rule) : Type 0 where
  pub accepted : IsAccepted m
  pub usable : IsUsable m
  pub uses_usable : AreUsable (children (tiling_of m))
  pub same_child_kinds : child_kinds (contacts (tiling_of m)) ≡ children (tiling_of m)
  pub still_fits : (base : Address) (start n : ℕ) → Fits (children (tiling_of m)) base
      → Fits (children (tiling_of m)) (grown_by (uses_in_order (children (tiling_of m))) (word start) n base)
  pub points : PointsLaw m.order
  pub across : AcrossLaw (points_of m.order)
  pub boundary : BoundaryLaw (points_of m.order)
  pub crossing : CrossingLaw (points_of m.order)
  pub known : KnownLaw (points_of m.order)
