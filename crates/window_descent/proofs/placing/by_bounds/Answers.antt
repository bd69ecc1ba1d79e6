use Rattle.std.proofs.Common.{◌≡◌, ℕ, ◌<◌, ◌^◌, IfSome, None, Some, [], ap, ◌∙◌, lit≤, sym, subst}
use Rattle.std.specs.declared.option.Option.{Option}
use Rattle.cyclo_points.proofs.Within.{point_wider}
use Rattle.rule_model.specs.declared.rule.Rule.{Rule}
use Rattle.rule_model.specs.Tiling.{tiling_of}
use Rattle.rule_model.specs.Views.{rule_of}
use Rattle.tile_place.proofs.FactorPowers.{power-read}
use Rattle.tile_place.proofs.Plane.{IsSettled}
use Rattle.window_descent.specs.declared.standing.Standing.{Standing}
use Rattle.window_descent.specs.declared.standing.Standing.TheVariants.{Across}
use Rattle.window_descent.specs.Bounds.{AreLimits, LiesBetween}
use Rattle.window_descent.specs.Parts.{IsPlacedBy}
use Rattle.window_descent.specs.Rows.{levels_of, scale_of}
use Rattle.window_descent.proofs.PartBounds.{placed-between}
use Rattle.window_descent.proofs.placing.by_bounds.Goals as goal

pub limits-requires-clause-shift_within : goal.limits-requires-clause-shift_within
limits-requires-clause-shift_within c = point_wider (2 ^ 24) (2 ^ 25) _ (lit≤ tt) c.requires.part.within

-- what holds of how the part lies, where this is decided
decided : (x : Option Standing) (s : Standing) (level : ℕ) (Q : Standing → Type 0) → IfSome x (λ r. r ≡ s) → IfSome x (λ r. r ≡ Across → 0 < level)
    → ((r : Standing) → r ≡ s → (r ≡ Across → 0 < level) → Q r) → IfSome x Q
decided None s level Q e f g = tt
decided (Some r) s level Q e f g = g r e f

pub returns-clause-placed : goal.returns-clause-placed
returns-clause-placed c =
    let m = c.args.machine.now in
    let w = c.args.window.now in
    let rows = c.args.rows.now in
    let level = c.args.level in
    let p = c.args.part.now in
    let o = c.order-order.result in
    let same : o ≡ m.order = c.order-order.ensures.order ∙ ap (λ (r : Rule). r.order) c.checked.ensures.rule in
    let settled : IsSettled m = record {
      accepted = c.checked.ensures.accepted;
      usable = c.checked.ensures.usable;
      same_child_kinds = c.checked.ensures.same_child_kinds;
    } in
    let bounds = c.in_ok-bounds.bounds in
    let limits = c.in_ok-limits.limits in
    let scale_is = power-read m.order (rule_of m).factor (levels_of rows) rows.powers.items level
    (record { c = [] }) c.requires.rows.powers c.requires.level_exists in
    decided c.unless_open.result c.beside.result level (IsPlacedBy (tiling_of m) w level p) c.unless_open.ensures.same c.unless_open.ensures.across
    (λ s is known. placed-between m settled w level p c.requires.part c.requires.window.some_width
    c.requires.window.some_height (scale_of rows level) scale_is bounds limits
    c.in_ok-bounds.ensures.bounds (subst (λ q. AreLimits q w p.motion.shift limits) same c.in_ok-limits.ensures) s
    (subst (LiesBetween bounds limits) (sym is) c.beside.ensures) known)
