-- At the end of a search the depth is the least enough one, and the window is within the limits.
use Rattle.std.proofs.Common.{◌≡◌, ◌≤◌, [], length, sym, subst, arith, inl, inr, ℕ, zero, suc, ◌<◌}
use Rattle.std.proofs.lemmas.Bool.{cases_lt}
use Rattle.std.proofs.lemmas.List.Sorted.{IsPermutation-refl}
use Rattle.theory_addresses.specs.Address.{Address, depth}
use Rattle.cyclo_points.specs.Order.{points_of, is_refused}
use Rattle.plane_geom.specs.declared.window.Window.{Window}
use Rattle.rule_model.specs.declared.rule.Rule.{Rule}
use Rattle.rule_model.specs.Tiling.{tiling_of}
use Rattle.rule_model.specs.Views.{rule_of}
use Rattle.theory_walks.specs.Ancestors.{full}
use Rattle.theory_walks.specs.Frames.{FrameValue, GrowsTo}
use Rattle.theory_walks.proofs.Ancestors.{full-later}
use Rattle.theory_windows.specs.FrameCover.{FrameEndsLaw}
use Rattle.theory_windows.specs.FrameWindow.{IsLeastDepth, IsWindowWithin, LeastLaw}
use Rattle.theory_windows.specs.EnoughDepth.{IsEnough}
use Rattle.theory_dissection.specs.Accepted.{NamesTile}
use Rattle.tile_place.proofs.Plane.{its_rule}
use Rattle.window_cover.specs.Beyond.{IsNotBeyondEnough}
use Rattle.window_cover.specs.Keys.{keys_from}
use Rattle.theory_windows.specs.Limits.{most_tiles}
use Rattle.window_cover.specs.Right.{growing}
use Rattle.window_cover.specs.Windows.{TileOf, box_of, IsLeastForWindow}
use Rattle.window_cover.specs.Working.{Working, IsWorking}
use Rattle.window_cover.proofs.Finished.{HasLaws, settled, wide-deep, wide-named, answer, window-within}
use Rattle.window_cover.proofs.Searches.{beyond-later}
use Rattle.window_cover.proofs.Shuffled.{shuffled}

-- where a depth is no deeper than the least enough one, if there is one, it isn't beyond any enough one
module _ (m : Rule) (laws : HasLaws m) (least_law : LeastLaw (points_of m.order)) (old now : FrameValue)
    (grows : GrowsTo (tiling_of m) old now) (w : Window) (s : Working)
    (right : IsWorking (tiling_of m) now s) (shallow : (n : ℕ) → IsLeastForWindow (tiling_of m) old w n
    → length now.digits ≤ n) (deep : length old.digits ≤ 64) where
  abbrev Enough : ℕ → Type 0
  Enough = IsEnough (points_of m.order).real (TileOf (tiling_of m)) (growing (tiling_of m) old) (box_of (tiling_of m) w)

  old-wide : depth (full (tiling_of m) old) ≡ 64
  old-wide = subst (λ (a : Address). depth a ≡ 64) (full-later (tiling_of m) old now grows) (wide-deep m laws now s right)

  old-named : NamesTile (points_of m.order) (rule_of m) (full (tiling_of m) old)
  old-named = subst (NamesTile (points_of m.order) (rule_of m)) (full-later (tiling_of m) old now grows) (wide-named m laws now s right)

  -- an enough depth below which none is enough is the least
  least-there : (k : ℕ) → length old.digits ≤ k → Enough k → ((j : ℕ) → length old.digits ≤ j → j < k → Enough j → ⊥) → length now.digits ≤ k
  least-there k l e none =
      let long = old-wide in
      shallow k ((least_law (its_rule m (settled m laws now s right)) (full (tiling_of m) old) old-named
      (is_refused m.order) (box_of (tiling_of m) w) (length old.digits) k (omega (arith, deep, long))).1
      (record { not_below = l; enough = e; least = λ j h f. elim (cases_lt j k) [ inl lt ↦ absurd (none j h lt f) | inr ge ↦ ge ] }))

  up_to : (bound k : ℕ) → k < bound → length old.digits ≤ k → Enough k → length now.digits ≤ k
  up_to zero k b l e = absurd (omega (arith, b))
  up_to (suc bound) k b l e = elim (cases_lt k (length now.digits)) [
    | inl lt ↦ least-there k l e (λ j h below f. let n = up_to bound j (omega (arith, b, below)) h f in contradiction j n below lt)
    | inr ge ↦ ge
  ]
    where
      contradiction : (j : ℕ) → length now.digits ≤ j → j < k → k < length now.digits → ⊥
      contradiction j n below lt = omega (arith, n, below, lt)

  pub not-beyond : IsNotBeyondEnough (tiling_of m) old w (length old.digits) (length now.digits)
  not-beyond = record { not_below = grows.no_shallower; not_beyond = λ k l e. up_to (suc k) k (omega arith) l e }

module _ (m : Rule) (laws : HasLaws m) (old now : FrameValue) (grows : GrowsTo (tiling_of m) old now)
    (w : Window) (s : Working) (right : IsWorking (tiling_of m) now s)
    (same : s.window ≡ w) (closed : s.border ≡ [])
    (beyond : IsNotBeyondEnough (tiling_of m) old w (length old.digits) (length now.digits))
    (deep : length old.digits ≤ 64) where
  not_beyond : IsNotBeyondEnough (tiling_of m) now s.window (length old.digits) (length now.digits)
  not_beyond = subst (λ u. IsNotBeyondEnough (tiling_of m) now u (length old.digits) (length now.digits))
      (sym same) (beyond-later (tiling_of m) old now grows w _ _ beyond)

  pub ended-least : IsLeastDepth (points_of m.order) (rule_of m) (full (tiling_of m) old)
      (box_of (tiling_of m) w) (length old.digits) (length now.digits)
  ended-least =
      let found = answer m laws now s right (keys_from 0 s.found)
      (shuffled s.found (keys_from 0 s.found) (IsPermutation-refl (keys_from 0 s.found))) closed in
      let long = wide-deep m laws now s right in
      subst (λ (a : Address). IsLeastDepth (points_of m.order) (rule_of m) a (box_of (tiling_of m) w)
      (length old.digits) (length now.digits)) (full-later (tiling_of m) old now grows)
      (subst (λ u. IsLeastDepth (points_of m.order) (rule_of m) (full (tiling_of m) now)
      (box_of (tiling_of m) u) (length old.digits) (length now.digits)) same
      (found.least (length old.digits) (omega (arith, deep, long)) not_beyond))

  pub ended-within : FrameEndsLaw (points_of m.order)
      → IsWindowWithin (points_of m.order) (is_refused m.order) (rule_of m) (full (tiling_of m) old)
      (box_of (tiling_of m) w) (length old.digits) most_tiles
  ended-within ends =
      subst (λ (a : Address). IsWindowWithin (points_of m.order) (is_refused m.order) (rule_of m) a
      (box_of (tiling_of m) w) (length old.digits) most_tiles) (full-later (tiling_of m) old now grows)
      (subst (λ u. IsWindowWithin (points_of m.order) (is_refused m.order) (rule_of m)
      (full (tiling_of m) now) (box_of (tiling_of m) u) (length old.digits) most_tiles) same
      (window-within m laws now s right ends closed (length old.digits) deep not_beyond))
