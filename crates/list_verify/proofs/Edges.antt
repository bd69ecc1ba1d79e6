-- The edges of the tile of a line found, by the corners of the tile.
use Rattle.std.proofs.Common.{◌≡◌, ◌⊎◌, inl, inr, true, false, append_assoc, ℕ, suc, ◌<◌, ◌≤◌, ◌+◌, cond, nat_lt, Bool, List, ◌++◌, length, get_or, slice_get, Some, refl, sym, ap, ◌∙◌, subst, arith}
use Rattle.std.proofs.lemmas.Bool.{ltb-true}
use Rattle.std.proofs.Math.ListN.{length-map}
use Rattle.std.proofs.lemmas.List.{map-append, length-append}
use Rattle.theory_addresses.specs.Search.{IsAmong}
use Rattle.theory_addresses.proofs.Lists.{IsAmong-append_left}
use Rattle.theory_addresses.proofs.Ranges.{slice_get-append_left}
use Rattle.cyclo_points.specs.declared.point.Point.{Point}
use Rattle.cyclo_points.specs.Order.{points_of}
use Rattle.cyclo_points.specs.Point.{point_in}
use Rattle.cyclo_points.specs.Motion.{motion_in}
use Rattle.theory_walks.specs.Frames.{FrameValue}
use Rattle.theory_walks.proofs.Walks.{StillFits}
use Rattle.listing_text.specs.declared.entry.Entry as program
use Rattle.plane_geom.specs.declared.window.Window.{Window}
use Rattle.rule_model.specs.declared.rule.Rule.{Rule}
use Rattle.rule_model.specs.Tiling.{Tiling, MotionOf, tiling_of, children}
use Rattle.rule_model.specs.Usable.{origin}
use Rattle.rule_model.specs.Views.{rule_of}
use Rattle.theory_substitution.specs.Motion.{moved}
use Rattle.theory_substitution.specs.Plane.{plane_point}
use Rattle.theory_substitution.specs.RuleParts.{vertex, next}
use Rattle.tile_place.specs.Corners.{AreCorners}
use Rattle.tile_place.proofs.Plane.{IsSettled}
use Rattle.window_cover.specs.Windows.{IsWindow}
use Rattle.list_verify.specs.FoundLines.{AreLinesIn, AreFound, no_line, tile_of_line, tiles_listed_so_far, HasMoreLines, edges_of_line, edge_of_line, line_between, IsCrossedOver, AreCrossedOver, AreCrossedBefore}
use Rattle.list_verify.specs.ListLaws.{HasListLaws}
use Rattle.list_verify.proofs.Chains.{below_or}
use Rattle.list_verify.proofs.Crossing.{place, of-frame}

-- what lies across stays found
pub still-over : (t : Tiling) (f : FrameValue) (w : Window) (lines : List program.Entry) (old new : List ℕ)
    → HasMoreLines old new → (i e : ℕ) → IsCrossedOver t f w lines old i e → IsCrossedOver t f w lines new i e
still-over t f w lines old new more i e over meets =
    let h = over meets in (
      h.0,
      h.1,
      subst (IsAmong h.0) (sym tiles)
          (IsAmong-append_left h.0 (tiles_listed_so_far t f lines old) (tiles_listed_so_far t f lines more.0) h.2),
      h.3,
      h.4,
    )
  where
    tiles : tiles_listed_so_far t f lines new ≡ tiles_listed_so_far t f lines old ++ tiles_listed_so_far t f lines more.0
    tiles = ap (tiles_listed_so_far t f lines) more.1 ∙ map-append (tile_of_line t f lines) old more.0

pub more-more : (a b c : List ℕ) → HasMoreLines a b → HasMoreLines b c → HasMoreLines a c
more-more a b c h k = (h.0 ++ k.0, k.1 ∙ ap (λ (xs : List ℕ). xs ++ k.0) h.1 ∙ append_assoc a h.0 k.0)

pub more-among : (a b : List ℕ) (i : ℕ) → HasMoreLines a b → IsAmong i a → IsAmong i b
more-among a b i h k = subst (IsAmong i) (sym h.1) (IsAmong-append_left i a h.0 k)

-- with one edge more
pub one-over : (t : Tiling) (f : FrameValue) (w : Window) (lines : List program.Entry) (old new : List ℕ)
    (i n : ℕ) → HasMoreLines old new → AreCrossedOver t f w lines old i n
    → IsCrossedOver t f w lines new i n → AreCrossedOver t f w lines new i (n + 1)
one-over t f w lines old new i n more before last e l = at (below_or e n (omega arith))
  where
    at : (e ≡ n) ⊎ (e < n) → IsCrossedOver t f w lines new i e
    at (inl s) = subst (IsCrossedOver t f w lines new i) (sym s) last
    at (inr k) = still-over t f w lines old new more i e (before e k)

module _ (m : Rule) (settled : IsSettled m) (fits : StillFits (children (tiling_of m)))
    (L : HasListLaws (points_of m.order)) (f : FrameValue) (w : Window) (fit : IsWindow w)
    (lines : List program.Entry) (are : AreLinesIn (tiling_of m) f lines) (numbers : List ℕ)
    (marks : List Bool) (found : AreFound (tiling_of m) f w lines numbers marks)
    (i : ℕ) (among : IsAmong i numbers) where
  abbrev t : Tiling
  t = tiling_of m

  abbrev line : program.Entry
  line = get_or lines i no_line

  pub kind-exists : line.address.kind < length (rule_of m).kinds
  kind-exists = subst (λ n. line.address.kind < n) (length-map (rule_of m).kinds _)
      (of-frame m settled fits L f w fit lines are numbers marks found i among).fits.kind_exists

  pub edge-is : (corners : List Point) → AreCorners t line.address.kind line.motion corners → (e : ℕ)
      → e < length corners → line_between m.order corners e ≡ edge_of_line t f lines i e
  edge-is corners c e l = λ j. record { from = plane_point (points_of m.order) (start j); to = plane_point (points_of m.order) (end j) }
    where
      its_motion : motion_in m.order line.motion ≡ (tile_of_line t f lines i).motion
      its_motion = (place m settled fits L f w fit lines are numbers marks found i among).its_motion

      at : (n : ℕ) → n < length corners → point_in m.order (get_or corners n origin) ≡ moved
          (points_of m.order) (tile_of_line t f lines i).motion
          (vertex (points_of m.order) (rule_of m) line.address.kind n)
      at n h = (c.each n h).place ∙ ap (λ (g : MotionOf t). moved (points_of m.order) g
          (vertex (points_of m.order) (rule_of m) line.address.kind n)) its_motion

      start : point_in m.order (get_or corners e origin) ≡ moved (points_of m.order)
          (tile_of_line t f lines i).motion (vertex (points_of m.order) (rule_of m) line.address.kind e)
      start = at e l

      next_is : cond (nat_lt (suc e) (length corners)) (suc e) 0 ≡ next (rule_of m) line.address.kind e
      next_is = ap (λ n. cond (nat_lt (suc e) n) (suc e) 0) c.count

      below : cond (nat_lt (suc e) (length corners)) (suc e) 0 < length corners
      below = by_test (nat_lt (suc e) (length corners)) refl
        where
          by_test : (b : Bool) → nat_lt (suc e) (length corners) ≡ b → cond b (suc e) 0 < length corners
          by_test true h = ltb-true (suc e) (length corners) h
          by_test false h = omega arith

      end : point_in m.order (get_or corners (cond (nat_lt (suc e) (length corners)) (suc e) 0) origin)
          ≡ moved (points_of m.order) (tile_of_line t f lines i).motion
          (vertex (points_of m.order) (rule_of m) line.address.kind
          (next (rule_of m) line.address.kind e))
      end = at (cond (nat_lt (suc e) (length corners)) (suc e) 0) below
          ∙ ap (λ n. moved (points_of m.order) (tile_of_line t f lines i).motion
          (vertex (points_of m.order) (rule_of m) line.address.kind n)) next_is

-- with all edges of one line more
pub next-before : (t : Tiling) (f : FrameValue) (w : Window) (lines : List program.Entry) (old new : List ℕ)
    (n line : ℕ) → HasMoreLines old new → n < length old → slice_get old n ≡ Some line
    → AreCrossedBefore t f w lines old n → AreCrossedOver t f w lines new line (edges_of_line t lines line) → AreCrossedBefore t f w lines new (n + 1)
next-before t f w lines old new n line more within at before over j i l there = at_number (below_or j n (omega arith))
  where
    inside : {x y : ℕ} → Some x ≡ Some y → x ≡ y
    inside e = cc (e)

    old_there : j < length old → slice_get old j ≡ Some i
    old_there h = sym (slice_get-append_left old more.0 j h) ∙ ap (λ (xs : List ℕ). slice_get xs j) (sym more.1) ∙ there

    at_number : (j ≡ n) ⊎ (j < n) → AreCrossedOver t f w lines new i (edges_of_line t lines i)
    at_number (inl e) = subst (λ k. AreCrossedOver t f w lines new k (edges_of_line t lines k))
        (inside (sym at ∙ ap (slice_get old) (sym e) ∙ old_there (omega arith))) over
    at_number (inr h) = λ e k. still-over t f w lines old new more i e (before j i h (old_there (omega arith)) e k)

pub more-length : (a b : List ℕ) (n : ℕ) → HasMoreLines a b → n < length a → n + 1 ≤ length b
more-length a b n h l = let e = ap length h.1 ∙ length-append a h.0 in omega (arith, l, e)
