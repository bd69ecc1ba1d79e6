-- The edges of a polygon tested one after another, and the answer of the box test by its definition.
use Rattle.std.proofs.Common.{◌≡◌, ◌↔◌, ◌<◌, ◌≤◌, ℕ, zero, suc, ◌+◌, List, [], ◌∷◌, drop, length, get_or, Bool, true, false, ◌||◌, IsTrue, refl, sym}
use Rattle.std.proofs.Common.{ap, ◌∙◌, subst, arith}
use Rattle.std.proofs.lemmas.List.{get_or-map, length-map}
use Rattle.std.specs.List.{list_any}
use Rattle.theory_ring.specs.Divisor.{DividesWhole}
use Rattle.theory_plane.specs.Box.{EdgeMeetsBox}
use Rattle.theory_plane.specs.BoxTest.{box_test}
use Rattle.theory_plane.proofs.BoxMeets.{box_test-exact}
use Rattle.cyclo_points.specs.declared.order.Order.{Order}
use Rattle.cyclo_points.specs.declared.point.Point.{Point}
use Rattle.cyclo_points.specs.Order.{PointsLaw}
use Rattle.tile_place.proofs.Ahead.{there, drop-next}
use Rattle.plane_geom.specs.declared.window.Window.{Window}
use Rattle.plane_geom.specs.Spots.{PlanePointOf, reals_of, spot_of, spots_of}
use Rattle.theory_windows.specs.Outlines.{PlaneEdge, edges_from, edges}
use Rattle.window_descent.specs.Inside.{IsWellInside}
use Rattle.window_descent.specs.Standing.{window_box}

-- two tests are one where each passes with the other
same_tests : (a b : Bool) → (a ≡ true → b ≡ true) → (b ≡ true → a ≡ true) → a ≡ b
same_tests true b f g = sym (f refl)
same_tests false true f g = g refl
same_tests false false f g = refl

pub edge_test-is : (o : Order) → PointsLaw o → DividesWhole (reals_of o) → (w : Window) (a b : Point) (r : Bool) → IsTrue r
    ↔ EdgeMeetsBox (reals_of o) (spot_of o a) (spot_of o b) (window_box o w)
    → r ≡ box_test (reals_of o) (spot_of o a) (spot_of o b) (window_box o w)
edge_test-is o W whole w a b r h =
    let e = box_test-exact (reals_of o) W.of_real W.of_order whole (spot_of o a) (spot_of o b) (window_box o w) in
    same_tests r _ (λ k. e.1 (h.0 k)) (λ k. h.1 (e.0 k))

-- whether an edge of those that are left passes
module _ (o : Order) (t : PlaneEdge (reals_of o) → Bool) where
  abbrev pub left_any : Point → Point → List Point → Bool
  left_any first from points = list_any t (edges_from (spot_of o first) (spot_of o from) (spots_of o points))

  pub left-all : (ps : List Point) (d : Point) → 1 ≤ length ps → left_any (get_or ps 0 d) (get_or ps 0 d) (drop 1 ps)
      ≡ list_any t (edges (spots_of o ps))
  left-all [] d h = absurd (omega arith)
  left-all (p ∷ ps) d h = refl

  opened : (ps : List Point) (i : ℕ) (d : Point) → i < length ps → drop i ps ≡ get_or ps i d ∷ drop (i + 1) ps
  opened ps i d h = drop-next ps i (get_or ps i d) h (there ps i d h)

  pub left-next : (first from to : Point) (ps : List Point) (i : ℕ) (d : Point) → i < length ps → to ≡ get_or ps i d
      → left_any first from (drop i ps) ≡ (t (record { from = spot_of o from; to = spot_of o to }) || left_any first to (drop (i + 1) ps))
  left-next first from to ps i d h e = ap (left_any first from) (opened ps i d h ∙ ap (λ p. p ∷ drop (i + 1) ps) (sym e))

  or_false : (b : Bool) → (b || false) ≡ b
  or_false true = refl
  or_false false = refl

  pub left-last : (first from : Point) (ps : List Point) (i : ℕ) → length ps ≤ i → left_any first from (drop i ps)
      ≡ t (record { from = spot_of o from; to = spot_of o first })
  left-last first from [] zero h = or_false _
  left-last first from [] (suc i) h = or_false _
  left-last first from (p ∷ ps) zero h = absurd (omega arith)
  left-last first from (p ∷ ps) (suc i) h = left-last first from ps i (omega arith)

-- ---- a vertex in the window
or_true : (a b : Bool) → b ≡ true → (a || b) ≡ true
or_true true b e = refl
or_true false b e = e

module _ (o : Order) (w : Window) where
  abbrev meets : PlaneEdge (reals_of o) → Bool
  meets e = box_test (reals_of o) e.from e.to (window_box o w)

  from-corner : (first p : PlanePointOf o) (ps : List (PlanePointOf o)) (i : ℕ) (d : PlanePointOf o) → i < length (p ∷ ps)
      → ((q : PlanePointOf o) → box_test (reals_of o) (get_or (p ∷ ps) i d) q (window_box o w) ≡ true)
      → list_any meets (edges_from first p ps) ≡ true
  from-corner first p [] zero d h is = ap (λ b. b || false) (is first)
  from-corner first p [] (suc i) d h is = absurd (omega arith)
  from-corner first p (q ∷ ps) zero d h is = ap (λ b. b || list_any meets (edges_from first q ps)) (is q)
  from-corner first p (q ∷ ps) (suc i) d h is = or_true _ _ (from-corner first q ps i d (omega arith) is)

  pub corner-meets : (ps : List (PlanePointOf o)) (i : ℕ) (d : PlanePointOf o) → i < length ps
      → ((q : PlanePointOf o) → box_test (reals_of o) (get_or ps i d) q (window_box o w) ≡ true)
      → list_any meets (edges ps) ≡ true
  corner-meets [] i d h is = absurd (omega arith)
  corner-meets (p ∷ ps) i d h is = from-corner p p ps i d h is

  pub vertex-meets : (ps : List Point) (i : ℕ) (d : Point) → i < length ps → IsWellInside o w (get_or ps i d) → list_any meets (edges (spots_of o ps))
      ≡ true
  vertex-meets ps i d h is = corner-meets (spots_of o ps) i (spot_of o d) (rw (length-map ps (spot_of o)) h)
      (subst (λ (v : PlanePointOf o). (q : PlanePointOf o) → box_test (reals_of o) v q (window_box o w) ≡ true)
      (sym (get_or-map (spot_of o) ps i d (spot_of o d) h)) is)
