-- The test whether a left fan meets a box is right: where no edge meets the box the polygon counts there as
-- it does at the centre. And a left fan has a point.
use Rattle.std.proofs.Common.{◌≡◌, ◌⊎◌, inl, inr, ◌<◌, [], ◌∷◌, pos, List, Bool, true, false, ◌||◌, int_eq, refl, sym, ap, ◌∙◌, arith}
use Rattle.std.specs.List.{AllByRecursion, list_any}
use Rattle.theory_ring.specs.Ring.{Ops, Laws}
use Rattle.theory_ring.specs.Sign.{Signed, OrderLaws}
use Rattle.theory_ring.specs.Divisor.{DividesWhole}
use Rattle.theory_plane.specs.Plane.{PlanePoint, test_point}
use Rattle.theory_plane.specs.Crossing.{member}
use Rattle.theory_plane.specs.Box.{OpenBox, EdgeMeetsBox}
use Rattle.theory_plane.specs.BoxTest.{box_test}
use Rattle.theory_ring.proofs.Normaliser.{var, con, ring, ◌⊗◌}
use Rattle.theory_ring.proofs.Booleans.{equal_numbers}
use Rattle.theory_plane.proofs.BoxMeets.{box_test-meets, meets-box_test}
use Rattle.theory_plane.proofs.OnSegment.{on_segment-between}
use Rattle.theory_plane.proofs.Segment.{at_end}
use Rattle.theory_addresses.specs.Search.{IsAmong}
use Rattle.theory_edge_to_edge.specs.Edges.{Edge}
use Rattle.theory_windows.specs.Outlines.{PlaneEdge, Polygon, edges_from, edges, MeetsBox}
use Rattle.theory_windows.specs.Meeting.{PolygonMeetsBox, IsLeftFan}
use Rattle.theory_windows.proofs.ClosedChains.{closed_chain}
use Rattle.theory_windows.proofs.Meeting.{polygon_meets as fan_meets}
use Rattle.theory_windows.proofs.Window.{centre-in_box}
use Rattle.theory_descents.specs.MeetingTest.{polygon_meets, MeetsByTest, HasPoint}

-- ---- a test that some of a list passes
pub some-or-none : {A : Type 0} (test : A → Bool) (xs : List A) → ((x : A) × IsAmong x xs × (test x ≡ true)) ⊎ AllByRecursion (λ x. test x ≡ false) xs
some-or-none test [] = inr tt
some-or-none {A} test (x ∷ xs) = at_test (test x) refl (some-or-none test xs)
  where
    at_test : (b : Bool) → test x ≡ b → ((y : A) × IsAmong y xs × (test y ≡ true)) ⊎ AllByRecursion (λ y. test y ≡ false) xs
        → ((y : A) × IsAmong y (x ∷ xs) × (test y ≡ true)) ⊎ AllByRecursion (λ y. test y ≡ false) (x ∷ xs)
    at_test true e rest = inl (x, inl refl, e)
    at_test false e (inl m) = inl (m.0, inr m.1, m.2)
    at_test false e (inr none) = inr (e, none)

pub any-passes : {A : Type 0} (test : A → Bool) (xs : List A) → list_any test xs ≡ true → (x : A) × IsAmong x xs × (test x ≡ true)
any-passes test [] h = absurd (cc h)
any-passes {A} test (x ∷ xs) h = at_test (test x) refl h (any-passes test xs)
  where
    at_test : (b : Bool) → test x ≡ b → (b || list_any test xs) ≡ true → (list_any test xs ≡ true → (y : A) × IsAmong y xs × (test y ≡ true))
        → (y : A) × IsAmong y (x ∷ xs) × (test y ≡ true)
    at_test true e k rest = (x, inl refl, e)
    at_test false e k rest = let m = rest k in (m.0, inr m.1, m.2)

pub passes-any : {A : Type 0} (test : A → Bool) (x : A) (xs : List A) → IsAmong x xs → test x ≡ true → list_any test xs ≡ true
passes-any test x [] i h = elim i [ ]
passes-any test x (y ∷ ys) (inl e) h = ap (λ b. b || list_any test ys) (ap test (sym e) ∙ h)
passes-any test x (y ∷ ys) (inr i) h = at_test (test y) (passes-any test x ys i h)
  where
    at_test : (b : Bool) → list_any test ys ≡ true → (b || list_any test ys) ≡ true
    at_test true k = refl
    at_test false k = k

pub all-each : {A : Type 0} (Q T : A → Type 0) (xs : List A) → ((x : A) → Q x → T x) → AllByRecursion Q xs → AllByRecursion T xs
all-each Q T [] f h = tt
all-each Q T (x ∷ xs) f h = (f x h.0, all-each Q T xs f h.1)

or_cases : (a b : Bool) → (a || b) ≡ true → (a ≡ true) ⊎ (b ≡ true)
or_cases true b h = inl refl
or_cases false b h = inr h

or_left : (a b : Bool) → a ≡ true → (a || b) ≡ true
or_left a b h = ap (λ x. x || b) h

or_right : (a b : Bool) → b ≡ true → (a || b) ≡ true
or_right true b h = refl
or_right false b h = h

some-edge : {A : Type 0} (a b : A) (ws : List A) → (d : Edge A) × IsAmong d (edges_from a b ws)
some-edge a b [] = (record { from = b; to = a }, inl refl)
some-edge a b (w ∷ ws) = (record { from = b; to = w }, inl refl)

module _ (S : Signed) (L : Laws S.ops) (O : OrderLaws S) (whole : DividesWhole S) where
  abbrev R : Ops
  R = S.ops

  -- ---- the test
  module _ (box : OpenBox R.carrier) (wide : 0 < box.w) (high : 0 < box.h) (polygon : Polygon S) (fan : IsLeftFan S polygon) where
    abbrev edge_meets : PlaneEdge S → Bool
    edge_meets e = box_test S e.from e.to box

    abbrev by_edge : Bool
    by_edge = list_any edge_meets (edges polygon)

    abbrev by_centre : Bool
    by_centre = member S polygon (test_point R box.centre)

    test-meets : polygon_meets S box polygon ≡ true → PolygonMeetsBox S box polygon
    test-meets h = at_case (or_cases by_edge by_centre h)
      where
        at_case : (by_edge ≡ true) ⊎ (by_centre ≡ true) → PolygonMeetsBox S box polygon
        at_case (inl k) =
            let m = any-passes edge_meets (edges polygon) k in
            fan_meets S L O box polygon fan m.0 m.1 (box_test-meets S L O whole m.0.from m.0.to box m.2)
        at_case (inr k) = (test_point R box.centre, (0, refl), centre-in_box S L O box wide high, k)

    avoids : (e : PlaneEdge S) → edge_meets e ≡ false → ¬ MeetsBox S box e
    avoids e h m = absurd (cc (sym h ∙ meets-box_test S L O e.from e.to box m))

    meets-test : PolygonMeetsBox S box polygon → polygon_meets S box polygon ≡ true
    meets-test m = at_case (some-or-none edge_meets (edges polygon))
      where
        at_case : ((e : PlaneEdge S) × IsAmong e (edges polygon) × (edge_meets e ≡ true)) ⊎ AllByRecursion (λ e. edge_meets e ≡ false) (edges polygon)
            → polygon_meets S box polygon ≡ true
        at_case (inl e) = or_left by_edge by_centre (passes-any edge_meets e.0 (edges polygon) e.1 e.2)
        at_case (inr none) = or_right by_edge by_centre (ap (λ z. int_eq z (pos 1))
            (closed_chain S L O whole box polygon (all-each _ _ (edges polygon) avoids none) (test_point R box.centre) m.0 (0, refl) m.1
            (centre-in_box S L O box wide high) m.2
            ∙ equal_numbers _ _ m.3))

  pub meets_by_test : MeetsByTest S
  meets_by_test box wide high polygon fan = (test-meets box wide high polygon fan, meets-test box wide high polygon fan)

  -- ---- a point, close to the start of an edge
  start-meets : (a b : PlanePoint R.carrier) → EdgeMeetsBox S a b (record { centre = a; w = 1; h = 1 })
  start-meets a b = (
    test_point R a,
    (0, refl),
    centre-in_box S L O (record { centre = a; w = 1; h = 1 }) (omega arith) (omega arith),
    on_segment-between S L O _ _ _ (at_end S L O _ _ _ (one a.x) (one a.y)),
  )
    where
      one : (z : R.carrier) → z ≡ R.mul (R.int (pos 1)) z
      one z = ring R L (z ∷ []) (var 0) (con (pos 1) ⊗ var 0) refl

  pub has_point : HasPoint S
  has_point [] fan = absurd (empty fan.corners)
    where
      empty : 2 < 0 → ⊥
      empty k = omega arith
  has_point (v ∷ vs) fan =
      let e = some-edge v v vs in
      let m = fan_meets S L O (record { centre = e.0.from; w = 1; h = 1 }) (v ∷ vs) fan e.0 e.1 (start-meets e.0.from e.0.to) in
      (m.0, m.1, m.3)
