-- The test of the box says exactly whether some test point in the open box lies on the closed edge.
use Rattle.std.proofs.Common.{◌≡◌, ◌↔◌, pos, sym, ◌∙◌, Bool, true, ◌&&◌, IsTrue}
use Rattle.std.proofs.lemmas.Bool.{and_parts, and_from}
use Rattle.theory_ring.specs.Ring.{Ops, Laws, difference}
use Rattle.theory_ring.specs.Sign.{Signed, OrderLaws}
use Rattle.theory_ring.specs.Divisor.{DividesWhole}
use Rattle.theory_plane.specs.Plane.{PlanePoint}
use Rattle.theory_plane.specs.Box.{OpenBox, EdgeMeetsBox}
use Rattle.theory_plane.specs.BoxTest.{Depths, inside_below, inside_above, depths_below, depths_above, meets_both, meets_each_two, box_test}
use Rattle.theory_plane.proofs.BoxHelly.{Weights, Both, Meet, four_meet}
use Rattle.theory_plane.proofs.BoxOverlap.{Inside, convex-inside, meets_both-meet, meet-meets_both}
use Rattle.theory_plane.proofs.BoxPoints.{mean_of_test, test_of_mean}

module _ (S : Signed) (L : Laws S.ops) (O : OrderLaws S) where
  abbrev R : Ops
  R = S.ops

  -- a point of the edge is in four half planes at once
  abbrev InAll : Depths R.carrier → Depths R.carrier → Depths R.carrier → Depths R.carrier → Weights S → Type 0
  InAll f g h k = Both S (Both S (Both S (Inside S f) (Inside S g)) (Inside S h)) (Inside S k)

  all_of_test : (f g h k : Depths R.carrier) → meets_each_two S f g h k ≡ true
      → Meet S (Both S (Both S (Inside S f) (Inside S g)) (Inside S h)) (Inside S k)
  all_of_test f g h k e =
      four_meet S L O (Inside S f) (Inside S g) (Inside S h) (Inside S k)
      (convex-inside S L O f) (convex-inside S L O g) (convex-inside S L O h) (convex-inside S L O k)
      (meets_both-meet S L O f g five.0) (meets_both-meet S L O f h five.1) (meets_both-meet S L O f k four.1)
      (meets_both-meet S L O g h three.1) (meets_both-meet S L O g k two.1) (meets_both-meet S L O h k one.1)
    where
      one : (meets_both S f g && meets_both S f h && meets_both S f k && meets_both S g h && meets_both S g k ≡ true) × (meets_both S h k ≡ true)
      one = and_parts _ _ e

      two : (meets_both S f g && meets_both S f h && meets_both S f k && meets_both S g h ≡ true) × (meets_both S g k ≡ true)
      two = and_parts _ _ one.0

      three : (meets_both S f g && meets_both S f h && meets_both S f k ≡ true) × (meets_both S g h ≡ true)
      three = and_parts _ _ two.0

      four : (meets_both S f g && meets_both S f h ≡ true) × (meets_both S f k ≡ true)
      four = and_parts _ _ three.0

      five : (meets_both S f g ≡ true) × (meets_both S f h ≡ true)
      five = and_parts _ _ four.0

  test_of_all : (f g h k : Depths R.carrier) (u : Weights S) → InAll f g h k u → meets_each_two S f g h k ≡ true
  test_of_all f g h k u m =
      and_from _ _ (and_from _ _ (and_from _ _ (and_from _ _ (and_from _ _
      (meet-meets_both S L O f g (u, m.0.0.0, m.0.0.1)) (meet-meets_both S L O f h (u, m.0.0.0, m.0.1)))
      (meet-meets_both S L O f k (u, m.0.0.0, m.1))) (meet-meets_both S L O g h (u, m.0.0.1, m.0.1)))
      (meet-meets_both S L O g k (u, m.0.0.1, m.1))) (meet-meets_both S L O h k (u, m.0.1, m.1))

  -- the two directions
  pub box_test-meets : DividesWhole S → (a b : PlanePoint R.carrier) (box : OpenBox R.carrier) → box_test S a b box ≡ true → EdgeMeetsBox S a b box
  box_test-meets whole a b box e =
      let w = R.int (pos box.w) in
      let h = R.int (pos box.h) in
      let m = all_of_test (depths_below R box.centre.x w a.x b.x) (depths_above R box.centre.x w a.x b.x)
      (depths_below R box.centre.y h a.y b.y) (depths_above R box.centre.y h a.y b.y) e in
      test_of_mean S L O a b box whole m.0 ((m.1.0.0, m.1.0.1), (m.1.1, m.2))

  pub meets-box_test : (a b : PlanePoint R.carrier) (box : OpenBox R.carrier) → EdgeMeetsBox S a b box → box_test S a b box ≡ true
  meets-box_test a b box e =
      let w = R.int (pos box.w) in
      let h = R.int (pos box.h) in
      let m = mean_of_test S L O a b box e in
      test_of_all (depths_below R box.centre.x w a.x b.x) (depths_above R box.centre.x w a.x b.x)
      (depths_below R box.centre.y h a.y b.y) (depths_above R box.centre.y h a.y b.y) m.0
      ((m.1.0, m.1.1.0), m.1.1.1)

  pub box_test-exact : DividesWhole S → (a b : PlanePoint R.carrier) (box : OpenBox R.carrier) → (box_test S a b box ≡ true) ↔ EdgeMeetsBox S a b box
  box_test-exact whole a b box = (box_test-meets whole a b box, meets-box_test a b box)

  -- the same for a program that has the offsets from the centre, and the depths by them
  module _ (whole : DividesWhole S) (a b : PlanePoint R.carrier) (box : OpenBox R.carrier) where
    abbrev Offset : R.carrier → R.carrier → R.carrier → Type 0
    Offset s r centre = s ≡ difference R r centre

    pub exact-by_offsets : (s t u v : R.carrier) → Offset s a.x box.centre.x → Offset t b.x box.centre.x
        → Offset u a.y box.centre.y → Offset v b.y box.centre.y
        → (f g h k : Depths R.carrier) → f ≡ inside_below R (R.int (pos box.w)) s t → g ≡ inside_above R (R.int (pos box.w)) s t
        → h ≡ inside_below R (R.int (pos box.h)) u v → k ≡ inside_above R (R.int (pos box.h)) u v
        → (answer : Bool) → answer ≡ meets_each_two S f g h k → IsTrue answer ↔ EdgeMeetsBox S a b box
    exact-by_offsets s t u v s_is t_is u_is v_is f g h k f_is g_is h_is k_is answer e =
        (λ m. box_test-meets whole a b box (sym same ∙ m), λ m. same ∙ meets-box_test a b box m)
      where
        by_offsets : meets_each_two S f g h k ≡ meets_each_two S (inside_below R (R.int (pos box.w)) s t)
            (inside_above R (R.int (pos box.w)) s t) (inside_below R (R.int (pos box.h)) u v)
            (inside_above R (R.int (pos box.h)) u v)
        by_offsets = λ i. meets_each_two S (f_is i) (g_is i) (h_is i) (k_is i)

        by_centre : meets_each_two S (inside_below R (R.int (pos box.w)) s t)
            (inside_above R (R.int (pos box.w)) s t) (inside_below R (R.int (pos box.h)) u v)
            (inside_above R (R.int (pos box.h)) u v) ≡ box_test S a b box
        by_centre = λ i. meets_each_two S
            (inside_below R (R.int (pos box.w)) (s_is i) (t_is i)) (inside_above R (R.int (pos box.w)) (s_is i) (t_is i))
            (inside_below R (R.int (pos box.h)) (u_is i) (v_is i)) (inside_above R (R.int (pos box.h)) (u_is i) (v_is i))

        same : answer ≡ box_test S a b box
        same = e ∙ by_offsets ∙ by_centre
