-- The law of closed chains: by steps of equal height and below one another, edge by edge.
use Rattle.std.proofs.Common.{◌≡◌, ◌⊎◌, inl, inr, List, [], ◌∷◌, ◌++◌, flat_map, ℤ, pos, neg_ℤ, ◌+ℤ◌, ◌-ℤ◌, refl, sym, ap, ap₂, ◌∙◌, Bool, true, false, Ordering, Less, Equal, Greater, is_lt, arith}
use Rattle.std.proofs.lemmas.Int.{ints}
use Rattle.std.proofs.lemmas.Bool.{and_parts}
use Rattle.theory_ring.specs.Ring.{Ops, Laws, difference}
use Rattle.theory_ring.specs.Sign.{Signed, OrderLaws, IsPositive, IsNonNegative}
use Rattle.theory_ring.specs.Divisor.{DividesWhole}
use Rattle.theory_plane.specs.Plane.{PlanePoint, TestPoint}
use Rattle.theory_plane.specs.Crossing.{crossing, count}
use Rattle.theory_plane.specs.Box.{OpenBox, in_box, EdgeMeetsBox}
use Rattle.theory_plane.specs.BoxTest.{box_test}
use Rattle.theory_ring.proofs.Normaliser.{var, neg, ring, ◌⊖◌}
use Rattle.theory_ring.proofs.Signs.{pos_nonneg, less_neg}
use Rattle.theory_plane.proofs.Crossing.{crossing-turned}
use Rattle.theory_plane.proofs.BoxPoints.{test_positive, test_of_mean}
use Rattle.theory_plane.proofs.BoxMeets.{box_test-meets, meets-box_test}
use Rattle.theory_dissection.specs.Sums.{sum_over, number_of}
use Rattle.std.specs.List.{AllByRecursion}
use Rattle.theory_windows.specs.Outlines.{edges, PlaneEdge, Polygon, MeetsBox, is_reverse}
use Rattle.theory_windows.specs.ClosedChains.{total_count, ClosedChain, ClosedChains}
use Rattle.theory_dissection.proofs.Sums.{plus_zero, sum-ext, sum-both, sum-neg}
use Rattle.theory_windows.proofs.PairedSums.{sum-paired}
use Rattle.theory_addresses.proofs.Lists.{AllByRecursion-each}
use Rattle.theory_windows.proofs.Avoiding.{Avoids, InX, InY, Strip}
use Rattle.theory_windows.proofs.LevelCrossing.{crossing-level}
use Rattle.theory_windows.proofs.UprightCrossing.{passed, crossing-passed}
use Rattle.theory_windows.proofs.Reverses.{reverse-is, reverse-turned}
use Rattle.theory_windows.proofs.EdgeCounts.{change, change-all, edge_crossing, total-edges, again, crossing-again, below-again}

module _ (S : Signed) (L : Laws S.ops) (O : OrderLaws S) where
  abbrev R : Ops
  R = S.ops

  -- ---- edges that avoid the box
  avoids : DividesWhole S → (box : OpenBox R.carrier) (a b : PlanePoint R.carrier) → (EdgeMeetsBox S a b box → ⊥) → Avoids S L O box a b
  avoids whole box a b h u m = h (test_of_mean S L O a b box whole u m)

  meets_or_avoids : DividesWhole S → (box : OpenBox R.carrier) (a b : PlanePoint R.carrier) → EdgeMeetsBox S a b box ⊎ Avoids S L O box a b
  meets_or_avoids whole box a b = at_test (box_test S a b box) refl
    where
      at_test : (t : Bool) → box_test S a b box ≡ t → EdgeMeetsBox S a b box ⊎ Avoids S L O box a b
      at_test true e = inl (box_test-meets S L O whole a b box e)
      at_test false e = inr (avoids whole box a b (λ m. absurd (cc (sym e ∙ meets-box_test S L O a b box m))))

  gone_changed : (u v c : ℤ) → u ≡ v +ℤ c → (u +ℤ neg_ℤ v) +ℤ neg_ℤ c ≡ pos 0
  gone_changed u v c e = omega (arith, ints)

  unchanged : (u v : ℤ) → u ≡ v → u ≡ v +ℤ (pos 0 -ℤ pos 0)
  unchanged u v e = omega (arith, ints)

  -- ---- a sum over edges that meet the box in pairs alone
  module _ (whole : DividesWhole S) (box : OpenBox R.carrier) (polygons : List (Polygon S))
      (paired : AllByRecursion (λ e. MeetsBox S box e → number_of (is_reverse S e) (flat_map edges polygons) ≡ 1) (flat_map edges polygons)) where
    abbrev all : List (PlaneEdge S)
    all = flat_map edges polygons

    -- where each edge that avoids the box has the change of h, the totals are equal
    module _ (p q : TestPoint R.carrier) (h : PlanePoint R.carrier → ℤ)
        (changed : (a b : PlanePoint R.carrier) → Avoids S L O box a b → crossing S a b p ≡ crossing S a b q +ℤ (h b -ℤ h a)) where
      abbrev rest : PlaneEdge S → ℤ
      rest e = (edge_crossing S p e +ℤ neg_ℤ (edge_crossing S q e)) +ℤ neg_ℤ (change h e)

      rest-turned : (e f : PlaneEdge S) → is_reverse S e f ≡ true → rest f ≡ neg_ℤ (rest e)
      rest-turned e f k =
          ap rest (reverse-is S L O e f k)
          ∙ ap₂ (λ u v. (u +ℤ neg_ℤ v) +ℤ neg_ℤ (h e.from -ℤ h e.to)) (crossing-turned S L O e.from e.to p) (crossing-turned S L O e.from e.to q)
          ∙ turned (crossing S e.from e.to p) (crossing S e.from e.to q) (h e.from) (h e.to)
        where
          turned : (u v s t : ℤ) → (neg_ℤ u +ℤ neg_ℤ (neg_ℤ v)) +ℤ neg_ℤ (s -ℤ t) ≡ neg_ℤ ((u +ℤ neg_ℤ v) +ℤ neg_ℤ (t -ℤ s))
          turned u v s t = omega (arith, ints)

      rest-once : (e : PlaneEdge S) → (MeetsBox S box e → number_of (is_reverse S e) all ≡ 1)
          → (rest e ≡ pos 0) ⊎ (number_of (is_reverse S e) all ≡ 1)
      rest-once e k = at_case (meets_or_avoids whole box e.from e.to)
        where
          at_case : EdgeMeetsBox S e.from e.to box ⊎ Avoids S L O box e.from e.to → (rest e ≡ pos 0) ⊎ (number_of (is_reverse S e) all ≡ 1)
          at_case (inl m) = inr (k m)
          at_case (inr m) = inl (gone_changed _ _ _ (changed e.from e.to m))

      rest-sum : sum_over rest all ≡ pos 0
      rest-sum = sum-paired rest (is_reverse S) rest-turned (reverse-turned S L O) all (AllByRecursion-each _ _ all rest-once paired)

      split : sum_over rest all ≡ (total_count S polygons p +ℤ neg_ℤ (total_count S polygons q)) +ℤ neg_ℤ (pos 0)
      split =
          sum-both (λ e. edge_crossing S p e +ℤ neg_ℤ (edge_crossing S q e)) (λ e. neg_ℤ (change h e)) all
          ∙ ap₂ (λ u v. u +ℤ v)
          (sum-both (edge_crossing S p) (λ e. neg_ℤ (edge_crossing S q e)) all
          ∙ ap₂ (λ u v. u +ℤ v) (total-edges S p polygons) (sum-neg (edge_crossing S q) all ∙ ap neg_ℤ (total-edges S q polygons)))
          (sum-neg (change h) all ∙ ap neg_ℤ (change-all h polygons))

      total-same : total_count S polygons p ≡ total_count S polygons q
      total-same = equal _ _ (sym split ∙ rest-sum)
        where
          equal : (x y : ℤ) → (x +ℤ neg_ℤ y) +ℤ neg_ℤ (pos 0) ≡ pos 0 → x ≡ y
          equal x y e = omega (arith, ints)

    -- ---- between two points of the box
    total-level : (x1 x2 y d : R.carrier) → IsPositive S d → InX S L O box x1 d → InX S L O box x2 d → InY S L O box y d
        → total_count S polygons (record { x = x1; y = y; d = d }) ≡ total_count S polygons (record { x = x2; y = y; d = d })
    total-level x1 x2 y d d_pos in1 in2 in_y =
        total-same (record { x = x1; y = y; d = d }) (record { x = x2; y = y; d = d }) (λ v. pos 0)
        (λ a b m. unchanged _ _ (crossing-level S L O box x1 x2 y d d_pos in1 in2 in_y a b m))

    abbrev strip : (x y1 y2 d : R.carrier) → IsPositive S d → InX S L O box x d → InY S L O box y1 d
        → InY S L O box y2 d → IsNonNegative S (difference R y2 y1) → Strip S L O box
    strip x y1 y2 d d_pos in_x in1 in2 order = record
        { x = x; y1 = y1; y2 = y2; d = d; d_pos = d_pos; in_x = in_x; in1 = in1; in2 = in2; order = order }

    total-rising : (x y1 y2 d : R.carrier) → IsPositive S d → InX S L O box x d → InY S L O box y1 d
        → InY S L O box y2 d → IsNonNegative S (difference R y2 y1)
        → total_count S polygons (record { x = x; y = y1; d = d }) ≡ total_count S polygons (record { x = x; y = y2; d = d })
    total-rising x y1 y2 d d_pos in_x in1 in2 order =
        total-same (record { x = x; y = y1; d = d }) (record { x = x; y = y2; d = d }) (passed S L O box (strip x y1 y2 d d_pos in_x in1 in2 order))
        (crossing-passed S L O box (strip x y1 y2 d d_pos in_x in1 in2 order))

    total-upright : (x y1 y2 d : R.carrier) → IsPositive S d → InX S L O box x d → InY S L O box y1 d → InY S L O box y2 d
        → total_count S polygons (record { x = x; y = y1; d = d }) ≡ total_count S polygons (record { x = x; y = y2; d = d })
    total-upright x y1 y2 d d_pos in_x in1 in2 = at_sign (S.sign (difference R y2 y1)) refl
      where
        at_sign : (o : Ordering) → S.sign (difference R y2 y1) ≡ o
            → total_count S polygons (record { x = x; y = y1; d = d }) ≡ total_count S polygons
            (record { x = x; y = y2; d = d })
        at_sign Greater e = total-rising x y1 y2 d d_pos in_x in1 in2 (ap is_lt e)
        at_sign Equal e = total-rising x y1 y2 d d_pos in_x in1 in2 (ap is_lt e)
        at_sign Less e = sym (total-rising x y2 y1 d d_pos in_x in2 in1
            (pos_nonneg S L O _ (ap S.sign (ring R L (y1 ∷ (y2 ∷ [])) (var 0 ⊖ var 1) (neg (var 1 ⊖ var 0)) refl) ∙ less_neg S L O _ e)))

    total-again : (k D : R.carrier) (p : TestPoint R.carrier) (k_pos : IsPositive S k) (e : R.mul k p.d ≡ D)
        → total_count S polygons (again S L O k D p k_pos e) ≡ total_count S polygons p
    total-again k D p k_pos e =
        sym (total-edges S (again S L O k D p k_pos e) polygons)
        ∙ sum-ext _ _ all (λ f. crossing-again S L O k D p k_pos e f.from f.to) ∙ total-edges S p polygons

    pub total-constant : (p q : TestPoint R.carrier) → IsPositive S p.d → IsPositive S q.d
        → in_box S box p ≡ true → in_box S box q ≡ true → total_count S polygons p ≡ total_count S polygons q
    total-constant p q p_pos q_pos in_p in_q =
        sym (total-again q.d D p q_pos refl)
        ∙ total-level (R.mul q.d p.x) (R.mul p.d q.x) (R.mul q.d p.y) D D_pos
        (below-again S L O q.d D p q_pos refl p.x box.centre.x (R.int (pos box.w)) here.0)
        (below-again S L O p.d D q p_pos (L.mul_comm _ _) q.x box.centre.x (R.int (pos box.w)) there.0)
        (below-again S L O q.d D p q_pos refl p.y box.centre.y (R.int (pos box.h)) here.1)
        ∙ total-upright (R.mul p.d q.x) (R.mul q.d p.y) (R.mul p.d q.y) D D_pos
        (below-again S L O p.d D q p_pos (L.mul_comm _ _) q.x box.centre.x (R.int (pos box.w)) there.0)
        (below-again S L O q.d D p q_pos refl p.y box.centre.y (R.int (pos box.h)) here.1)
        (below-again S L O p.d D q p_pos (L.mul_comm _ _) q.y box.centre.y (R.int (pos box.h)) there.1)
        ∙ total-again p.d D q p_pos (L.mul_comm _ _)
      where
        D : R.carrier
        D = R.mul q.d p.d

        D_pos : IsPositive S D
        D_pos = O.sign-mul q.d p.d q_pos p_pos

        here : InX S L O box p.x p.d × InY S L O box p.y p.d
        here = and_parts _ _ in_p

        there : InX S L O box q.x q.d × InY S L O box q.y q.d
        there = and_parts _ _ in_q

  -- ---- the two laws
  pub closed_chains : DividesWhole S → ClosedChains S
  closed_chains whole box polygons paired p q test_p test_q in_p in_q =
      total-constant whole box polygons paired p q (test_positive S L O p test_p) (test_positive S L O q test_q) in_p in_q

  each-end : {A : Type 0} (Q T : A → Type 0) (xs : List A) → ((x : A) → Q x → T x) → AllByRecursion Q xs → AllByRecursion T (xs ++ [])
  each-end Q T [] f h = tt
  each-end Q T (x ∷ xs) f h = (f x h.0, each-end Q T xs f h.1)

  pub closed_chain : DividesWhole S → ClosedChain S
  closed_chain whole box polygon avoid p q test_p test_q in_p in_q =
      sym (plus_zero (count S polygon p))
      ∙ closed_chains whole box (polygon ∷ []) (each-end _ _ (edges polygon) (λ e f m. absurd (f m)) avoid) p q test_p test_q in_p in_q
      ∙ plus_zero (count S polygon q)
