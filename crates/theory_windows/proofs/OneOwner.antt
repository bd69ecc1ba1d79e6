-- Two polygons with one directed edge share a test point close to it.
use Rattle.std.proofs.Common.{◌≡◌, ◌⊎◌, inl, inr, ℕ, suc, ◌+◌, ◌<◌, List, [], ◌∷◌, length, pos, ◌+ℤ◌, ◌≤ℤ◌, refl, sym, ap, ◌∙◌, subst, true, int_eq, arith}
use Rattle.std.proofs.lemmas.Int.{ints}
use Rattle.theory_ring.specs.Ring.{Ops, Laws}
use Rattle.theory_ring.specs.Sign.{Signed, OrderLaws, IsPositive}
use Rattle.theory_plane.specs.Plane.{PlanePoint, TestPoint, IsTestPoint, side, orientation}
use Rattle.theory_plane.specs.Crossing.{member}
use Rattle.theory_plane.specs.Triangle.{Triangle, fan, turns_left}
use Rattle.theory_ring.proofs.Normaliser.{Expr, var, con, exprs, ring, ◌⊕◌, ◌⊗◌}
use Rattle.theory_plane.proofs.BoxOverlap.{greater}
use Rattle.theory_plane.proofs.BoxPoints.{whole_positive, test_positive}
use Rattle.theory_plane.proofs.Triangle.{edge_sum, count-edge_sum}
use Rattle.theory_plane.proofs.Inside.{sum_rotated}
use Rattle.theory_plane.proofs.Fan.{count-fan}
use Rattle.std.specs.List.{AllByRecursion}
use Rattle.theory_addresses.specs.Search.{IsAmong}
use Rattle.theory_addresses.proofs.Lists.{AllByRecursion-among}
use Rattle.theory_windows.specs.Outlines.{PlaneEdge, Polygon, edges}
use Rattle.theory_windows.specs.Meeting.{IsLeftFan}
use Rattle.theory_windows.specs.Window.{OneOwner}
use Rattle.theory_dissection.proofs.CommonPoint.{inside-count}
use Rattle.theory_windows.proofs.Multiples.{Steps, reaches, all_reach}
use Rattle.theory_windows.proofs.FanEdges.{Over, tri, over-polygon, counts-one, must_be_one, all-good, turned-left}
use Rattle.theory_addresses.proofs.Lists.{AllByRecursion-among}

module _ (S : Signed) (L : Laws S.ops) (O : OrderLaws S) where
  abbrev R : Ops
  R = S.ops

  -- ---- the point k (a + b) + w over 2k + 1
  abbrev A : PlanePoint Expr
  A = record { x = var 0; y = var 1 }

  abbrev B : PlanePoint Expr
  B = record { x = var 2; y = var 3 }

  abbrev V : PlanePoint Expr
  V = record { x = var 4; y = var 5 }

  abbrev U : PlanePoint Expr
  U = record { x = var 6; y = var 7 }

  abbrev N : Expr
  N = var 8

  abbrev Q : TestPoint Expr
  Q = record { x = N ⊗ (A.x ⊕ B.x) ⊕ U.x; y = N ⊗ (A.y ⊕ B.y) ⊕ U.y; d = N ⊕ N ⊕ con (pos 1) }

  module _ (a b v w : PlanePoint R.carrier) (k : R.carrier) where
    abbrev near : TestPoint R.carrier
    near = record { x = R.add (R.mul k (R.add a.x b.x)) w.x; y = R.add (R.mul k (R.add a.y b.y)) w.y; d = R.add (R.add k k) (R.int (pos 1)) }

    abbrev all : List R.carrier
    all = a.x ∷ (a.y ∷ (b.x ∷ (b.y ∷ (v.x ∷ (v.y ∷ (w.x ∷ (w.y ∷ (k ∷ []))))))))

    -- strictly in the triangle a, b, v
    in-triangle : IsPositive S k → IsPositive S (orientation R a b w) → IsPositive S (orientation R a b v)
        → IsPositive S (R.add (R.mul k (orientation R a b v)) (orientation R b v w))
        → IsPositive S (R.add (R.mul k (orientation R a b v)) (orientation R v a w))
        → edge_sum S a b v near ≡ pos 1
    in-triangle k_pos lw lv e f =
        inside-count S L O a b v near (O.sign-add _ _ (O.sign-add _ _ k_pos k_pos) O.one_greater) lv
        (ap S.sign (ring R L all (side exprs A B Q) (orientation exprs A B U) refl) ∙ lw)
        (ap S.sign (ring R L all (side exprs B V Q) (N ⊗ orientation exprs A B V ⊕ orientation exprs B V U) refl) ∙ e)
        (ap S.sign (ring R L all (side exprs V A Q) (N ⊗ orientation exprs A B V ⊕ orientation exprs V A U) refl) ∙ f)

  -- two triangles on the left of a→b
  pub common-point : (a b v w : PlanePoint R.carrier) → IsPositive S (orientation R a b v) → IsPositive S (orientation R a b w)
      → (p : TestPoint R.carrier) × IsTestPoint S p × (edge_sum S a b v p ≡ pos 1) × (edge_sum S a b w p ≡ pos 1)
  common-point a b v w lv lw = at_multiple (all_reach S L O steps (lv, (lv, (lw, (lw, tt)))))
    where
      steps : List (Steps S)
      steps = record { size = orientation R a b v; from = orientation R b v w } ∷ (record { size = orientation R a b v; from = orientation R v a w }
          ∷ (record { size = orientation R a b w; from = orientation R b w w }
          ∷ (record { size = orientation R a b w; from = orientation R w a w } ∷ [])))

      at_multiple : (n : ℕ) × AllByRecursion (reaches S (R.int (pos (suc n)))) steps
          → (p : TestPoint R.carrier) × IsTestPoint S p × (edge_sum S a b v p ≡ pos 1) × (edge_sum S a b w p ≡ pos 1)
      at_multiple n =
          let k : R.carrier = R.int (pos (suc n.0)) in
          let k_pos : IsPositive S k = whole_positive S L O n.0 in (
            near a b v w k,
            (n.0 + n.0 + 2, whole n.0),
            in-triangle a b v w k k_pos lw lv n.1.0 n.1.1.0,
            in-triangle a b w w k k_pos lw lw n.1.1.1.0 n.1.1.1.1.0,
          )
        where
          whole : (m : ℕ) → R.add (R.add (R.int (pos (suc m))) (R.int (pos (suc m)))) (R.int (pos 1)) ≡ R.int (pos (suc (m + m + 2)))
          whole m =
              let e : (pos (suc m) +ℤ pos (suc m)) +ℤ pos 1 ≡ pos (suc (m + m + 2)) = omega (arith, ints) in
              sym (L.int_add _ _ ∙ ap (λ u. R.add u (R.int (pos 1))) (L.int_add _ _)) ∙ ap R.int e

  -- ---- a triangle on the left of an edge, whose points are all of the polygon
  record OnEdge (polygon : Polygon S) (e : PlaneEdge S) : Type 0 where
    apex : PlanePoint R.carrier
    left : IsPositive S (orientation R e.from e.to apex)
    covers : (p : TestPoint R.carrier) → IsTestPoint S p → edge_sum S e.from e.to apex p ≡ pos 1 → member S polygon p ≡ true

  of-triangle : (polygon : Polygon S) → IsLeftFan S polygon → (t : Triangle (PlanePoint R.carrier))
      → IsAmong t (fan polygon) → (p : TestPoint R.carrier) → IsTestPoint S p
      → edge_sum S t.a t.b t.c p ≡ pos 1 → member S polygon p ≡ true
  of-triangle polygon star t i p test h =
      ap (λ z. int_eq z (pos 1)) (must_be_one S L O _ (star.zero_or_one p test) (subst (λ z. pos 1 ≤ℤ z) (sym (count-fan S L O p polygon))
      (counts-one S L O p t (fan polygon) i (count-edge_sum S t p ∙ h)
      (all-good S L O p (test_positive S L O p test) (fan polygon) star.turns_left))))

  on-edge : (polygon : Polygon S) → IsLeftFan S polygon → (e : PlaneEdge S) → Over e (fan polygon) → OnEdge polygon e
  on-edge polygon star e o = at_case o.rotated
      (AllByRecursion-among (λ t. turns_left S t ≡ true) o.triangle (fan polygon) o.among star.turns_left)
      (of-triangle polygon star o.triangle o.among)
    where
      Points : Triangle (PlanePoint R.carrier) → Type 0
      Points t = (p : TestPoint R.carrier) → IsTestPoint S p → edge_sum S t.a t.b t.c p ≡ pos 1 → member S polygon p ≡ true

      at_case : (o.triangle ≡ tri e.from e.to o.apex)
          ⊎ ((o.triangle ≡ tri o.apex e.from e.to) ⊎ (o.triangle ≡ tri e.to o.apex e.from))
          → turns_left S o.triangle ≡ true → Points o.triangle
          → OnEdge polygon e
      at_case (inl f) l c = record { apex = o.apex; left = greater _ (subst (λ t. turns_left S t ≡ true) f l); covers = subst Points f c }
      at_case (inr (inl f)) l c = record {
        apex = o.apex;
        left = greater _ (turned-left S L O o.apex e.from e.to (subst (λ t. turns_left S t ≡ true) f l));
        covers = λ p test h. subst Points f c p test (sym (sum_rotated S L O o.apex e.from e.to p) ∙ h);
      }
      at_case (inr (inr f)) l c = record {
        apex = o.apex;
        left = greater _ (turned-left S L O o.apex e.from e.to (turned-left S L O e.to o.apex e.from (subst (λ t. turns_left S t ≡ true) f l)));
        covers = λ p test h. subst Points f c p test
            (sym (sum_rotated S L O e.to o.apex e.from p) ∙ sym (sum_rotated S L O o.apex e.from e.to p) ∙ h);
      }

  edge-of : (polygon : Polygon S) → IsLeftFan S polygon → (e : PlaneEdge S) → IsAmong e (edges polygon) → OnEdge polygon e
  edge-of polygon star e i = on-edge polygon star e (over polygon star.corners i)
    where
      over : (vs : Polygon S) → 2 < length vs → IsAmong e (edges vs) → Over e (fan vs)
      over [] l j = elim j [ ]
      over (a ∷ []) l j = absurd (omega arith)
      over (a ∷ (b ∷ [])) l j = absurd (omega arith)
      over (a ∷ (b ∷ (c ∷ vs))) l j = over-polygon a b c vs e j

  pub one_owner : {T : Type 0} → OneOwner S T
  one_owner P fans holder t u i j e m n =
      let x : OnEdge (P.outline t) e = edge-of (P.outline t) (fans t i) e m in
      let y : OnEdge (P.outline u) e = edge-of (P.outline u) (fans u j) e n in
      let p = common-point e.from e.to x.apex y.apex x.left y.left in
      holder t u i j p.0 p.1 (x.covers p.0 p.1 p.2) (y.covers p.0 p.1 p.3)
