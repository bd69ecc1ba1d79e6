-- The parts of an inflated edge one after another: the first begins at its start, each next one at the end of
-- the one before, and the last ends at its end.
use Rattle.std.proofs.Common.{◌≡◌, ℕ, zero, suc, List, [], ◌∷◌, length, slice_get, Some, sym, ap, ◌∙◌, arith}
use Rattle.theory_substitution.specs.Points.{Points, PointLaws}
use Rattle.theory_edge_to_edge.specs.Edges.{PlacedEdge}
use Rattle.theory_edge_to_edge.proofs.CutParts.{AreParts, begins}

module _ (P : Points) (W : PointLaws P) (on : List (PlacedEdge P.ring.carrier)) (end : P.ring.carrier) where
  abbrev A : Type 0
  A = P.ring.carrier

  pub first-begins : (types : List ℕ) (p : A) (ss : List (PlacedEdge A)) (s : PlacedEdge A)
      → AreParts P on end types p ss → slice_get ss 0 ≡ Some s → s.line.from ≡ p
  first-begins types p [] s h e = absurd cc
  first-begins [] p (x ∷ ss) s h e = absurd h
  first-begins (ty ∷ types) p (x ∷ ss) s h e =
      let same : x ≡ s = cc in
      ap (λ (u : PlacedEdge A). u.line.from) (sym same) ∙ begins P W on p x h.0

  pub next-begins : (types : List ℕ) (p : A) (ss : List (PlacedEdge A)) (i : ℕ) (s u : PlacedEdge A)
      → AreParts P on end types p ss → slice_get ss i ≡ Some s → slice_get ss (suc i) ≡ Some u
      → u.line.from ≡ s.line.to
  next-begins types p [] i s u h e f = absurd cc
  next-begins [] p (x ∷ ss) i s u h e f = absurd h
  next-begins (ty ∷ types) p (x ∷ ss) zero s u h e f =
      let same : x ≡ s = cc in
      first-begins types x.line.to ss u h.2 f ∙ ap (λ (v : PlacedEdge A). v.line.to) same
  next-begins (ty ∷ types) p (x ∷ ss) (suc i) s u h e f = next-begins types x.line.to ss i s u h.2 e f

  pub last-ends : (types : List ℕ) (p : A) (ss : List (PlacedEdge A)) (i : ℕ) (s : PlacedEdge A)
      → AreParts P on end types p ss → slice_get ss i ≡ Some s → suc i ≡ length ss → s.line.to ≡ end
  last-ends types p [] i s h e n = absurd cc
  last-ends [] p (x ∷ ss) i s h e n = absurd h
  last-ends (ty ∷ []) p (x ∷ []) zero s h e n =
      let same : x ≡ s = cc in
      ap (λ (v : PlacedEdge A). v.line.to) (sym same) ∙ h.2
  last-ends (ty ∷ []) p (x ∷ []) (suc i) s h e n = absurd cc
  last-ends (ty ∷ []) p (x ∷ (y ∷ ss)) i s h e n = absurd h.2
  last-ends (ty ∷ (tz ∷ types)) p (x ∷ []) i s h e n = absurd h.2
  last-ends (ty ∷ (tz ∷ types)) p (x ∷ (y ∷ ss)) zero s h e n = absurd (omega arith)
  last-ends (ty ∷ (tz ∷ types)) p (x ∷ (y ∷ ss)) (suc i) s h e n = last-ends (tz ∷ types) x.line.to (y ∷ ss) i s h.2 e (omega arith)
