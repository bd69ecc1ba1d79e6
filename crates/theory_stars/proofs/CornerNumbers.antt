-- The vertices and edges of a polygon by their numbers.
use Rattle.std.proofs.Common.{◌≡◌, ◌⊎◌, inl, inr, ℕ, zero, suc, List, [], ◌∷◌, length, slice_get, Option, Some, None, refl, sym, ap, ◌∙◌, subst}
use Rattle.theory_addresses.specs.Search.{IsAmong}
use Rattle.theory_edge_to_edge.specs.Edges.{Edge}
use Rattle.theory_addresses.proofs.Ranges.{among-place, place-among}
use Rattle.theory_windows.specs.Distinct.{AreDistinct}
use Rattle.theory_windows.specs.Outlines.{edges_from, edges}
use Rattle.theory_stars.specs.Corners.{edge_into}

abbrev value_or : {A : Type 0} → A → Option A → A
value_or d None = d
value_or d (Some x) = x

pub some-same : {A : Type 0} (x y : A) → Some x ≡ Some y → x ≡ y
some-same x y e = ap (value_or x) e

pub one-number : {A : Type 0} (xs : List A) (x : A) (i j : ℕ) → AreDistinct xs → slice_get xs i ≡ Some x → slice_get xs j ≡ Some x → i ≡ j
one-number [] x i j d e f = absurd (cc e)
one-number (y ∷ ys) x zero zero d e f = refl
one-number (y ∷ ys) x zero (suc j) d e f = absurd (d.0 (subst (λ z. IsAmong z ys) (sym (some-same y x e)) (place-among x ys j f)))
one-number (y ∷ ys) x (suc i) zero d e f = absurd (d.0 (subst (λ z. IsAmong z ys) (sym (some-same y x f)) (place-among x ys i e)))
one-number (y ∷ ys) x (suc i) (suc j) d e f = ap suc (one-number ys x i j d.1 e f)

-- ---- the edges from cur along vertices and back to first
start-of : {A : Type 0} (first cur : A) (vs : List A) (i : ℕ) (e : Edge A)
    → slice_get (edges_from first cur vs) i ≡ Some e → slice_get (cur ∷ vs) i ≡ Some e.from
start-of first cur [] zero e h = ap (λ (d : Edge _). Some d.from) (some-same _ e h)
start-of first cur [] (suc i) e h = absurd (cc h)
start-of first cur (v ∷ vs) zero e h = ap (λ (d : Edge _). Some d.from) (some-same _ e h)
start-of first cur (v ∷ vs) (suc i) e h = start-of first v vs i e h

edge-from : {A : Type 0} (first cur : A) (vs : List A) (i : ℕ) (v : A) → slice_get (cur ∷ vs) i ≡ Some v
    → (e : Edge A) × (slice_get (edges_from first cur vs) i ≡ Some e) × (e.from ≡ v)
edge-from first cur [] zero v h = (record { from = cur; to = first }, refl, some-same cur v h)
edge-from first cur [] (suc i) v h = absurd (cc h)
edge-from first cur (w ∷ ws) zero v h = (record { from = cur; to = w }, refl, some-same cur v h)
edge-from first cur (w ∷ ws) (suc i) v h = edge-from first w ws i v h

edge-to : {A : Type 0} (first cur : A) (vs : List A) (i : ℕ) (v : A) → slice_get vs i ≡ Some v → (e : Edge A)
    × (slice_get (edges_from first cur vs) i ≡ Some e) × (e.to ≡ v)
edge-to first cur [] i v h = absurd (cc h)
edge-to first cur (w ∷ ws) zero v h = at_rest ws
  where
    at_rest : (us : List _) → (e : Edge _) × (slice_get (edges_from first cur (w ∷ us)) zero ≡ Some e) × (e.to ≡ v)
    at_rest us = (record { from = cur; to = w }, refl, some-same w v h)
edge-to first cur (w ∷ ws) (suc i) v h = edge-to first w ws i v h

edge-last : {A : Type 0} (first cur : A) (vs : List A) → (e : Edge A) × (slice_get (edges_from first cur vs) (length vs) ≡ Some e) × (e.to ≡ first)
edge-last first cur [] = (record { from = cur; to = first }, refl, refl)
edge-last first cur (v ∷ vs) = edge-last first v vs

end-of : {A : Type 0} (first cur : A) (vs : List A) (i : ℕ) (e : Edge A) → slice_get (edges_from first cur vs) i ≡ Some e
    → (slice_get vs i ≡ Some e.to) ⊎ ((i ≡ length vs) × (e.to ≡ first))
end-of first cur [] zero e h = inr (refl, ap (λ (d : Edge _). d.to) (sym (some-same _ e h)))
end-of first cur [] (suc i) e h = absurd (cc h)
end-of first cur (v ∷ vs) zero e h = inl (ap (λ (d : Edge _). Some d.to) (some-same _ e h))
end-of first cur (v ∷ vs) (suc i) e h = at_case (end-of first v vs i e h)
  where
    at_case : (slice_get vs i ≡ Some e.to) ⊎ ((i ≡ length vs) × (e.to ≡ first)) → (slice_get vs i ≡ Some e.to)
        ⊎ ((suc i ≡ suc (length vs)) × (e.to ≡ first))
    at_case (inl k) = inl k
    at_case (inr k) = inr (ap suc k.0, k.1)

-- ---- the edges of a polygon
pub out-start : {A : Type 0} (vs : List A) (i : ℕ) (e : Edge A) → slice_get (edges vs) i ≡ Some e → slice_get vs i ≡ Some e.from
out-start [] i e h = absurd (cc h)
out-start (v ∷ vs) i e h = start-of v v vs i e h

pub out-edge : {A : Type 0} (vs : List A) (i : ℕ) (v : A) → slice_get vs i ≡ Some v → (e : Edge A) × (slice_get (edges vs) i ≡ Some e) × (e.from ≡ v)
out-edge [] i v h = absurd (cc h)
out-edge (w ∷ ws) i v h = edge-from w w ws i v h

pub into-edge : {A : Type 0} (vs : List A) (i : ℕ) (v : A) → slice_get vs i ≡ Some v → (e : Edge A)
    × (slice_get (edges vs) (edge_into (length vs) i) ≡ Some e) × (e.to ≡ v)
into-edge [] i v h = absurd (cc h)
into-edge (w ∷ ws) zero v h = let m = edge-last w w ws in (m.0, m.1, m.2 ∙ some-same w v h)
into-edge (w ∷ ws) (suc i) v h = edge-to w w ws i v h

-- the edge with a number that ends at v is the one into v
pub into-only : {A : Type 0} (vs : List A) (i : ℕ) (v : A) → AreDistinct vs → slice_get vs i ≡ Some v → (e : Edge A) → IsAmong e (edges vs) → e.to ≡ v
    → slice_get (edges vs) (edge_into (length vs) i) ≡ Some e
into-only [] i v d h e k f = elim k [ ]
into-only {A} (w ∷ ws) i v d h e k f = at_number (among-place e (edges (w ∷ ws)) k)
  where
    at_number : (j : ℕ) × (slice_get (edges (w ∷ ws)) j ≡ Some e) → slice_get (edges (w ∷ ws)) (edge_into (suc (length ws)) i) ≡ Some e
    at_number m = at_case (end-of w w ws m.0 e m.1)
      where
        at_case : (slice_get ws m.0 ≡ Some e.to) ⊎ ((m.0 ≡ length ws) × (e.to ≡ w))
            → slice_get (edges (w ∷ ws)) (edge_into (suc (length ws)) i) ≡ Some e
        at_case (inl g) = ap (λ n. slice_get (edges (w ∷ ws)) (edge_into (suc (length ws)) n))
            (one-number (w ∷ ws) v i (suc m.0) d h (g ∙ ap Some f)) ∙ m.1
        at_case (inr g) =
            ap (λ n. slice_get (edges (w ∷ ws)) (edge_into (suc (length ws)) n)) (one-number (w ∷ ws) v i zero d h (ap Some (sym g.1 ∙ f)))
            ∙ ap (λ n. slice_get (edges (w ∷ ws)) n) (sym g.0) ∙ m.1

pub out-only : {A : Type 0} (vs : List A) (i : ℕ) (v : A) → AreDistinct vs → slice_get vs i ≡ Some v
    → (e : Edge A) → IsAmong e (edges vs) → e.from ≡ v → slice_get (edges vs) i ≡ Some e
out-only vs i v d h e k f =
    let m = among-place e (edges vs) k in
    ap (slice_get (edges vs)) (one-number vs v i m.0 d h (out-start vs m.0 e m.1 ∙ ap Some f)) ∙ m.1
