-- Each edge of a polygon is an edge of a triangle of its fan, and the polygon's count is 1 where that of one triangle is.
use Rattle.std.proofs.Common.{◌≡◌, ◌⊎◌, inl, inr, List, [], ◌∷◌, ℤ, pos, ◌+ℤ◌, ◌≤ℤ◌, refl, sym, ap, ◌∙◌, true, is_gt, arith}
use Rattle.std.proofs.lemmas.Int.{ints}
use Rattle.theory_ring.specs.Ring.{Ops, Laws}
use Rattle.theory_ring.specs.Sign.{Signed, OrderLaws, IsPositive}
use Rattle.theory_plane.specs.Plane.{PlanePoint, TestPoint}
use Rattle.theory_plane.specs.Crossing.{count}
use Rattle.theory_plane.specs.Triangle.{Triangle, corners, fan_from, fan, counts, turns_left}
use Rattle.theory_plane.proofs.Triangle.{Good, turn_rotated, triangle-good}
use Rattle.std.specs.List.{AllByRecursion}
use Rattle.theory_addresses.specs.Search.{IsAmong}
use Rattle.theory_edge_to_edge.specs.Edges.{Edge}
use Rattle.theory_windows.specs.Outlines.{edges_from, edges}

abbrev pub tri : {A : Type 0} → A → A → A → Triangle A
tri a b c = record { a = a; b = b; c = c }

pub record Over {A : Type 0} (e : Edge A) (ts : List (Triangle A)) : Type 0 where
  pub triangle : Triangle A
  pub apex : A
  pub among : IsAmong triangle ts
  pub rotated : (triangle ≡ tri e.from e.to apex) ⊎ ((triangle ≡ tri apex e.from e.to) ⊎ (triangle ≡ tri e.to apex e.from))

over-edge : {A : Type 0} (first cur v : A) (vs : List A) (e : Edge A)
    → IsAmong e (edges_from first cur (v ∷ vs)) → Over e (fan_from first cur (v ∷ vs))
over-edge first cur v vs e (inl h) = record {
  triangle = tri first cur v;
  apex = first;
  among = inl refl;
  rotated = inr (inl (ap (λ (d : Edge _). tri first d.from d.to) (sym h)));
}
over-edge first cur v [] e (inr (inl h)) = record {
  triangle = tri first cur v;
  apex = cur;
  among = inl refl;
  rotated = inr (inr (ap (λ (d : Edge _). tri d.to cur d.from) (sym h)));
}
over-edge first cur v [] e (inr (inr h)) = elim h [ ]
over-edge first cur v (w ∷ ws) e (inr h) =
    let o : Over e (fan_from first v (w ∷ ws)) = over-edge first v w ws e h in
    record { triangle = o.triangle; apex = o.apex; among = inr o.among; rotated = o.rotated }

pub over-polygon : {A : Type 0} (a b c : A) (vs : List A) (e : Edge A) → IsAmong e (edges (a ∷ (b ∷ (c ∷ vs)))) → Over e (fan (a ∷ (b ∷ (c ∷ vs))))
over-polygon a b c vs e (inl h) = record {
  triangle = tri a b c;
  apex = c;
  among = inl refl;
  rotated = inl (ap (λ (d : Edge _). tri d.from d.to c) (sym h));
}
over-polygon a b c vs e (inr h) = over-edge a b c vs e h

module _ (S : Signed) (L : Laws S.ops) (O : OrderLaws S) where
  abbrev R : Ops
  R = S.ops

  -- ---- the sum over a fan in which one triangle counts 1
  abbrev count_of : TestPoint R.carrier → Triangle (PlanePoint R.carrier) → ℤ
  count_of p t = count S (corners t) p

  good-least : (x y : ℤ) → Good x → pos 0 ≤ℤ y → pos 0 ≤ℤ (x +ℤ y)
  good-least x y (inl e) h = omega (arith, ints)
  good-least x y (inr e) h = omega (arith, ints)

  counts-least : (p : TestPoint R.carrier) (ts : List (Triangle (PlanePoint R.carrier)))
      → AllByRecursion (λ t. Good (count_of p t)) ts → pos 0 ≤ℤ counts S ts p
  counts-least p [] h = omega (arith, ints)
  counts-least p (t ∷ ts) h = good-least (count_of p t) (counts S ts p) h.0 (counts-least p ts h.1)

  one-least : (x y : ℤ) → x ≡ pos 1 → pos 0 ≤ℤ y → pos 1 ≤ℤ (x +ℤ y)
  one-least x y e h = omega (arith, ints)

  good-more : (x y : ℤ) → Good x → pos 1 ≤ℤ y → pos 1 ≤ℤ (x +ℤ y)
  good-more x y (inl e) h = omega (arith, ints)
  good-more x y (inr e) h = omega (arith, ints)

  pub counts-one : (p : TestPoint R.carrier) (t : Triangle (PlanePoint R.carrier))
      (ts : List (Triangle (PlanePoint R.carrier))) → IsAmong t ts → count_of p t ≡ pos 1
      → AllByRecursion (λ u. Good (count_of p u)) ts → pos 1 ≤ℤ counts S ts p
  counts-one p t [] i e h = elim i [ ]
  counts-one p t (u ∷ us) (inl f) e h = one-least (count_of p u) (counts S us p) (ap (count_of p) (sym f) ∙ e) (counts-least p us h.1)
  counts-one p t (u ∷ us) (inr i) e h = good-more (count_of p u) (counts S us p) h.0 (counts-one p t us i e h.1)

  pub must_be_one : (z : ℤ) → Good z → pos 1 ≤ℤ z → z ≡ pos 1
  must_be_one z (inl e) h = absurd (omega (arith, ints))
  must_be_one z (inr e) h = e

  pub all-good : (p : TestPoint R.carrier) → IsPositive S p.d → (ts : List (Triangle (PlanePoint R.carrier)))
      → AllByRecursion (λ t. turns_left S t ≡ true) ts → AllByRecursion (λ t. Good (count_of p t)) ts
  all-good p d_pos [] h = tt
  all-good p d_pos (t ∷ ts) h = (triangle-good S L O t p d_pos h.0, all-good p d_pos ts h.1)

  pub turned-left : (a b c : PlanePoint R.carrier) → turns_left S (tri a b c) ≡ true → turns_left S (tri b c a) ≡ true
  turned-left a b c h = ap (λ z. is_gt (S.sign z)) (turn_rotated S L O a b c (record { x = R.int (pos 0); y = R.int (pos 0); d = R.int (pos 0) })) ∙ h
