-- No point is in both of two separated triangles.
use Rattle.std.proofs.Common.{◌≡◌, ◌⊎◌, inl, inr, pos, sym, ap, ◌∙◌, true, ◌&&◌, ◌||◌}
use Rattle.theory_ring.specs.Ring.{Laws}
use Rattle.theory_ring.specs.Sign.{Signed, OrderLaws}
use Rattle.theory_ring.specs.Sign.{IsPositive, IsNonNegative}
use Rattle.theory_plane.specs.Plane.{PlanePoint, TestPoint, orientation}
use Rattle.theory_plane.specs.Crossing.{member}
use Rattle.theory_plane.specs.Triangle.{Triangle, corners, turns_left, right_of, beyond, beyond_an_edge, separated}
use Rattle.theory_ring.proofs.Signs.{not_pos}
use Rattle.theory_ring.proofs.Booleans.{both, either, denied, equal_numbers}
use Rattle.theory_plane.proofs.Triangle.{edge_sum, count-edge_sum, turn_rotated, is_greater}
use Rattle.theory_plane.proofs.Inside.{apart, sum_rotated}

module _ (S : Signed) (L : Laws S.ops) (O : OrderLaws S) (p : TestPoint S.ops.carrier) (d_pos : IsPositive S p.d) where
  abbrev Corner : Type 0
  Corner = PlanePoint S.ops.carrier

  abbrev Left : Corner → Corner → Corner → Type 0
  Left a b c = IsPositive S (orientation S.ops a b c)

  abbrev Holds : Corner → Corner → Corner → Type 0
  Holds a b c = edge_sum S a b c p ≡ pos 1

  not_left : (a b v : Corner) → right_of S a b v ≡ true → IsNonNegative S (S.ops.neg (orientation S.ops a b v))
  not_left a b v e = not_pos S L O _ (denied _ e)

  apart-beyond : (a b c : Corner) (u : Triangle Corner) → Left a b c → Left u.a u.b u.c → beyond S a b u ≡ true → Holds a b c → Holds u.a u.b u.c → ⊥
  apart-beyond a b c u l l' e =
      let h : (right_of S a b u.a && right_of S a b u.b ≡ true) × (right_of S a b u.c ≡ true) = both _ _ e in
      let k : (right_of S a b u.a ≡ true) × (right_of S a b u.b ≡ true) = both _ _ h.0 in
      apart S L O a b u.a u.b u.c p c d_pos l l' (not_left a b u.a k.0) (not_left a b u.b k.1) (not_left a b u.c h.1)

  apart-edge : (t u : Triangle Corner) → Left t.a t.b t.c → Left u.a u.b u.c → beyond_an_edge S t u ≡ true → Holds t.a t.b t.c → Holds u.a u.b u.c → ⊥
  apart-edge t u l l' e x y = at_case (either _ _ e)
    where
      l2 : Left t.b t.c t.a
      l2 = ap S.sign (turn_rotated S L O t.a t.b t.c p) ∙ l

      l3 : Left t.c t.a t.b
      l3 = ap S.sign (turn_rotated S L O t.b t.c t.a p) ∙ l2

      x2 : Holds t.b t.c t.a
      x2 = sum_rotated S L O t.a t.b t.c p ∙ x

      x3 : Holds t.c t.a t.b
      x3 = sum_rotated S L O t.b t.c t.a p ∙ x2

      first : (beyond S t.a t.b u ≡ true) ⊎ (beyond S t.b t.c u ≡ true) → ⊥
      first (inl h) = apart-beyond t.a t.b t.c u l l' h x y
      first (inr h) = apart-beyond t.b t.c t.a u l2 l' h x2 y

      at_case : (beyond S t.a t.b u || beyond S t.b t.c u ≡ true) ⊎ (beyond S t.c t.a u ≡ true) → ⊥
      at_case (inl h) = first (either _ _ h)
      at_case (inr h) = apart-beyond t.c t.a t.b u l3 l' h x3 y

  holds : (t : Triangle Corner) → member S (corners t) p ≡ true → Holds t.a t.b t.c
  holds t e = sym (count-edge_sum S t p) ∙ equal_numbers _ _ e

  pub separated-apart : (t u : Triangle Corner) → turns_left S t ≡ true → turns_left S u ≡ true → separated S t u ≡ true
      → member S (corners t) p ≡ true → member S (corners u) p ≡ true → ⊥
  separated-apart t u l l' e x y = at_case (either _ _ e)
    where
      at_case : (beyond_an_edge S t u ≡ true) ⊎ (beyond_an_edge S u t ≡ true) → ⊥
      at_case (inl h) = apart-edge t u (is_greater S L O _ l) (is_greater S L O _ l') h (holds t x) (holds u y)
      at_case (inr h) = apart-edge u t (is_greater S L O _ l') (is_greater S L O _ l) h (holds u y) (holds t x)
