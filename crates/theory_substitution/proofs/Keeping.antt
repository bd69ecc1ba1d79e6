-- Motions and growth factors keep orientations and segments.
use Rattle.std.proofs.Common.{◌≡◌, ℕ, zero, suc, List, [], ◌∷◌, pos, refl, sym, ap, ap₂, ◌∙◌, subst, Bool, true, false}
use Rattle.std.specs.Ordering.{is_eq}
use Rattle.theory_ring.specs.Ring.{Ops, difference, power}
use Rattle.theory_ring.proofs.Normaliser.{var, con, neg, ring, ring_from, ◌⊕◌, ◌⊖◌, ◌⊗◌}
use Rattle.theory_substitution.specs.Points.{Points, PointLaws}
use Rattle.theory_substitution.specs.Motion.{Motion, moved}
use Rattle.theory_ring.specs.Sign.{IsPositive}
use Rattle.theory_plane.specs.Plane.{orientation}
use Rattle.theory_plane.specs.Segment.{on_segment, Between}
use Rattle.theory_substitution.specs.Plane.{plane_point, twice_squared_length, same_length, Keeps, IsGrowthFactor}
use Rattle.theory_plane.proofs.OnSegment.{between-on_segment, on_segment-between}
use Rattle.theory_plane.proofs.Linear.{Linear, Shifted, Scaled, two_pos, between-linear, between-scaled_back, between-shifted, shifted-back, orientation-linear, turns-linear, turns-shifted}
use Rattle.theory_substitution.proofs.Lengths.{height_of, square_of, height, cancel_double, norm-is, norm_zeta, growth_positive, motion-length, factor-same_length}

same_truth : (x y : Bool) → (x ≡ true → y ≡ true) → (y ≡ true → x ≡ true) → x ≡ y
same_truth true y f g = sym (f refl)
same_truth false true f g = g refl
same_truth false false f g = refl

-- a point that is a mean stays one, and was one; and orientations keep their signs
pub record Kept (P : Points) (f : P.ring.carrier → P.ring.carrier) : Type 0 where
  pub between : (a b c : P.ring.carrier) → Between P.real (plane_point P a) (plane_point P b)
      (plane_point P c) → Between P.real (plane_point P (f a)) (plane_point P (f b)) (plane_point P (f c))
  pub between_back : (a b c : P.ring.carrier)
      → Between P.real (plane_point P (f a)) (plane_point P (f b)) (plane_point P (f c))
      → Between P.real (plane_point P a) (plane_point P b) (plane_point P c)
  pub turns : (a b c : P.ring.carrier) → P.real.sign (orientation P.real.ops (plane_point P (f a)) (plane_point P (f b)) (plane_point P (f c)))
      ≡ P.real.sign (orientation P.real.ops (plane_point P a) (plane_point P b) (plane_point P c))

module _ (P : Points) (W : PointLaws P) where
  abbrev K : Ops
  K = P.ring

  abbrev V : Ops
  V = P.real.ops

  kept_same : Kept P (λ z. z)
  kept_same = record { between = λ a b c h. h; between_back = λ a b c h. h; turns = λ a b c. refl }

  kept-then : (f g : K.carrier → K.carrier) → Kept P f → Kept P g → Kept P (λ z. f (g z))
  kept-then f g p q = record {
    between = λ a b c h. p.between (g a) (g b) (g c) (q.between a b c h);
    between_back = λ a b c h. q.between_back a b c (p.between_back (g a) (g b) (g c) h);
    turns = λ a b c. p.turns (g a) (g b) (g c) ∙ q.turns a b c;
  }

  kept-by : (f g : K.carrier → K.carrier) → ((z : K.carrier) → f z ≡ g z) → Kept P f → Kept P g
  kept-by f g e p = record {
    between = λ a b c h. at_places (f a) (f b) (f c) _ _ _ (e a) (e b) (e c) (p.between a b c h);
    between_back = λ a b c h. p.between_back a b c (at_places (g a) (g b) (g c) _ _ _ (sym (e a)) (sym (e b)) (sym (e c)) h);
    turns = λ a b c. sym (at_turns (e a) (e b) (e c)) ∙ p.turns a b c;
  }
    where
      at_turns : {a b c a' b' c' : K.carrier} → a ≡ a' → b ≡ b' → c ≡ c'
          → P.real.sign (orientation V (plane_point P a) (plane_point P b) (plane_point P c)) ≡ P.real.sign
          (orientation V (plane_point P a') (plane_point P b') (plane_point P c'))
      at_turns p q r = λ i. P.real.sign (orientation V (plane_point P (p i)) (plane_point P (q i)) (plane_point P (r i)))

      at_places : (a b c a' b' c' : K.carrier) → a ≡ a' → b ≡ b' → c ≡ c'
          → Between P.real (plane_point P a) (plane_point P b) (plane_point P c)
          → Between P.real (plane_point P a') (plane_point P b') (plane_point P c')
      at_places a b c a' b' c' p q r h =
          subst (λ v. Between P.real (plane_point P a') (plane_point P b') (plane_point P v)) r
          (subst (λ v. Between P.real (plane_point P a') (plane_point P v) (plane_point P c)) q
          (subst (λ v. Between P.real (plane_point P v) (plane_point P b) (plane_point P c)) p h))

  -- ---- products by a number whose squared length is positive
  module _ (l : K.carrier) where
    by_product : (z : K.carrier) → Linear V (P.x l) (V.neg (V.mul (height P W) (P.y l))) (P.y l) (P.x l) (plane_point P z) (plane_point P (K.mul l z))
    by_product z = record {
      at_x = W.x-mul l z ∙ ring V W.of_real all (var 1 ⊗ var 3 ⊖ height_of ⊗ (var 2 ⊗ var 4)) (var 1 ⊗ var 3 ⊕ neg (height_of ⊗ var 2) ⊗ var 4) refl;
      at_y = W.y-mul l z ∙ ring V W.of_real all (var 1 ⊗ var 4 ⊕ var 2 ⊗ var 3) (var 2 ⊗ var 3 ⊕ var 1 ⊗ var 4) refl;
    }
      where
        all : List V.carrier
        all = W.cosine ∷ (P.x l ∷ (P.y l ∷ (P.x z ∷ (P.y z ∷ []))))

    between-product : (a b c : K.carrier) → Between P.real (plane_point P a) (plane_point P b)
        (plane_point P c) → Between P.real (plane_point P (K.mul l a)) (plane_point P (K.mul l b))
        (plane_point P (K.mul l c))
    between-product a b c h = between-linear P.real W.of_real W.of_order _ _ _ _ (plane_point P a)
        (plane_point P b) (plane_point P c) _ _ _ (by_product a) (by_product b) (by_product c) h

    -- the determinant is |2l|²
    full : IsPositive P.real (twice_squared_length P l)
        → IsPositive P.real (difference V (V.mul (P.x l) (P.x l))
        (V.mul (V.neg (V.mul (height P W) (P.y l))) (P.y l)))
    full h =
        ap P.real.sign (
        ring V W.of_real (W.cosine ∷ (P.x l ∷ (P.y l ∷ []))) (var 1 ⊗ var 1 ⊖ neg (height_of ⊗ var 2) ⊗ var 2)
        (square_of (var 1) (var 2)) refl ∙ sym (norm-is P W l))
        ∙ W.of_order.sign-mul _ _ (two_pos P.real W.of_real W.of_order) h

  -- a product by l multiplies each orientation by |l|²
  pub product-orientation : (l a b c : K.carrier)
      → V.mul (V.int (pos 2)) (orientation V (plane_point P (K.mul l a)) (plane_point P (K.mul l b))
      (plane_point P (K.mul l c)))
      ≡ V.mul (twice_squared_length P l) (orientation V (plane_point P a) (plane_point P b) (plane_point P c))
  product-orientation l a b c =
      cancel_double P W _ _ (
      orientation-linear P.real W.of_real W.of_order _ _ _ _ (plane_point P a) (plane_point P b)
      (plane_point P c) _ _ _ (by_product l a) (by_product l b) (by_product l c)
      ∙ ap (λ u. V.mul u (orientation V (plane_point P a) (plane_point P b) (plane_point P c)))
      (ring V W.of_real (W.cosine ∷ (P.x l ∷ (P.y l ∷ []))) (var 1 ⊗ var 1 ⊖ neg (height_of ⊗ var 2) ⊗ var 2)
      (square_of (var 1) (var 2)) refl ∙ sym (norm-is P W l))
      ∙ W.of_real.mul_assoc (V.int (pos 2)) (twice_squared_length P l) (orientation V (plane_point P a) (plane_point P b) (plane_point P c)))

  -- l times its conjugate is real
  real_norm : (l : K.carrier) → P.y (K.mul (P.conj l) l) ≡ V.int (pos 0)
  real_norm l =
      cancel_double P W _ _ (
      W.y-mul (P.conj l) l ∙ ap₂ (λ u v. V.add (V.mul u (P.y l)) (V.mul v (P.x l))) (W.x-conj l) (W.y-conj l)
      ∙ ring V W.of_real (P.x l ∷ (P.y l ∷ [])) (var 0 ⊗ var 1 ⊕ neg (var 1) ⊗ var 0) (con (pos 2) ⊗ con (pos 0)) refl)

  -- so a product by l, and then by its conjugate, scales the plane
  by_norm : (l z : K.carrier) → Scaled P.real W.of_real W.of_order (P.x (K.mul (P.conj l) l))
      (plane_point P z) (plane_point P (K.mul (P.conj l) (K.mul l z)))
  by_norm l z = record {
    at_x = ap (λ u. V.mul (V.int (pos 2)) (P.x u)) assoc ∙ W.x-mul m z
        ∙ ring_from V W.of_real all (var 1 ⊗ var 3 ⊖ height_of ⊗ (var 2 ⊗ var 4))
        (var 1 ⊗ var 3 ⊕ con (pos 0) ⊗ var 4) ((neg (height_of ⊗ var 4), var 2, con (pos 0)) ∷ [])
        (real_norm l, tt) refl;
    at_y = ap (λ u. V.mul (V.int (pos 2)) (P.y u)) assoc ∙ W.y-mul m z
        ∙ ring_from V W.of_real all (var 1 ⊗ var 4 ⊕ var 2 ⊗ var 3) (con (pos 0) ⊗ var 3 ⊕ var 1 ⊗ var 4)
        ((var 3, var 2, con (pos 0)) ∷ []) (real_norm l, tt) refl;
  }
    where
      m : K.carrier
      m = K.mul (P.conj l) l

      assoc : K.mul (P.conj l) (K.mul l z) ≡ K.mul m z
      assoc = sym (W.of_ring.mul_assoc (P.conj l) l z)

      all : List V.carrier
      all = W.cosine ∷ (P.x m ∷ (P.y m ∷ (P.x z ∷ (P.y z ∷ []))))

  kept_product : (l : K.carrier) → IsPositive P.real (twice_squared_length P l) → Kept P (K.mul l)
  kept_product l h = record {
    between = between-product l;
    between_back = λ a b c g.
        between-scaled_back P.real W.of_real W.of_order (P.x (K.mul (P.conj l) l)) (plane_point P a)
        (plane_point P b) (plane_point P c) _ _ _ positive (by_norm l a) (by_norm l b) (by_norm l c)
        (between-product (P.conj l) (K.mul l a) (K.mul l b) (K.mul l c) g);
    turns = λ a b c. turns-linear P.real W.of_real W.of_order _ _ _ _ (plane_point P a) (plane_point P b)
        (plane_point P c) _ _ _ (full l h) (by_product l a) (by_product l b) (by_product l c);
  }
    where
      positive : IsPositive P.real (P.x (K.mul (P.conj l) l))
      positive = ap (λ u. P.real.sign (P.x u)) (W.of_ring.mul_comm (P.conj l) l) ∙ h

  -- ---- shifts
  by_shift : (v z : K.carrier) → Shifted V (P.x v) (P.y v) (plane_point P z) (plane_point P (K.add z v))
  by_shift v z = record { at_x = W.x-add z v; at_y = W.y-add z v }

  shift_back : (v z : K.carrier) → Shifted V (V.neg (P.x v)) (V.neg (P.y v)) (plane_point P (K.add z v)) (plane_point P z)
  shift_back v z = shifted-back P.real W.of_real W.of_order (P.x v) (P.y v) _ _ (by_shift v z)

  kept_shift : (v : K.carrier) → Kept P (λ z. K.add z v)
  kept_shift v = record {
    between = λ a b c h. between-shifted P.real W.of_real W.of_order _ _ (plane_point P a) (plane_point P b)
        (plane_point P c) _ _ _ (by_shift v a) (by_shift v b) (by_shift v c) h;
    between_back = λ a b c h. between-shifted P.real W.of_real W.of_order _ _ (plane_point P (K.add a v))
        (plane_point P (K.add b v)) (plane_point P (K.add c v)) _ _ _ (shift_back v a) (shift_back v b)
        (shift_back v c) h;
    turns = λ a b c. ap P.real.sign (turns-shifted P.real W.of_real W.of_order _ _ (plane_point P a)
        (plane_point P b) (plane_point P c) _ _ _ (by_shift v a) (by_shift v b) (by_shift v c));
  }

  -- ---- powers, and motions
  kept-power : (l : K.carrier) → Kept P (K.mul l) → (n : ℕ) → Kept P (K.mul (power K l n))
  kept-power l h zero = kept-by (λ z. z) _ (λ z. ring K W.of_ring (z ∷ []) (var 0) (con (pos 1) ⊗ var 0) refl) kept_same
  kept-power l h (suc n) =
      kept-by (λ z. K.mul l (K.mul (power K l n) z)) _ (λ z. sym (W.of_ring.mul_assoc l (power K l n) z))
      (kept-then (K.mul l) (K.mul (power K l n)) h (kept-power l h n))

  zeta_positive : IsPositive P.real (twice_squared_length P P.zeta)
  zeta_positive = ap P.real.sign (norm_zeta P W) ∙ two_pos P.real W.of_real W.of_order

  kept_motion : (m : Motion K.carrier) → Kept P (moved P m)
  kept_motion m = kept-then (λ z. K.add z m.shift) (K.mul (power K P.zeta m.turn)) (kept_shift m.shift)
      (kept-power P.zeta (kept_product P.zeta zeta_positive) m.turn)

  segments-kept : (f : K.carrier → K.carrier) → Kept P f → (a b c : K.carrier)
      → on_segment P.real (plane_point P (f a)) (plane_point P (f b)) (plane_point P (f c)) ≡ on_segment
      P.real (plane_point P a) (plane_point P b) (plane_point P c)
  segments-kept f h a b c =
      same_truth _ _
      (λ e. on_segment-between P.real W.of_real W.of_order _ _ _ (h.between_back a b c (between-on_segment P.real W.of_real W.of_order _ _ _ e)))
      (λ e. on_segment-between P.real W.of_real W.of_order _ _ _ (h.between a b c (between-on_segment P.real W.of_real W.of_order _ _ _ e)))

  pub motion-keeps : (m : Motion K.carrier) → Keeps P (moved P m)
  motion-keeps m = record {
    turns = (kept_motion m).turns;
    segments = segments-kept (moved P m) (kept_motion m);
    equal_lengths = λ a b c d. ap₂ (λ u v. is_eq (P.real.sign (difference V u v))) (motion-length P W m a b) (motion-length P W m c d);
  }

  -- any number whose squared length is positive
  pub product-keeps : (l : K.carrier) → IsPositive P.real (twice_squared_length P l) → Keeps P (K.mul l)
  product-keeps l h = record {
    turns = (kept_product l h).turns;
    segments = segments-kept (K.mul l) (kept_product l h);
    equal_lengths = λ a b c d. factor-same_length P W l a b c d h;
  }

  pub factor-keeps : (l : K.carrier) → IsGrowthFactor P l → Keeps P (K.mul l)
  factor-keeps l h = product-keeps l (growth_positive P W l h)

  pub keeps-by : (f g : K.carrier → K.carrier) → ((z : K.carrier) → f z ≡ g z) → Keeps P f → Keeps P g
  keeps-by f g e h = record {
    turns = λ a b c. sym (λ i. P.real.sign (orientation V (plane_point P (e a i)) (plane_point P (e b i)) (plane_point P (e c i)))) ∙ h.turns a b c;
    segments = λ a b c. sym (λ i. on_segment P.real (plane_point P (e a i)) (plane_point P (e b i)) (plane_point P (e c i))) ∙ h.segments a b c;
    equal_lengths = λ a b c d. sym (λ i. same_length P (difference K (e b i) (e a i)) (difference K (e d i) (e c i))) ∙ h.equal_lengths a b c d;
  }

  pub keeps-then : (f g : K.carrier → K.carrier) → Keeps P f → Keeps P g → Keeps P (λ z. f (g z))
  keeps-then f g p q = record {
    turns = λ a b c. p.turns (g a) (g b) (g c) ∙ q.turns a b c;
    segments = λ a b c. p.segments (g a) (g b) (g c) ∙ q.segments a b c;
    equal_lengths = λ a b c d. p.equal_lengths (g a) (g b) (g c) (g d) ∙ q.equal_lengths a b c d;
  }

  pub powers-keep : (l : K.carrier) → IsGrowthFactor P l → (n : ℕ) → Keeps P (K.mul (power K l n))
  powers-keep l h zero =
      keeps-by (λ z. z) _ (λ z. ring K W.of_ring (z ∷ []) (var 0) (con (pos 1) ⊗ var 0) refl)
      (record { turns = λ a b c. refl; segments = λ a b c. refl; equal_lengths = λ a b c d. refl })
  powers-keep l h (suc n) =
      keeps-by (λ z. K.mul l (K.mul (power K l n) z)) _ (λ z. sym (W.of_ring.mul_assoc l (power K l n) z))
      (keeps-then (K.mul l) (K.mul (power K l n)) (factor-keeps l h) (powers-keep l h n))
