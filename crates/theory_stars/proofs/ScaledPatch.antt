-- A dissection stays one where the plane is scaled by a whole number.
use Rattle.std.specs.List.{AllByRecursion}
use Rattle.std.proofs.Common.{◌≡◌, ◌⊎◌, inl, inr, ℕ, suc, ◌<◌, List, [], ◌∷◌, map, ℤ, pos, ◌+ℤ◌, ◌*ℤ◌, ◌<ℤ◌, refl, sym, ap, ap₂, ◌∙◌, subst, true, false, ◌&&◌, int_eq, is_gt, is_eq, arith}
use Rattle.std.proofs.lemmas.Int.{ints}
use Rattle.std.proofs.lemmas.List.{length-map}
use Rattle.theory_ring.specs.Ring.{Ops, Laws, difference}
use Rattle.theory_ring.specs.Sign.{Signed, OrderLaws, IsPositive}
use Rattle.theory_ring.proofs.Normaliser.{var, con, ring, equal_of_diff, ◌⊖◌, ◌⊗◌}
use Rattle.theory_ring.proofs.Signs.{sign-scale}
use Rattle.theory_ring.proofs.Squares.{mul_pos}
use Rattle.theory_plane.specs.Plane.{PlanePoint, TestPoint, IsTestPoint, side}
use Rattle.theory_plane.specs.Crossing.{crossing, crossing_of, count_from, count, member}
use Rattle.theory_plane.specs.Segment.{same_place}
use Rattle.theory_plane.specs.Triangle.{Triangle, fan_from, fan, turns_left}
use Rattle.theory_plane.specs.Box.{scaled}
use Rattle.theory_plane.proofs.BoxPoints.{whole_positive}
use Rattle.theory_addresses.specs.Search.{IsAmong}
use Rattle.theory_addresses.proofs.Lists.{IsAmong-map}
use Rattle.theory_edge_to_edge.specs.Edges.{Edge}
use Rattle.theory_windows.specs.Distinct.{AreDistinct}
use Rattle.theory_windows.specs.Outlines.{edges_from, edges, PlaneEdge, Polygon, is_reverse}
use Rattle.theory_windows.specs.Meeting.{IsLeftFan}
use Rattle.theory_windows.specs.Patch.{Patch, IsDissected}
use Rattle.theory_windows.proofs.Members.{among-map}

-- ---- edges and fans of a mapped polygon
abbrev pub both_ends : {A B : Type 0} → (A → B) → Edge A → Edge B
both_ends f e = record { from = f e.from; to = f e.to }

abbrev each_corner : {A B : Type 0} → (A → B) → Triangle A → Triangle B
each_corner f t = record { a = f t.a; b = f t.b; c = f t.c }

edges_from-map : {A B : Type 0} (f : A → B) (first cur : A) (vs : List A)
    → edges_from (f first) (f cur) (map f vs) ≡ map (both_ends f) (edges_from first cur vs)
edges_from-map f first cur [] = refl
edges_from-map f first cur (v ∷ vs) = ap (λ es. record { from = f cur; to = f v } ∷ es) (edges_from-map f first v vs)

pub edges-map : {A B : Type 0} (f : A → B) (vs : List A) → edges (map f vs) ≡ map (both_ends f) (edges vs)
edges-map f [] = refl
edges-map f (v ∷ vs) = edges_from-map f v v vs

fan_from-map : {A B : Type 0} (f : A → B) (first cur : A) (vs : List A)
    → fan_from (f first) (f cur) (map f vs) ≡ map (each_corner f) (fan_from first cur vs)
fan_from-map f first cur [] = refl
fan_from-map f first cur (v ∷ vs) = ap (λ ts. record { a = f first; b = f cur; c = f v } ∷ ts) (fan_from-map f first v vs)

fan-map : {A B : Type 0} (f : A → B) (vs : List A) → fan (map f vs) ≡ map (each_corner f) (fan vs)
fan-map f [] = refl
fan-map f (a ∷ []) = refl
fan-map f (a ∷ (b ∷ vs)) = fan_from-map f a b vs

each-of-map : {A B : Type 0} (f : A → B) (Q : A → Type 0) (W : B → Type 0) → ((x : A) → Q x → W (f x))
    → (xs : List A) → AllByRecursion Q xs → AllByRecursion W (map f xs)
each-of-map f Q W h [] k = tt
each-of-map f Q W h (x ∷ xs) k = (h x k.0, each-of-map f Q W h xs k.1)

pub back-among : {A B : Type 0} (f : A → B) → ((x y : A) → f x ≡ f y → x ≡ y) → (x : A) (xs : List A) → IsAmong (f x) (map f xs) → IsAmong x xs
back-among f one x [] i = elim i [ ]
back-among f one x (y ∷ ys) (inl e) = inl (one x y e)
back-among f one x (y ∷ ys) (inr i) = inr (back-among f one x ys i)

pub distinct-map : {A B : Type 0} (f : A → B) → ((x y : A) → f x ≡ f y → x ≡ y) → (xs : List A) → AreDistinct xs → AreDistinct (map f xs)
distinct-map f one [] d = tt
distinct-map f one (x ∷ xs) d = (λ i. absurd (d.0 (back-among f one x xs i)), distinct-map f one xs d.1)

module _ (S : Signed) (L : Laws S.ops) (O : OrderLaws S) (n : ℕ) where
  abbrev R : Ops
  R = S.ops

  abbrev pub factor : R.carrier
  factor = R.int (pos (suc n))

  factor_pos : IsPositive S factor
  factor_pos = whole_positive S L O n

  abbrev pub grown : PlanePoint R.carrier → PlanePoint R.carrier
  grown z = scaled R factor z

  abbrev pub grown_edge : PlaneEdge S → PlaneEdge S
  grown_edge e = both_ends grown e

  -- ---- coordinates
  from_product : (x y : R.carrier) → R.mul factor x ≡ R.mul factor y → x ≡ y
  from_product x y e = equal_of_diff R L x y (O.equal_zero _ (
      sym (sign-scale S L O factor _ factor_pos)
      ∙ ap S.sign (ring R L (factor ∷ (x ∷ (y ∷ []))) (var 0 ⊗ (var 1 ⊖ var 2))
      (var 0 ⊗ var 1 ⊖ var 0 ⊗ var 2) refl ∙ ap (λ z. difference R z (R.mul factor y)) e
      ∙ ring R L (factor ∷ (x ∷ (y ∷ []))) (var 0 ⊗ var 2 ⊖ var 0 ⊗ var 2) (con (pos 0)) refl)
      ∙ O.zero_equal))

  from_grown : (a b : PlanePoint R.carrier) → grown a ≡ grown b → a ≡ b
  from_grown a b e = λ i. record {
    x = from_product a.x b.x (ap (λ (z : PlanePoint R.carrier). z.x) e) i;
    y = from_product a.y b.y (ap (λ (z : PlanePoint R.carrier). z.y) e) i;
  }

  pub from_grown_edge : (e f : PlaneEdge S) → grown_edge e ≡ grown_edge f → e ≡ f
  from_grown_edge e f h = λ i. record {
    from = from_grown e.from f.from (ap (λ (d : PlaneEdge S). d.from) h) i;
    to = from_grown e.to f.to (ap (λ (d : PlaneEdge S). d.to) h) i;
  }

  sign_of_difference : (x y : R.carrier) → S.sign (difference R (R.mul factor x) (R.mul factor y)) ≡ S.sign (difference R x y)
  sign_of_difference x y =
      ap S.sign (ring R L (factor ∷ (x ∷ (y ∷ []))) (var 0 ⊗ var 1 ⊖ var 0 ⊗ var 2) (var 0 ⊗ (var 1 ⊖ var 2))
      refl) ∙ sign-scale S L O factor _ factor_pos

  same_place-grown : (a b : PlanePoint R.carrier) → same_place S (grown a) (grown b) ≡ same_place S a b
  same_place-grown a b = ap₂ (λ s t. is_eq s && is_eq t) (sign_of_difference b.x a.x) (sign_of_difference b.y a.y)

  pub reverse-grown : (e f : PlaneEdge S) → is_reverse S (grown_edge e) (grown_edge f) ≡ is_reverse S e f
  reverse-grown e f = ap₂ (λ s t. s && t) (same_place-grown f.from e.to) (same_place-grown f.to e.from)

  -- ---- turns
  turns-grown : (t : Triangle (PlanePoint R.carrier)) → turns_left S t ≡ true → turns_left S (each_corner grown t) ≡ true
  turns-grown t h =
      ap is_gt (ap S.sign (ring R L (factor ∷ (t.a.x ∷ (t.a.y ∷ (t.b.x ∷ (t.b.y ∷ (t.c.x ∷ (t.c.y ∷ [])))))))
      ((var 0 ⊗ var 3 ⊖ var 0 ⊗ var 1) ⊗ (var 0 ⊗ var 6 ⊖ var 0 ⊗ var 2) ⊖ (var 0 ⊗ var 4 ⊖ var 0 ⊗ var 2) ⊗ (var 0 ⊗ var 5 ⊖ var 0 ⊗ var 1))
      (var 0 ⊗ (var 0 ⊗ ((var 3 ⊖ var 1) ⊗ (var 6 ⊖ var 2) ⊖ (var 4 ⊖ var 2) ⊗ (var 5 ⊖ var 1)))) refl)
      ∙ sign-scale S L O factor _ factor_pos ∙ sign-scale S L O factor _ factor_pos)
      ∙ h

  -- ---- counts: at the same coordinates with the factor in the denominator
  abbrev pub shrunk : TestPoint R.carrier → TestPoint R.carrier
  shrunk p = record { x = p.x; y = p.y; d = R.mul p.d factor }

  whole_product : (m : ℕ) → (r : ℕ) × (R.mul (R.int (pos (suc m))) factor ≡ R.int (pos (suc r)))
  whole_product m =
      let z : pos 0 <ℤ (pos (suc m) *ℤ pos (suc n)) = mul_pos (pos (suc m)) (pos (suc n)) (omega (arith, ints)) (omega (arith, ints)) in
      let r = as_whole (pos (suc m) *ℤ pos (suc n)) z in
      (r.0, sym (L.int_mul _ _) ∙ ap R.int r.1)
    where
      as_whole : (k : ℤ) → pos 0 <ℤ k → (r : ℕ) × (k ≡ pos (suc r))
      as_whole (pos ℕ.zero) h = absurd (omega (arith, ints))
      as_whole (pos (suc r)) h = (r, refl)
      as_whole (ℤ.negsuc r) h = absurd (omega (arith, ints))

  shrunk-test : (p : TestPoint R.carrier) → IsTestPoint S p → IsTestPoint S (shrunk p)
  shrunk-test p t = let w = whole_product t.0 in (w.0, ap (λ d. R.mul d factor) t.1 ∙ w.1)

  module _ (p : TestPoint R.carrier) where
    above-grown : (v : PlanePoint R.carrier) → S.sign
        (difference R (R.mul p.d (R.mul factor v.y)) p.y) ≡ S.sign
        (difference R (R.mul (R.mul p.d factor) v.y) p.y)
    above-grown v = ap S.sign (ring R L (p.d ∷ (factor ∷ (v.y ∷ (p.y ∷ []))))
        (var 0 ⊗ (var 1 ⊗ var 2) ⊖ var 3) ((var 0 ⊗ var 1) ⊗ var 2 ⊖ var 3) refl)

    side-grown : (a b : PlanePoint R.carrier) → S.sign (side R (grown a) (grown b) p) ≡ S.sign (side R a b (shrunk p))
    side-grown a b =
        ap S.sign (ring R L (factor ∷ (a.x ∷ (a.y ∷ (b.x ∷ (b.y ∷ (p.x ∷ (p.y ∷ (p.d ∷ []))))))))
        ((var 0 ⊗ var 3 ⊖ var 0 ⊗ var 1) ⊗ (var 6 ⊖ var 7 ⊗ (var 0 ⊗ var 2)) ⊖ (var 0 ⊗ var 4 ⊖ var 0 ⊗ var 2) ⊗ (var 5 ⊖ var 7 ⊗ (var 0 ⊗ var 1)))
        (var 0 ⊗ ((var 3 ⊖ var 1) ⊗ (var 6 ⊖ (var 7 ⊗ var 0) ⊗ var 2) ⊖ (var 4 ⊖ var 2) ⊗ (var 5 ⊖ (var 7 ⊗ var 0) ⊗ var 1))) refl)
        ∙ sign-scale S L O factor _ factor_pos

    crossing-grown : (a b : PlanePoint R.carrier) → crossing S (grown a) (grown b) p ≡ crossing S a b (shrunk p)
    crossing-grown a b = λ i. crossing_of (is_gt (above-grown a i)) (is_gt (above-grown b i)) (side-grown a b i)

    count_from-grown : (first cur : PlanePoint R.carrier) (vs : Polygon S)
        → count_from S p (grown first) (grown cur) (map grown vs) ≡ count_from S (shrunk p) first cur vs
    count_from-grown first cur [] = crossing-grown cur first
    count_from-grown first cur (v ∷ vs) = ap₂ (λ x y. x +ℤ y) (crossing-grown cur v) (count_from-grown first v vs)

    pub count-grown : (vs : Polygon S) → count S (map grown vs) p ≡ count S vs (shrunk p)
    count-grown [] = refl
    count-grown (v ∷ vs) = count_from-grown v v vs

    member-grown : (vs : Polygon S) → member S (map grown vs) p ≡ true → member S vs (shrunk p) ≡ true
    member-grown vs h = ap (λ z. int_eq z (pos 1)) (sym (count-grown vs)) ∙ h

  -- ---- the patch
  module _ {T : Type 0} (P : Patch S T) (D : IsDissected S T P) where
    abbrev pub grown_patch : Patch S T
    grown_patch = record { tiles = P.tiles; outline = λ t. map grown (P.outline t) }

    -- an edge of a scaled tile is the edge of the tile, scaled
    pub from_edge : (t : T) (e : PlaneEdge S) → IsAmong e (edges (map grown (P.outline t)))
        → (f : PlaneEdge S) × IsAmong f (edges (P.outline t)) × (e ≡ grown_edge f)
    from_edge t e i = among-map grown_edge e (edges (P.outline t)) (subst (IsAmong e) (edges-map grown (P.outline t)) i)

    pub to_edge : (t : T) (e : PlaneEdge S) → IsAmong e (edges (P.outline t)) → IsAmong (grown_edge e) (edges (map grown (P.outline t)))
    to_edge t e i = subst (IsAmong (grown_edge e)) (sym (edges-map grown (P.outline t))) (IsAmong-map grown_edge e (edges (P.outline t)) i)

    left_fan-grown : (t : T) → IsAmong t P.tiles → IsLeftFan S (map grown (P.outline t))
    left_fan-grown t i =
        let f = D.left_fan t i in
        record {
          corners = subst (λ m. 2 < m) (sym (length-map (P.outline t) grown)) f.corners;
          turns_left = subst (AllByRecursion (λ t. turns_left S t ≡ true)) (sym (fan-map grown (P.outline t)))
              (each-of-map (each_corner grown) _ _ turns-grown (fan (P.outline t)) f.turns_left);
          zero_or_one = λ p k. either p (f.zero_or_one (shrunk p) (shrunk-test p k));
        }
      where
        either : (p : TestPoint R.carrier) → (count S (P.outline t) (shrunk p) ≡ pos 0) ⊎ (count S (P.outline t) (shrunk p) ≡ pos 1)
            → (count S (map grown (P.outline t)) p ≡ pos 0) ⊎ (count S (map grown (P.outline t)) p ≡ pos 1)
        either p (inl e) = inl (count-grown p (P.outline t) ∙ e)
        either p (inr e) = inr (count-grown p (P.outline t) ∙ e)

    pub grown-dissected : IsDissected S T grown_patch
    grown-dissected = record {
      distinct = D.distinct;
      left_fan = left_fan-grown;
      one_holder = λ t u i j p k h l. D.one_holder t u i j (shrunk p) (shrunk-test p k)
          (member-grown p (P.outline t) h) (member-grown p (P.outline u) l);
      own_edges = λ t i. subst AreDistinct (sym (edges-map grown (P.outline t)))
          (distinct-map grown_edge from_grown_edge (edges (P.outline t)) (D.own_edges t i));
      one_owner = λ t u i j e k l. owner t u i j (from_edge t e k) (from_edge u e l);
      no_return = λ t i e f k l. apart t i (from_edge t e k) (from_edge t f l);
    }
      where
        owner : (t u : T) → IsAmong t P.tiles → IsAmong u P.tiles → {e : PlaneEdge S} → (f : PlaneEdge S)
            × IsAmong f (edges (P.outline t)) × (e ≡ grown_edge f)
            → (g : PlaneEdge S) × IsAmong g (edges (P.outline u)) × (e ≡ grown_edge g) → t ≡ u
        owner t u i j f g = D.one_owner t u i j f.0 f.1 (subst (λ e. IsAmong e (edges (P.outline u))) (from_grown_edge g.0 f.0 (sym g.2 ∙ f.2)) g.1)

        apart : (t : T) → IsAmong t P.tiles → {e f : PlaneEdge S} → (a : PlaneEdge S) × IsAmong a (edges (P.outline t)) × (e ≡ grown_edge a)
            → (b : PlaneEdge S) × IsAmong b (edges (P.outline t)) × (f ≡ grown_edge b) → is_reverse S e f ≡ false
        apart t i a b = ap₂ (is_reverse S) a.2 b.2 ∙ reverse-grown a.0 b.0 ∙ D.no_return t i a.0 b.0 a.1 b.1
