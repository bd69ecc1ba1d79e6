-- The edges of a new tile in the plane, and by their ends.
use Rattle.std.proofs.Common.{◌≡◌, ℕ, zero, suc, ◌<◌, Bool, true, false, cond, ◌||◌, List, [], ◌∷◌, ◌++◌, refl, sym, ap, ap₂, ◌∙◌, subst, arith}
use Rattle.std.specs.List.{filter, list_any, AllZip}
use Rattle.std.proofs.lemmas.Bool.{and_from}
use Rattle.std.proofs.lemmas.List.Elements.{filter-append}
use Rattle.std.proofs.lemmas.List.Folds.{list_any-append}
use Rattle.theory_ring.specs.Sign.{Signed}
use Rattle.theory_plane.specs.Plane.{PlanePoint}
use Rattle.theory_plane.specs.Segment.{same_place}
use Rattle.theory_addresses.specs.Search.{some_below, below, chosen_below}
use Rattle.theory_substitution.specs.Plane.{plane_point}
use Rattle.theory_edge_to_edge.proofs.LieCases.{same_place-self}
use Rattle.cyclo_points.specs.declared.order.Order.{Order}
use Rattle.cyclo_points.specs.declared.point.Point.{Point}
use Rattle.cyclo_points.specs.Order.{points_of, PointsLaw}
use Rattle.cyclo_points.specs.Point.{point_in}
use Rattle.theory_windows.specs.Outlines.{PlaneEdge, is_reverse}
use Rattle.theory_windows.proofs.Reverses.{reverse-is}
use Rattle.window_cover.specs.Border.{have_same_ends}
use Rattle.window_cover.specs.NewEdges.{reversed}
use Rattle.window_cover.specs.Packed.{ends_of}
use Rattle.window_cover.proofs.BoxTests.{same_tests}
use Rattle.window_cover.proofs.SamePoints.{IsShortIn, have_same_ends-points}

-- ---- lists
abbrev pub one_if : {A : Type 0} → Bool → A → List A
one_if b x = cond b (x ∷ []) []

-- what a filter keeps of a list by numbers
pub filter-below : {A : Type 0} (q : A → Bool) (g : ℕ → A) (n : ℕ) → filter q (below g n) ≡ chosen_below (λ e. q (g e)) g n
filter-below q g zero = refl
filter-below q g (suc n) = filter-append q (below g n) (g n ∷ []) ∙ ap (λ xs. xs ++ one_if (q (g n)) (g n)) (filter-below q g n)

pub any-below : {A : Type 0} (q : A → Bool) (g : ℕ → A) (n : ℕ) → list_any q (below g n) ≡ some_below n (λ e. q (g e))
any-below q g zero = refl
any-below q g (suc n) = list_any-append q (below g n) (g n ∷ []) ∙ ap₂ (λ a b. a || b) (any-below q g n) (or_false (q (g n)))
  where
    or_false : (b : Bool) → b || false ≡ b
    or_false true = refl
    or_false false = refl

pub some-same : (p q : ℕ → Bool) (n : ℕ) → ((e : ℕ) → e < n → p e ≡ q e) → some_below n p ≡ some_below n q
some-same p q zero h = refl
some-same p q (suc n) h = ap₂ (λ a b. a || b) (some-same p q n (λ e l. h e (omega (arith, l)))) (h n (omega arith))

pub AllZip-append : {A B : Type 0} (R : A → B → Type 0) (xs ys : List A) (us vs : List B) → AllZip R xs us
    → AllZip R ys vs → AllZip R (xs ++ ys) (us ++ vs)
AllZip-append R [] ys [] vs h k = k
AllZip-append R [] ys (u ∷ us) vs h k = absurd h
AllZip-append R (x ∷ xs) ys [] vs h k = absurd h
AllZip-append R (x ∷ xs) ys (u ∷ us) vs h k = (h.0, AllZip-append R xs ys us vs h.1 k)

pub AllZip-filter : {A B : Type 0} (R : A → B → Type 0) (p : A → Bool) (q : B → Bool) (xs : List A)
    (us : List B) → ((x : A) (u : B) → R x u → p x ≡ q u) → AllZip R xs us
    → AllZip R (filter p xs) (filter q us)
AllZip-filter R p q [] [] same h = tt
AllZip-filter R p q [] (u ∷ us) same h = absurd h
AllZip-filter R p q (x ∷ xs) [] same h = absurd h
AllZip-filter {A} {B} R p q (x ∷ xs) (u ∷ us) same h = at_test (q u) (same x u h.0) (AllZip-filter R p q xs us same h.1)
  where
    at : (b : Bool) → AllZip R (filter p xs) (filter q us)
        → AllZip R (cond b (x ∷ filter p xs) (filter p xs)) (cond b (u ∷ filter q us) (filter q us))
    at true r = (h.0, r)
    at false r = r

    at_test : (b : Bool) → p x ≡ b → AllZip R (filter p xs) (filter q us)
        → AllZip R (cond (p x) (x ∷ filter p xs) (filter p xs)) (cond b (u ∷ filter q us) (filter q us))
    at_test b e r = subst (λ c. AllZip R (cond c (x ∷ filter p xs) (filter p xs)) (cond b (u ∷ filter q us) (filter q us))) (sym e) (at b r)

pub AllZip-any : {A B : Type 0} (R : A → B → Type 0) (p : A → Bool) (q : B → Bool) (xs : List A) (us : List B)
    → ((x : A) (u : B) → R x u → p x ≡ q u) → AllZip R xs us → list_any p xs ≡ list_any q us
AllZip-any R p q [] [] same h = refl
AllZip-any R p q [] (u ∷ us) same h = absurd h
AllZip-any R p q (x ∷ xs) [] same h = absurd h
AllZip-any R p q (x ∷ xs) (u ∷ us) same h = ap₂ (λ a b. a || b) (same x u h.0) (AllZip-any R p q xs us same h.1)

pub AllZip-chosen : {A B : Type 0} (R : A → B → Type 0) (p q : ℕ → Bool) (f : ℕ → A) (g : ℕ → B) (n : ℕ)
    → ((e : ℕ) → e < n → (p e ≡ q e) × R (f e) (g e)) → AllZip R (chosen_below p f n) (chosen_below q g n)
AllZip-chosen R p q f g zero h = tt
AllZip-chosen {A} {B} R p q f g (suc n) h =
    AllZip-append R (chosen_below p f n) (one_if (p n) (f n)) (chosen_below q g n) (one_if (q n) (g n))
    (AllZip-chosen R p q f g n (λ e l. h e (omega (arith, l))))
    (subst (λ c. AllZip R (one_if c (f n)) (one_if (q n) (g n))) (sym (h n (omega arith)).0) (at (q n)))
  where
    at : (b : Bool) → AllZip R (one_if b (f n)) (one_if b (g n))
    at true = ((h n (omega arith)).1, tt)
    at false = tt

-- ---- two edges by their ends
module _ (o : Order) (W : PointsLaw o) where
  abbrev S : Signed
  S = (points_of o).real

  abbrev pub spot : Point → PlanePoint (points_of o).real.ops.carrier
  spot p = plane_point (points_of o) (point_in o p)

  abbrev pub line_between : Point → Point → PlaneEdge (points_of o).real
  line_between a b = record { from = spot a; to = spot b }

  one-point : (p q : Point) → spot p ≡ spot q → point_in o p ≡ point_in o q
  one-point p q h = W.separate (point_in o p) (point_in o q) (ap (λ a. a.x) h) (ap (λ a. a.y) h)

  pub ends-reverse : (s e p q : Point) → IsShortIn o s → IsShortIn o e → IsShortIn o p → IsShortIn o q
      → have_same_ends (reversed (ends_of s e)) (ends_of p q) ≡ is_reverse (points_of o).real (line_between s e) (line_between p q)
  ends-reverse s e p q a b c d =
      let h = have_same_ends-points o e s p q b a c d in
      same_tests _ _
      (λ k. let both = h.0 k in and_from _ _
      (subst (λ z. same_place S (plane_point (points_of o) z) (spot e) ≡ true) both.0 (same_place-self (points_of o) W (point_in o e)))
      (subst (λ z. same_place S (plane_point (points_of o) z) (spot s) ≡ true) both.1 (same_place-self (points_of o) W (point_in o s))))
      (λ k. let r = reverse-is S W.of_real W.of_order (line_between s e) (line_between p q) k in
      h.1 (one-point e p (sym (ap (λ f. f.from) r)), one-point s q (sym (ap (λ f. f.to) r))))

  pub ends-same : (s e p q : Point) → IsShortIn o s → IsShortIn o e → IsShortIn o p → IsShortIn o q
      → have_same_ends (ends_of s e) (ends_of p q) ≡ true → line_between s e ≡ line_between p q
  ends-same s e p q a b c d k =
      let both = (have_same_ends-points o s e p q a b c d).0 k in
      ap₂ (λ y z. record { from = plane_point (points_of o) y; to = plane_point (points_of o) z }) both.0 both.1
