-- A star is a star wherever it is moved, and so a simple polygon.
use Rattle.std.proofs.Common.{◌≡◌, ◌⊎◌, inl, inr, ℕ, zero, suc, ◌<◌, ◌-◌, List, [], ◌∷◌, length, map, get_or, pos, refl, sym, ap, ap₂, ◌∙◌, subst, Bool, true, false, not, ◌&&◌, ◌||◌, is_gt, arith}
use Rattle.std.proofs.lemmas.Bool.{and_parts}
use Rattle.std.proofs.lemmas.List.{length-map}
use Rattle.theory_ring.specs.Sign.{Signed}
use Rattle.theory_ring.proofs.Booleans.{denied}
use Rattle.theory_plane.specs.Plane.{PlanePoint}
use Rattle.theory_plane.specs.Segment.{on_segment}
use Rattle.theory_plane.specs.Triangle.{Triangle, turns_left, right_of, beyond, beyond_an_edge, separated}
use Rattle.theory_substitution.specs.Points.{Points, PointLaws}
use Rattle.theory_substitution.specs.Plane.{plane_point, Keeps}
use Rattle.theory_addresses.specs.Search.{all_below}
use Rattle.theory_edge_to_edge.specs.Star.{corner, fan_triangle, fan_turns_left, fan_is_apart, fan_is_open, is_star}
use Rattle.theory_windows.specs.Outlines.{Polygon}
use Rattle.theory_stars.specs.Round.{IsSimple}
use Rattle.theory_stars.proofs.SimpleStar.{vertex, star_triangle, IsStarShaped, star_is_simple}

last_or : (n i : ℕ) → i < suc n → (i < n) ⊎ (i ≡ n)
last_or zero zero l = inr refl
last_or zero (suc i) l = absurd (omega arith)
last_or (suc n) zero l = inl (omega arith)
last_or (suc n) (suc i) l = next (last_or n i (omega arith))
  where
    next : (i < n) ⊎ (i ≡ n) → (suc i < suc n) ⊎ (suc i ≡ suc n)
    next (inl h) = inl (omega arith)
    next (inr e) = inr (ap suc e)

one_below : (n : ℕ) (p : ℕ → Bool) (i : ℕ) → all_below n p ≡ true → i < n → p i ≡ true
one_below zero p i h l = absurd (omega arith)
one_below (suc n) p i h l = at_case (λ k. one_below n p i (and_parts (p n) (all_below n p) h).1 k) (last_or n i l)
  where
    at_case : (i < n → p i ≡ true) → (i < n) ⊎ (i ≡ n) → p i ≡ true
    at_case more (inl k) = more k
    at_case more (inr e) = ap p e ∙ (and_parts (p n) (all_below n p) h).0

get-map : {A B : Type 0} (g : A → B) (vs : List A) (i : ℕ) (o : A) (d : B) → i < length vs → get_or (map g vs) i d ≡ g (get_or vs i o)
get-map g [] i o d l = absurd (omega arith)
get-map g (v ∷ vs) zero o d l = refl
get-map g (v ∷ vs) (suc i) o d l = get-map g vs i o d (omega arith)

module _ (P : Points) (L : PointLaws P) (f : P.ring.carrier → P.ring.carrier) (K : Keeps P f) where
  abbrev S : Signed
  S = P.real

  abbrev here : P.ring.carrier → PlanePoint P.real.ops.carrier
  here z = plane_point P z

  abbrev there : P.ring.carrier → PlanePoint P.real.ops.carrier
  there z = plane_point P (f z)

  abbrev of_points : (P.ring.carrier → PlanePoint P.real.ops.carrier) → Triangle P.ring.carrier → Triangle (PlanePoint P.real.ops.carrier)
  of_points g t = record { a = g t.a; b = g t.b; c = g t.c }

  -- ---- the tests of triangles are kept
  right-kept : (a b v : P.ring.carrier) → right_of S (there a) (there b) (there v) ≡ right_of S (here a) (here b) (here v)
  right-kept a b v = ap (λ o. not (is_gt o)) (K.turns a b v)

  beyond-kept : (a b : P.ring.carrier) (t : Triangle P.ring.carrier)
      → beyond S (there a) (there b) (of_points there t) ≡ beyond S (here a) (here b) (of_points here t)
  beyond-kept a b t = λ i. right-kept a b t.a i && right-kept a b t.b i && right-kept a b t.c i

  edge-kept : (t u : Triangle P.ring.carrier)
      → beyond_an_edge S (of_points there t) (of_points there u) ≡ beyond_an_edge S (of_points here t)
      (of_points here u)
  edge-kept t u = λ i. beyond-kept t.a t.b u i || beyond-kept t.b t.c u i || beyond-kept t.c t.a u i

  separated-kept : (t u : Triangle P.ring.carrier)
      → separated S (of_points there t) (of_points there u) ≡ separated S (of_points here t)
      (of_points here u)
  separated-kept t u = λ i. edge-kept t u i || edge-kept u t i

  turns-kept : (t : Triangle P.ring.carrier) → turns_left S (of_points there t) ≡ turns_left S (of_points here t)
  turns-kept t = ap is_gt (K.turns t.a t.b t.c)

  -- ---- by numbers
  module _ (vs : List P.ring.carrier) (corners : 2 < length vs) (star : is_star P vs ≡ true) where
    abbrev outline : Polygon S
    outline = map there vs

    abbrev place : ℕ → P.ring.carrier
    place i = get_or vs i (P.ring.int (pos 0))

    vertex-is : (i : ℕ) → i < length vs → vertex S (outline) i ≡ there (place i)
    vertex-is i l = get-map there vs i (P.ring.int (pos 0)) _ l

    abbrev at : ℕ → Triangle P.ring.carrier
    at t = record { a = place 0; b = place (suc t); c = place (suc (suc t)) }

    triangle-is : (t : ℕ) → suc (suc t) < length vs → star_triangle S (outline) t ≡ of_points there (at t)
    triangle-is t l = λ i. record { a = vertex-is 0 (omega arith) i; b = vertex-is (suc t) (omega arith) i; c = vertex-is (suc (suc t)) l i }

    parts : ((fan_turns_left P vs ≡ true) × (fan_is_apart P vs ≡ true)) × (fan_is_open P vs ≡ true)
    parts = let h = and_parts (fan_turns_left P vs && fan_is_apart P vs) (fan_is_open P vs)
        star in (and_parts (fan_turns_left P vs) (fan_is_apart P vs) h.0, h.1)

    same-length : length (outline) ≡ length vs
    same-length = length-map vs there

    turns : (t : ℕ) → suc (suc t) < length (outline) → turns_left S (star_triangle S (outline) t) ≡ true
    turns t l =
        let k : suc (suc t) < length vs = subst (λ n. suc (suc t) < n) same-length l in
        ap (turns_left S) (triangle-is t k) ∙ turns-kept (at t)
        ∙ one_below (length vs - 2) (λ i. turns_left S (fan_triangle P vs i)) t parts.0.0 (omega arith)

    apart : (t u : ℕ) → t < u → suc (suc u) < length (outline) → separated S (star_triangle S (outline) t) (star_triangle S (outline) u) ≡ true
    apart t u b l =
        let k : suc (suc u) < length vs = subst (λ n. suc (suc u) < n) same-length l in
        ap₂ (separated S) (triangle-is t (omega arith)) (triangle-is u k) ∙ separated-kept (at t) (at u)
        ∙ one_below u (λ i. separated S (fan_triangle P vs i) (fan_triangle P vs u)) t
        (one_below (length vs - 2) (λ j. all_below j (λ i. separated S (fan_triangle P vs i) (fan_triangle P vs j))) u parts.0.1 (omega arith)) b

    abbrev final : ℕ
    final = length vs - 1

    opens : (on_segment S (corner P vs 0) (corner P vs (length vs - 1)) (corner P vs 1) ≡ false)
        × (on_segment S (corner P vs 0) (corner P vs 1) (corner P vs (length vs - 1)) ≡ false)
    opens =
        let h = and_parts (not (on_segment S (corner P vs 0) (corner P vs (length vs - 1)) (corner P vs 1)))
        (not (on_segment S (corner P vs 0) (corner P vs 1) (corner P vs (length vs - 1)))) parts.1 in
        (denied _ h.0, denied _ h.1)

    last-is : (last : ℕ) → suc last ≡ length (outline) → last ≡ length vs - 1
    last-is last e = let g = same-length in omega arith

    open-first : (last : ℕ) → suc last ≡ length (outline)
        → on_segment S (vertex S (outline) 0) (vertex S (outline) last) (vertex S (outline) 1) ≡ false
    open-first last e =
        let g : suc last ≡ length vs = e ∙ same-length in
        (λ i. on_segment S (vertex-is 0 (omega arith) i) (vertex-is last (omega arith) i) (vertex-is 1 (omega arith) i))
        ∙ K.segments (place 0) (place last) (place 1)
        ∙ ap (λ n. on_segment S (here (place 0)) (here (place n)) (here (place 1))) (last-is last e)
        ∙ opens.0

    open-last : (last : ℕ) → suc last ≡ length (outline)
        → on_segment S (vertex S (outline) 0) (vertex S (outline) 1) (vertex S (outline) last) ≡ false
    open-last last e =
        let g : suc last ≡ length vs = e ∙ same-length in
        (λ i. on_segment S (vertex-is 0 (omega arith) i) (vertex-is 1 (omega arith) i) (vertex-is last (omega arith) i))
        ∙ K.segments (place 0) (place 1) (place last)
        ∙ ap (λ n. on_segment S (here (place 0)) (here (place 1)) (here (place n))) (last-is last e)
        ∙ opens.1

    shaped : IsStarShaped S (outline)
    shaped = record {
      corners = subst (λ n. 2 < n) (sym same-length) corners;
      turns_left = turns;
      apart = apart;
      open_first = open-first;
      open_last = open-last;
    }

    pub moved_simple : IsSimple S (outline)
    moved_simple = star_is_simple P.real L.of_real L.of_order (outline) shaped
