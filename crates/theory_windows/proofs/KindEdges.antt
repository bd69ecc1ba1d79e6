-- The edges of the images of a prototile's vertices, by their numbers.
use Rattle.std.proofs.Common.{◌≡◌, ℕ, zero, suc, ◌+◌, ◌<◌, List, [], ◌∷◌, ◌++◌, length, map, get_or, slice_get, Some, cond, nat_lt, pos, refl, sym, ap, ap₂, ◌∙◌, subst, arith, add-zero, zero-add}
use Rattle.std.specs.List.{enumerate_from}
use Rattle.std.proofs.lemmas.List.{length-map, map-append, ext_get_or}
use Rattle.std.proofs.lemmas.Option.{slice_get_within, get_or_from_slice_get}
use Rattle.std.proofs.Math.ListN.{get_or-map}
use Rattle.theory_ring.specs.Sign.{Signed}
use Rattle.theory_plane.specs.Plane.{PlanePoint}
use Rattle.theory_addresses.specs.Search.{IsAmong, below}
use Rattle.theory_addresses.proofs.Ranges.{among-place, place-among, length-below, get_or-below}
use Rattle.theory_substitution.specs.RuleParts.{vertices_of, edge_count, next, vertex}
use Rattle.theory_dissection.proofs.Setting.{Setting}
use Rattle.theory_windows.specs.OpenEdges.{edges_of_tile}
use Rattle.theory_windows.specs.Outlines.{PlaneEdge, edges}
use Rattle.theory_windows.proofs.Places.{length-edges}
use Rattle.theory_windows.proofs.EdgeNumbers.{edges_by_number}

is_some : {A : Type 0} {x y : A} → Some x ≡ Some y → x ≡ y
is_some e = cc (e)

-- numbered lists in a row
enumerate-more : {A : Type 0} (k : ℕ) (xs : List A) (x : A) → enumerate_from k (xs ++ x ∷ []) ≡ enumerate_from k xs ++ (k + length xs, x) ∷ []
enumerate-more k [] x = ap (λ n. (n, x) ∷ []) (sym (add-zero k))
enumerate-more k (y ∷ ys) x = ap (λ l. (k, y) ∷ l)
    (enumerate-more (k + 1) ys x ∙ ap (λ n. enumerate_from (k + 1) ys ++ (n, x) ∷ []) (shift (length ys)))
  where
    shift : (n : ℕ) → (k + 1) + n ≡ k + suc n
    shift n = omega arith

map-enumerated : {A B : Type 0} (f : ℕ × A → B) (g : ℕ → A) (n : ℕ) → map f (enumerate_from 0 (below g n)) ≡ below (λ i. f (i, g i)) n
map-enumerated f g zero = refl
map-enumerated f g (suc n) =
    ap (map f) (enumerate-more 0 (below g n) (g n)) ∙ map-append f (enumerate_from 0 (below g n)) ((0 + length (below g n), g n) ∷ [])
    ∙ ap₂ (λ l k. l ++ f (k, g n) ∷ []) (map-enumerated f g n) (zero-add (length (below g n)) ∙ length-below g n)

module _ (T : Setting) where
  open T use {points as P, accepted.{rule as r, numbered as N}}

  abbrev A : Type 0
  A = P.ring.carrier

  abbrev S : Signed
  S = P.real

  module _ (put : A → PlanePoint S.ops.carrier) (k : ℕ) (hk : k < length r.kinds) where
    abbrev vs : List A
    vs = vertices_of r k

    abbrev polygon : List (PlanePoint S.ops.carrier)
    polygon = map put vs

    -- edge number e
    abbrev pub line : ℕ → PlaneEdge S
    line e = record { from = put (vertex P r k e); to = put (vertex P r k (next r k e)) }

    size : length polygon ≡ edge_count r k
    size = length-map vs put ∙ N.vertex_each k hk

    pub lines : (e : ℕ) → e < edge_count r k → slice_get (edges polygon) e ≡ Some (line e)
    lines e he = edges_by_number (put (P.ring.int (pos 0))) polygon e (subst (λ n. e < n) (sym size) he)
        ∙ ap Some (λ i. record { from = start i; to = end i })
      where
        start : get_or polygon e (put (P.ring.int (pos 0))) ≡ put (vertex P r k e)
        start = get_or-map put vs e (P.ring.int (pos 0))

        end : get_or polygon (cond (nat_lt (suc e) (length polygon)) (suc e) 0) (put (P.ring.int (pos 0))) ≡ put (vertex P r k (next r k e))
        end = ap (λ n. get_or polygon (cond (nat_lt (suc e) n) (suc e) 0) (put (P.ring.int (pos 0)))) size
            ∙ get_or-map put vs (next r k e) (P.ring.int (pos 0))

    pub line-among : (e : ℕ) → e < edge_count r k → IsAmong (line e) (edges polygon)
    line-among e he = place-among (line e) (edges polygon) e (lines e he)

    pub number-below : (e : ℕ) (l : PlaneEdge S) → slice_get (edges polygon) e ≡ Some l → e < edge_count r k
    number-below e l at = subst (λ n. e < n) (length-edges polygon ∙ size) (slice_get_within (edges polygon) e l at)

    pub line-at : (e : ℕ) (l : PlaneEdge S) → slice_get (edges polygon) e ≡ Some l → l ≡ line e
    line-at e l at = is_some (sym at ∙ lines e (number-below e l at))

    pub line-number : (l : PlaneEdge S) → IsAmong l (edges polygon) → (e : ℕ) × (e < edge_count r k) × (l ≡ line e)
    line-number l i = let place = among-place l (edges polygon) i in (place.0, number-below place.0 l place.1, line-at place.0 l place.1)

    -- the list of them
    pub edges-below : edges polygon ≡ below line (edge_count r k)
    edges-below =
        ext_get_or (line 0) (edges polygon) (below line (edge_count r k)) (many ∙ sym (length-below line (edge_count r k)))
        (λ e h. get_or_from_slice_get (edges polygon) e (line e) (line 0)
        (lines e (subst (λ n. e < n) many h)) ∙ sym
        (get_or-below line (edge_count r k) e (line 0) (subst (λ n. e < n) many h)))
      where
        many : length (edges polygon) ≡ edge_count r k
        many = length-edges polygon ∙ size

    pub numbered : (i : ℕ) → edges_of_tile S i polygon ≡ below (λ e. record { tile = i; edge = e; line = line e }) (edge_count r k)
    numbered i = ap (λ (es : List (PlaneEdge S)). map
        (λ (e : ℕ × PlaneEdge S). record { tile = i; edge = e.0; line = e.1 }) (enumerate_from 0 es))
        edges-below
        ∙ map-enumerated (λ (e : ℕ × PlaneEdge S). record { tile = i; edge = e.0; line = e.1 }) line (edge_count r k)
