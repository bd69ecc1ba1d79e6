-- The counts of the tiles of a supertile add up to the supertile's count.
use Rattle.std.proofs.Common.{◌≡◌, ℕ, zero, suc, ◌<◌, ℤ, pos, [], ◌∷◌, length, map, refl, sym, ap, ap₂, ◌∙◌}
use Rattle.std.specs.List.{enumerate_from}
use Rattle.theory_ring.specs.Ring.{Ops, power}
use Rattle.theory_ring.specs.Sign.{Signed}
use Rattle.theory_plane.specs.Plane.{TestPoint}
use Rattle.theory_plane.specs.Crossing.{crossing, count}
use Rattle.theory_ring.proofs.Normaliser.{var, con, ring, ◌⊕◌, ◌⊗◌}
use Rattle.theory_substitution.specs.Plane.{plane_point, Keeps}
use Rattle.theory_substitution.specs.Motion.{Motion, moved, still}
use Rattle.theory_substitution.specs.Rule.{Child, children_of}
use Rattle.theory_substitution.specs.RuleParts.{vertices_of, edge_count, next, vertex, child_of}
use Rattle.theory_addresses.specs.Search.{below}
use Rattle.theory_edge_to_edge.specs.Edges.{Edge, child_edge, edges_of_child}
use Rattle.theory_substitution.specs.Supertile.{Placed, inflated, lifted, supertile}
use Rattle.theory_substitution.proofs.Addresses.{numbered-exists}
use Rattle.theory_substitution.proofs.Motions.{moved-followed}
use Rattle.theory_substitution.proofs.Keeping.{motion-keeps, keeps-then}
use Rattle.theory_addresses.proofs.Lists.{map-ext}
use Rattle.theory_dissection.specs.Sums.{sum_over, sum_below}
use Rattle.theory_dissection.proofs.Setting.{Setting, inflating-keeps}
use Rattle.theory_dissection.proofs.Sums.{plus_zero, sum-ext, sum-ext_on, sum-flat_map, sum-map, sum-places, sum-enumerated, sum-below_list, sum_below-ext}
use Rattle.theory_dissection.proofs.EdgeSums.{count-edges}
use Rattle.theory_dissection.proofs.StarEdges.{next_of}
use Rattle.theory_dissection.proofs.OneLevel.{at_line, edges_sum}

module _ (T : Setting)
    (p : TestPoint T.points.real.ops.carrier) where
  open T use {points as P, laws as W, accepted.{rule as r, numbered as N, edge_to_edge as D}}

  abbrev A : Type 0
  A = P.ring.carrier

  abbrev K : Ops
  K = P.ring

  abbrev S : Signed
  S = P.real

  -- the count of kind k's prototile, moved by f
  abbrev pub kind_count : (A → A) → ℕ → ℤ
  kind_count f k = count S (map (λ z. plane_point P (f z)) (vertices_of r k)) p

  -- of a tile that f moves, and of the whole supertile
  abbrev pub tile_count : (A → A) → Placed A → ℤ
  tile_count f t = kind_count (λ z. f (moved P t.motion z)) t.address.kind

  abbrev pub whole_count : (A → A) → ℕ → ℕ → ℤ
  whole_count f k n = kind_count (λ z. f (K.mul (power K r.factor n) z)) k

  pub count-ext : (f g : A → A) (k : ℕ) → ((z : A) → f z ≡ g z) → kind_count f k ≡ kind_count g k
  count-ext f g k h = ap (λ vs. count S vs p) (map-ext _ _ (vertices_of r k) (λ z. ap (plane_point P) (h z)))

  -- by the edges' numbers
  kind-edges : (f : A → A) (k : ℕ) → k < length r.kinds
      → kind_count f k ≡ sum_below (λ e. crossing S (plane_point P (f (vertex P r k e)))
      (plane_point P (f (vertex P r k (next r k e)))) p) (edge_count r k)
  kind-edges f k h =
      count-edges S p (λ z. plane_point P (f z)) (K.int (pos 0)) (vertices_of r k)
      ∙ ap (λ n. sum_below (λ e. crossing S (plane_point P (f (vertex P r k e)))
      (plane_point P (f (vertex P r k (next_of n e)))) p) n) (N.vertex_each k h)

  module _ (f : A → A) (keeps : Keeps P f) (k : ℕ) (hk : k < length r.kinds) where
    abbrev line : Edge A → ℤ
    line = at_line T p f keeps

    child_sum : (i : ℕ) → i < length (children_of r k)
        → kind_count (λ z. f (moved P (child_of P r k i).motion z)) (child_of P r k i).kind ≡ sum_over (λ s. line s.line) (edges_of_child P r k i)
    child_sum i h =
        kind-edges (λ z. f (moved P (child_of P r k i).motion z)) (child_of P r k i).kind (N.child_exists k i hk h)
        ∙ sym (sum-below_list (λ s. line s.line) (child_edge P r k i) (edge_count r (child_of P r k i).kind))

    pub one_level : sum_over (λ c. kind_count (λ z. f (moved P c.motion z)) c.kind) (children_of r k) ≡ kind_count (λ z. f (K.mul r.factor z)) k
    one_level =
        sum-places (λ c. kind_count (λ z. f (moved P c.motion z)) c.kind) (children_of r k) (record { kind = 0; motion = still P })
        ∙ sum_below-ext (λ i. kind_count (λ z. f (moved P (child_of P r k i).motion z))
        (child_of P r k i).kind) (λ i. sum_over (λ s. line s.line) (edges_of_child P r k i))
        (length (children_of r k)) child_sum
        ∙ sym (sum-flat_map (λ s. line s.line) (edges_of_child P r k)
        (below (λ c. c) (length (children_of r k)))
        ∙ sum-below_list (λ c. sum_over (λ s. line s.line) (edges_of_child P r k c)) (λ c. c)
        (length (children_of r k)))
        ∙ edges_sum T p f keeps k hk
        ∙ sum_below-ext _ _ (edge_count r k) (λ e lt. ap₂
        (λ u v. crossing S (plane_point P (f u)) (plane_point P (f v)) p)
        (W.of_ring.mul_comm (vertex P r k e) r.factor)
        (W.of_ring.mul_comm (vertex P r k (next r k e)) r.factor))
        ∙ sym (kind-edges (λ z. f (K.mul r.factor z)) k hk)

  still-moves : (z : A) → moved P (still P) z ≡ K.mul (K.int (pos 1)) z
  still-moves z = ring K W.of_ring (z ∷ []) (con (pos 1) ⊗ var 0 ⊕ con (pos 0)) (con (pos 1) ⊗ var 0) refl

  pub inflated-moves : (n : ℕ) (m : Motion A) (z : A)
      → moved P (inflated P r n m) (K.mul (power K r.factor n) z) ≡ K.mul (power K r.factor n) (moved P m z)
  inflated-moves n m z =
      ring K W.of_ring (power K P.zeta m.turn ∷ (power K r.factor n ∷ (z ∷ (m.shift ∷ []))))
      (var 0 ⊗ (var 1 ⊗ var 2) ⊕ var 1 ⊗ var 3) (var 1 ⊗ (var 0 ⊗ var 2 ⊕ var 3)) refl

  pub sum-all : (k n : ℕ) → k < length r.kinds → (f : A → A) → Keeps P f → sum_over (tile_count f) (supertile P r k n) ≡ whole_count f k n
  sum-all k zero hk f h = plus_zero _ ∙ count-ext (λ z. f (moved P (still P) z)) (λ z. f (K.mul (K.int (pos 1)) z)) k (λ z. ap f (still-moves z))
  sum-all k (suc n) hk f h =
      sum-flat_map (tile_count f) (λ c. map (lifted P r k n c.0 c.1) (supertile P r c.1.kind n)) (enumerate_from 0 (children_of r k))
      ∙ sum-ext_on _ (λ c. kind_count (λ z. f (K.mul (power K r.factor n) (moved P c.1.motion z))) c.1.kind) (enumerate_from 0 (children_of r k))
      (λ c i. child c.0 c.1 (sum-all c.1.kind n (numbered-exists P r N.child_exists k hk c i)
      (λ z. f (moved P (inflated P r n c.1.motion) z))
      (keeps-then P W f (moved P (inflated P r n c.1.motion)) h
      (motion-keeps P W (inflated P r n c.1.motion)))))
      ∙ sum-enumerated (λ c. kind_count (λ z. f (K.mul (power K r.factor n) (moved P c.motion z))) c.kind) 0 (children_of r k)
      ∙ one_level (λ z. f (K.mul (power K r.factor n) z)) (keeps-then P W f (K.mul (power K r.factor n)) h (inflating-keeps T n)) k hk
      ∙ count-ext (λ z. f (K.mul (power K r.factor n) (K.mul r.factor z))) (λ z. f (K.mul (power K r.factor (suc n)) z)) k
      (λ z. ap f (ring K W.of_ring (power K r.factor n ∷ (r.factor ∷ (z ∷ []))) (var 0 ⊗ (var 1 ⊗ var 2)) ((var 1 ⊗ var 0) ⊗ var 2) refl))
    where
      child : (i : ℕ) (c : Child A) → sum_over (tile_count (λ z. f (moved P (inflated P r n c.motion) z)))
          (supertile P r c.kind n) ≡ whole_count (λ z. f (moved P (inflated P r n c.motion) z)) c.kind n
          → sum_over (tile_count f) (map (lifted P r k n i c) (supertile P r c.kind n)) ≡ kind_count
          (λ z. f (K.mul (power K r.factor n) (moved P c.motion z))) c.kind
      child i c e =
          sum-map (tile_count f) (lifted P r k n i c) (supertile P r c.kind n)
          ∙ sum-ext _ _ (supertile P r c.kind n) (λ t. count-ext _ _ t.address.kind
          (λ z. ap f (moved-followed P W t.motion (inflated P r n c.motion) z)))
          ∙ e
          ∙ count-ext _ _ c.kind (λ z. ap f (inflated-moves n c.motion z))
