-- Each test point of a supertile is in exactly one of its tiles; so along a line lies the edge of at most one tile.
use Rattle.std.proofs.Common.{◌≡◌, inl, inr, ℕ, ◌<◌, ℤ, pos, int_eq, cond, length, sym, ap, ◌∙◌, subst, arith}
use Rattle.std.proofs.lemmas.Int.{ints}
use Rattle.theory_ring.specs.Ring.{Ops, power}
use Rattle.theory_ring.specs.Sign.{Signed, IsPositive}
use Rattle.theory_plane.specs.Plane.{PlanePoint, TestPoint}
use Rattle.theory_plane.proofs.Triangle.{Good}
use Rattle.theory_substitution.specs.Plane.{plane_point, Keeps}
use Rattle.theory_substitution.specs.Motion.{moved}
use Rattle.theory_substitution.specs.RuleParts.{vertices_of, vertex, next, edge_count}
use Rattle.theory_addresses.specs.Search.{IsAmong}
use Rattle.theory_substitution.specs.Supertile.{Placed, supertile}
use Rattle.theory_substitution.proofs.Keeping.{motion-keeps, keeps-then}
use Rattle.theory_dissection.specs.Sums.{number_of}
use Rattle.theory_dissection.specs.TileEdges.{edge_of}
use Rattle.theory_dissection.proofs.Setting.{Setting, inflating-keeps}
use Rattle.theory_dissection.proofs.Ahead.{Ahead}
use Rattle.theory_dissection.proofs.StarEdges.{next_of, spot_of, from, to}
use Rattle.theory_dissection.proofs.StarCount.{star-good}
use Rattle.theory_dissection.proofs.ZeroOrOne.{sum-number, one_holder}
use Rattle.theory_dissection.proofs.SupertileCount.{tile_count, whole_count, sum-all}
use Rattle.theory_dissection.proofs.CommonPoint.{Shared, common_point}
use Rattle.theory_dissection.proofs.Apexes.{Apex, apex_of, apex-covers, one_edge}
use Rattle.theory_dissection.proofs.Members.{member}
use Rattle.theory_dissection.proofs.MovedStar.{star_of}

pos_is : (m n : ℕ) → pos m ≡ pos n → m ≡ n
pos_is m n e = omega (arith, ints)

module _ (T : Setting) where
  open T use {points as P, laws as W, accepted.{rule as r, numbered as N, edge_to_edge as D}}

  abbrev A : Type 0
  A = P.ring.carrier

  abbrev K : Ops
  K = P.ring

  abbrev S : Signed
  S = P.real

  -- edge e of kind k, moved by f, as an edge of its star-shaped polygon
  pub end-is : (f : A → A) (keeps : Keeps P f) (k e : ℕ) (hk : k < length r.kinds)
      → to (star_of T f keeps k hk) e ≡ plane_point P (f (vertex P r k (next r k e)))
  end-is f keeps k e hk = ap (λ n. plane_point P (f (vertex P r k (next_of n e)))) (N.vertex_each k hk)

  pub kind_edge_below : (k e : ℕ) → k < length r.kinds → e < edge_count r k → e < length (vertices_of r k)
  kind_edge_below k e hk he = let size = N.vertex_each k hk in omega arith

  -- ---- counts
  module _ (f : A → A) (keeps : Keeps P f) (p : TestPoint S.ops.carrier) (d_pos : IsPositive S p.d) where
    abbrev in_tile : Placed A → ℤ
    in_tile = tile_count T p f

    abbrev in_whole : ℕ → ℕ → ℤ
    in_whole = whole_count T p f

    tile-good : (t : Placed A) → t.address.kind < length r.kinds → Good (in_tile t)
    tile-good t h =
        star-good (star_of T (λ z. f (moved P t.motion z))
        (keeps-then P W f (moved P t.motion) keeps (motion-keeps P W t.motion)) t.address.kind h) p d_pos

    pub whole-good : (k n : ℕ) → k < length r.kinds → Good (in_whole k n)
    whole-good k n h =
        star-good (star_of T (λ z. f (K.mul (power K r.factor n) z))
        (keeps-then P W f (K.mul (power K r.factor n)) keeps (inflating-keeps T n)) k h) p d_pos

    pub tiles-good : (k n : ℕ) → k < length r.kinds → (t : Placed A) → IsAmong t (supertile P r k n) → Good (in_tile t)
    tiles-good k n hk t i = tile-good t (member T k n hk t i).tile.kind_exists

    -- exactly one tile holds a point of the supertile, and none another
    pub exactly_one : (k n : ℕ) → k < length r.kinds
        → number_of (λ t. int_eq (in_tile t) (pos 1)) (supertile P r k n) ≡ cond
        (int_eq (in_whole k n) (pos 1)) 1 0
    exactly_one k n hk =
        at_case (whole-good k n hk) (sym (sum-number in_tile (supertile P r k n) (tiles-good k n hk)) ∙ sum-all T p k n hk f keeps)
      where
        at_case : Good (in_whole k n) → pos (number_of (λ t. int_eq (in_tile t) (pos 1)) (supertile P r k n)) ≡ in_whole k n
            → number_of (λ t. int_eq (in_tile t) (pos 1)) (supertile P r k n) ≡ cond (int_eq (in_whole k n) (pos 1)) 1 0
        at_case (inl e) g = pos_is _ 0 (g ∙ e) ∙ ap (λ z. cond (int_eq z (pos 1)) 1 0) (sym e)
        at_case (inr e) g = pos_is _ 1 (g ∙ e) ∙ ap (λ z. cond (int_eq z (pos 1)) 1 0) (sym e)

    pub one_tile : (k n : ℕ) → k < length r.kinds → (t u : Placed A) → IsAmong t (supertile P r k n)
        → IsAmong u (supertile P r k n) → in_tile t ≡ pos 1 → in_tile u ≡ pos 1 → t ≡ u
    one_tile k n hk t u i j x y =
        one_holder in_tile t u (supertile P r k n) i j x y (tiles-good k n hk) (subst Good (sym (sum-all T p k n hk f keeps)) (whole-good k n hk))

  -- ---- edges
  module _ (f : A → A) (keeps : Keeps P f) where
    -- u→v lies along edge e of the tile that f moves
    abbrev pub OnEdge : Placed A → ℕ → PlanePoint S.ops.carrier → PlanePoint S.ops.carrier → Type 0
    OnEdge t e u v = Ahead S (plane_point P (f (edge_of P r t e).from)) (plane_point P (f (edge_of P r t e).to)) u v

    tile_keeps : (t : Placed A) → Keeps P (λ z. f (moved P t.motion z))
    tile_keeps t = keeps-then P W f (moved P t.motion) keeps (motion-keeps P W t.motion)

    as_star : (t : Placed A) (e : ℕ) (u v : PlanePoint S.ops.carrier) (h : t.address.kind < length r.kinds) → OnEdge t e u v
        → Ahead S (from (star_of T (λ z. f (moved P t.motion z)) (tile_keeps t) t.address.kind h) e)
        (to (star_of T (λ z. f (moved P t.motion z)) (tile_keeps t) t.address.kind h) e) u v
    as_star t e u v h on =
        subst (λ z. Ahead S (plane_point P (f (moved P t.motion (vertex P r t.address.kind e)))) z u v)
        (sym (end-is (λ z. f (moved P t.motion z)) (tile_keeps t) t.address.kind e h)) on

    -- along a line lies at most one edge of the tiles
    pub one_along : (k n : ℕ) → k < length r.kinds
        → (t u : Placed A) (d e : ℕ) (a' b' : PlanePoint S.ops.carrier) → IsAmong t (supertile P r k n)
        → IsAmong u (supertile P r k n)
        → d < edge_count r t.address.kind → e < edge_count r u.address.kind → OnEdge t d a' b' → OnEdge u e a' b' → (t ≡ u) × (d ≡ e)
    one_along k n hk t u d e a' b' i j hd he x y
        = (
          same,
          edges (subst (λ (v : Placed A). (e < edge_count r v.address.kind) × OnEdge v e a' b')
              (sym same) (he, y)),
        )
      where
        ht : t.address.kind < length r.kinds
        ht = (member T k n hk t i).tile.kind_exists

        hu : u.address.kind < length r.kinds
        hu = (member T k n hk u j).tile.kind_exists

        ft : A → A
        ft z = f (moved P t.motion z)

        a : Apex (star_of T ft (tile_keeps t) t.address.kind ht) d
        a = apex_of (star_of T ft (tile_keeps t) t.address.kind ht) d
            (spot_of (length (vertices_of r t.address.kind)) d (kind_edge_below t.address.kind d ht hd))

        fu : A → A
        fu z = f (moved P u.motion z)

        b : Apex (star_of T fu (tile_keeps u) u.address.kind hu) e
        b = apex_of (star_of T fu (tile_keeps u) u.address.kind hu) e
            (spot_of (length (vertices_of r u.address.kind)) e (kind_edge_below u.address.kind e hu he))

        c : Shared S W.of_real W.of_order (from (star_of T ft (tile_keeps t) t.address.kind ht) d)
            (to (star_of T ft (tile_keeps t) t.address.kind ht) d) a.apex
            (from (star_of T fu (tile_keeps u) u.address.kind hu) e)
            (to (star_of T fu (tile_keeps u) u.address.kind hu) e) b.apex
        c = common_point S W.of_real W.of_order _ _ a.apex _ _ b.apex a' b' a.left b.left (as_star t d a' b' ht x) (as_star u e a' b' hu y)

        same : t ≡ u
        same = one_tile f keeps c.point c.d_pos k n hk t u i j
            (apex-covers (star_of T ft (tile_keeps t) t.address.kind ht) d a c.point c.d_pos c.in_one)
            (apex-covers (star_of T fu (tile_keeps u) u.address.kind hu) e b c.point c.d_pos c.in_other)

        edges : (e < edge_count r t.address.kind) × OnEdge t e a' b' → d ≡ e
        edges z =
            one_edge (star_of T ft (tile_keeps t) t.address.kind ht) d e a' b'
            (spot_of (length (vertices_of r t.address.kind)) d (kind_edge_below t.address.kind d ht hd))
            (spot_of (length (vertices_of r t.address.kind)) e (kind_edge_below t.address.kind e ht z.0))
            (as_star t d a' b' ht x) (as_star t e a' b' ht z.1)
