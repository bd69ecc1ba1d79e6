-- The outline of a tile that a map moves: its edges by their numbers, and that it is a left fan no edge of
-- which is another or the reverse of another.
use Rattle.std.proofs.Common.{◌≡◌, ℕ, suc, ◌<◌, ◌≤◌, List, [], ◌∷◌, length, map, get_or, slice_get, Some, pos, true, false, is_gt, sym, ap, ◌∙◌, subst, arith}
use Rattle.std.specs.List.{AllByRecursion}
use Rattle.std.proofs.lemmas.Bool.{false_from_ne_true}
use Rattle.std.proofs.lemmas.List.{length-map}
use Rattle.theory_ring.specs.Sign.{Signed}
use Rattle.theory_plane.specs.Plane.{PlanePoint}
use Rattle.theory_plane.specs.Triangle.{fan, turns_left}
use Rattle.theory_plane.proofs.Triangle.{denominator_pos}
use Rattle.theory_addresses.specs.Search.{IsAmong, below}
use Rattle.theory_substitution.specs.Plane.{plane_point, Keeps}
use Rattle.theory_substitution.specs.Motion.{moved}
use Rattle.theory_substitution.specs.RuleParts.{vertices_of, edge_count}
use Rattle.theory_substitution.specs.Supertile.{Placed}
use Rattle.theory_substitution.proofs.Keeping.{motion-keeps, keeps-then}
use Rattle.theory_dissection.specs.Polygons.{tile_polygon}
use Rattle.theory_dissection.specs.TileEdges.{edge_of}
use Rattle.theory_dissection.proofs.Setting.{Setting}
use Rattle.theory_dissection.proofs.MovedStar.{MovedStar, star_of, three_vertices}
use Rattle.theory_dissection.proofs.Ahead.{Ahead}
use Rattle.theory_dissection.proofs.Positions.{ahead-self}
use Rattle.theory_dissection.proofs.StarEdges.{spot_of, from, to, fan-left}
use Rattle.theory_dissection.proofs.StarCount.{star-good}
use Rattle.theory_dissection.proofs.Apexes.{one_edge}
use Rattle.theory_dissection.proofs.OnlyOne.{end-is, kind_edge_below}
use Rattle.theory_dissection.proofs.AcrossTouches.{not_back}
use Rattle.theory_windows.specs.Distinct.{AreDistinct}
use Rattle.theory_windows.specs.OpenEdges.{edges_of_tile}
use Rattle.theory_windows.specs.Outlines.{PlaneEdge, edges, is_reverse}
use Rattle.theory_windows.specs.Meeting.{IsLeftFan}
use Rattle.theory_windows.proofs.Places.{distinct-places, fan-each}
use Rattle.theory_windows.proofs.KindEdges as kind
use Rattle.theory_windows.proofs.Reverses.{reverse-is}

-- the fan of the images of three or more points
fan-images : (S : Signed) {A : Type 0} (put : A → PlanePoint S.ops.carrier) (o : A) (vs : List A) → 3 ≤ length vs
    → ((i : ℕ) → suc (suc i) < length vs → turns_left S
    (record {
      a = put (get_or vs 0 o);
      b = put (get_or vs (suc i) o);
      c = put (get_or vs (suc (suc i)) o);
    }) ≡ true)
    → AllByRecursion (λ t. turns_left S t ≡ true) (fan (map put vs))
fan-images S put o [] three h = tt
fan-images S put o (a ∷ []) three h = tt
fan-images S put o (a ∷ (b ∷ vs)) three h = fan-each S put o a b vs (λ i l. h i (omega arith))

module _ (T : Setting) where
  open T use {points as P, laws as W, accepted.{rule as r, numbered as N, edge_to_edge as D}}

  abbrev A : Type 0
  A = P.ring.carrier

  abbrev S : Signed
  S = P.real

  -- where edge number e of a tile that f moves lies
  abbrev pub moved_line : (A → A) → Placed A → ℕ → PlaneEdge S
  moved_line f t e = record { from = plane_point P (f (edge_of P r t e).from); to = plane_point P (f (edge_of P r t e).to) }

  module _ (f : A → A) (keeps : Keeps P f) (t : Placed A) (hk : t.address.kind < length r.kinds) where
    abbrev put : A → PlanePoint S.ops.carrier
    put z = plane_point P (f (moved P t.motion z))

    put_keeps : Keeps P (λ z. f (moved P t.motion z))
    put_keeps = keeps-then P W f (moved P t.motion) keeps (motion-keeps P W t.motion)

    abbrev vs : List A
    vs = vertices_of r t.address.kind

    abbrev count : ℕ
    count = edge_count r t.address.kind

    -- ---- edges by their numbers
    pub lines : (e : ℕ) → e < count → slice_get (edges (tile_polygon P r f t)) e ≡ Some (moved_line f t e)
    lines = kind.lines T put t.address.kind hk

    pub numbered : (i : ℕ) → edges_of_tile S i (tile_polygon P r f t) ≡ below (λ e. record { tile = i; edge = e; line = moved_line f t e }) count
    numbered = kind.numbered T put t.address.kind hk

    pub line-among : (e : ℕ) → e < count → IsAmong (moved_line f t e) (edges (tile_polygon P r f t))
    line-among = kind.line-among T put t.address.kind hk

    pub line-number : (l : PlaneEdge S) → IsAmong l (edges (tile_polygon P r f t)) → (e : ℕ) × (e < count) × (l ≡ moved_line f t e)
    line-number = kind.line-number T put t.address.kind hk

    -- ---- a left fan
    abbrev star : MovedStar
    star = star_of T (λ z. f (moved P t.motion z)) put_keeps t.address.kind hk

    pub left_fan : IsLeftFan S (tile_polygon P r f t)
    left_fan = record {
      corners = let three = three_vertices T t.address.kind hk in subst (λ n. 2 < n) (sym (length-map vs put)) (omega arith);
      turns_left = fan-images S put (P.ring.int (pos 0)) vs (three_vertices T t.address.kind hk) (λ i l. ap is_gt (fan-left star i l));
      zero_or_one = λ p test. star-good star p (denominator_pos S W.of_real W.of_order p test);
    }

    -- ---- no edge is another, or the reverse of another
    along-own : (e : ℕ) → Ahead S (from star e) (to star e) (moved_line f t e).from (moved_line f t e).to
    along-own e =
        subst (λ z. Ahead S (from star e) z (moved_line f t e).from (moved_line f t e).to)
        (sym (end-is T (λ z. f (moved P t.motion z)) put_keeps t.address.kind e hk))
        (ahead-self S W.of_real W.of_order (moved_line f t e).from (moved_line f t e).to)

    one_number : (d e : ℕ) → d < count → e < count → moved_line f t d ≡ moved_line f t e → d ≡ e
    one_number d e hd he same =
        one_edge star d e (moved_line f t d).from (moved_line f t d).to
        (spot_of (length vs) d (kind_edge_below T t.address.kind d hk hd)) (spot_of (length vs) e (kind_edge_below T t.address.kind e hk he))
        (along-own d) (subst (λ (l : PlaneEdge S). Ahead S (from star e) (to star e) l.from l.to) (sym same) (along-own e))

    pub own_edges : AreDistinct (edges (tile_polygon P r f t))
    own_edges = distinct-places (edges (tile_polygon P r f t))
        (λ i j l a b. one_number i j (kind.number-below T put t.address.kind hk i l a)
        (kind.number-below T put t.address.kind hk j l b)
        (sym (kind.line-at T put t.address.kind hk i l a) ∙ kind.line-at T put t.address.kind hk j l b))

    pub no_return : (l m : PlaneEdge S) → IsAmong l (edges (tile_polygon P r f t))
        → IsAmong m (edges (tile_polygon P r f t)) → is_reverse S l m ≡ false
    no_return l m i j = false_from_ne_true _ (λ h. back (line-number l i) (line-number m j) h)
      where
        back : (d : ℕ) × (d < count) × (l ≡ moved_line f t d) → (e : ℕ) × (e < count) × (m ≡ moved_line f t e) → is_reverse S l m ≡ true → ⊥
        back d e h =
            let turned : moved_line f t e.0 ≡ record { from = (moved_line f t d.0).to; to = (moved_line f t d.0).from }
            = sym e.2 ∙ reverse-is S W.of_real W.of_order l m h ∙ ap (λ (x : PlaneEdge S). record { from = x.to; to = x.from }) d.2 in
            not_back T (λ z. f (moved P t.motion z)) put_keeps t.address.kind d.0 e.0 hk d.1 e.1
            (f (edge_of P r t d.0).from) (f (edge_of P r t d.0).to)
            (ahead-self S W.of_real W.of_order (moved_line f t d.0).from (moved_line f t d.0).to)
            (subst (λ (x : PlaneEdge S). Ahead S (moved_line f t e.0).from (moved_line f t e.0).to x.from x.to) turned
            (ahead-self S W.of_real W.of_order (moved_line f t e.0).from (moved_line f t e.0).to))
