-- The edges of the frame's polygon that contain a point, and the edges of tiles on the boundary that do.
use Rattle.std.proofs.Common.{◌≡◌, ◌↔◌, ◌⊎◌, inl, inr, ℕ, suc, ◌<◌, ◌≤◌, List, [], ◌∷◌, flat_map, map, length, pos, Some, refl, sym, ap, ◌∙◌, subst, Bool, true, false, not, ◌&&◌}
use Rattle.std.specs.List.{AllByRecursion}
use Rattle.std.proofs.lemmas.Bool.{and_parts}
use Rattle.theory_ring.specs.Ring.{Ops, Laws, power}
use Rattle.theory_ring.specs.Sign.{Signed, OrderLaws}
use Rattle.theory_ring.proofs.Normaliser.{var, ring_from, ◌⊕◌, ◌⊗◌}
use Rattle.theory_ring.proofs.Signs.{nonneg_add, nonneg_mul, pos_nonneg}
use Rattle.theory_plane.specs.Plane.{PlanePoint}
use Rattle.theory_plane.specs.Box.{OpenBox, scaled}
use Rattle.theory_plane.specs.Segment.{on_segment, same_place, along, Between}
use Rattle.theory_plane.proofs.Segment.{between-turned}
use Rattle.theory_plane.proofs.OnSegment.{between-on_segment, on_segment-between}
use Rattle.theory_addresses.specs.Address.{Address, depth, top_kind, kind_at}
use Rattle.theory_addresses.specs.Search.{IsAmong}
use Rattle.theory_addresses.specs.Tables.{Tables, child_kinds}
use Rattle.theory_addresses.proofs.Chains.{chain_of, fits_of}
use Rattle.theory_addresses.proofs.Lists.{AllByRecursion-among, AllByRecursion-from}
use Rattle.theory_substitution.specs.Plane.{plane_point, Keeps}
use Rattle.theory_substitution.specs.RuleParts.{edge_count}
use Rattle.theory_substitution.specs.Supertile.{Placed}
use Rattle.theory_substitution.proofs.Keeping.{keeps-then}
use Rattle.theory_edge_to_edge.specs.Contacts.{tables_of}
use Rattle.theory_dissection.specs.Accepted.{NamesTile}
use Rattle.theory_dissection.specs.Polygons.{tile_polygon}
use Rattle.theory_dissection.specs.TileEdges.{tile_at}
use Rattle.theory_dissection.proofs.AcrossTouches.{same, traced-none}
use Rattle.theory_dissection.proofs.RuleAddresses.{top_exists, lowest_exists}
use Rattle.theory_dissection.proofs.Setting.{Setting, contacts-coherent}
use Rattle.theory_frames.specs.Frame.{at_level, frame_tiles, IsTileOf}
use Rattle.theory_frames.proofs.Frames.{at_level-fits, kind_at-top, kind_at-level}
use Rattle.theory_windows.specs.FrameLaws.{IsEdgeInFrame}
use Rattle.theory_windows.specs.FramePatch.{growing_frame, frame_polygon, in_frame, line_of}
use Rattle.theory_windows.specs.GrowingPatch.{IsOfDepth, IsInner}
use Rattle.theory_windows.specs.GrownPolygon.{IsWholeOf}
use Rattle.theory_windows.specs.Outlines.{PlaneEdge, edges, MeetsBox}
use Rattle.theory_windows.proofs.BoundaryMeets.{Met, boundary-met}
use Rattle.theory_windows.proofs.FrameEdges.{line-in_frame, inner-across}
use Rattle.theory_windows.proofs.FramePatch.{frame_move, frame_keeps}
use Rattle.theory_windows.proofs.FramePolygon.{frame-whole}
use Rattle.theory_windows.proofs.KindEdges as kind
use Rattle.theory_windows.proofs.Lifts.{named}
use Rattle.theory_windows.proofs.Members.{goes-to}
use Rattle.theory_windows.proofs.MovedTiles.{moved_line, line-among}
use Rattle.theory_stars.specs.EnoughAt.{IsEnoughAt, IsLeastEnoughAt}
use Rattle.theory_stars.specs.OnPolygon.{IsOffFrame, IsLeastOff}
use Rattle.theory_stars.proofs.ScaledPatch.{both_ends}
use Rattle.theory_stars.proofs.ScaledPoints.{times-scaled, times-keeps}
use Rattle.theory_stars.proofs.SmallBox.{box_round, small_box, meets_round}

module _ (S : Signed) (L : Laws S.ops) (O : OrderLaws S) where
  abbrev V : Ops
  V = S.ops

  -- a point of a segment's last part is on the segment
  last-part : (a c d p : PlanePoint V.carrier) → Between S a d c → Between S c d p → Between S a d p
  last-part a c d p h g = record {
    i = V.mul g.i h.i;
    j = V.add (V.mul g.i h.j) (V.mul g.j (V.add h.i h.j));
    i_nonneg = nonneg_mul S L O _ _ g.i_nonneg h.i_nonneg;
    j_nonneg = nonneg_add S L O _ _ (nonneg_mul S L O _ _ g.i_nonneg h.j_nonneg) (nonneg_mul S L O _ _ g.j_nonneg (pos_nonneg S L O _ h.some));
    some = ap S.sign (regroup g.i g.j h.i h.j) ∙ O.sign-mul _ _ g.some h.some;
    at_x = mean g.i g.j h.i h.j a.x d.x c.x p.x h.at_x g.at_x;
    at_y = mean g.i g.j h.i h.j a.y d.y c.y p.y h.at_y g.at_y;
  }
    where
      regroup : (k l i j : V.carrier) → V.add (V.mul k i) (V.add (V.mul k j) (V.mul l (V.add i j))) ≡ V.mul (V.add k l) (V.add i j)
      regroup k l i j = ring_from V L (k ∷ (l ∷ (i ∷ (j ∷ []))))
          (var 0 ⊗ var 2 ⊕ (var 0 ⊗ var 3 ⊕ var 1 ⊗ (var 2 ⊕ var 3))) ((var 0 ⊕ var 1) ⊗ (var 2 ⊕ var 3)) []
          tt refl

      mean : (k l i j a d c p : V.carrier) → V.mul (V.add i j) c ≡ V.add (V.mul i a) (V.mul j d) → V.mul (V.add k l) p ≡ V.add (V.mul k c) (V.mul l d)
          → V.mul (V.add (V.mul k i) (V.add (V.mul k j) (V.mul l (V.add i j)))) p ≡ V.add
          (V.mul (V.mul k i) a) (V.mul (V.add (V.mul k j) (V.mul l (V.add i j))) d)
      mean k l i j a d c p e f = ring_from V L (k ∷ (l ∷ (i ∷ (j ∷ (a ∷ (d ∷ (c ∷ (p ∷ []))))))))
          ((var 0 ⊗ var 2 ⊕ (var 0 ⊗ var 3 ⊕ var 1 ⊗ (var 2 ⊕ var 3))) ⊗ var 7)
          ((var 0 ⊗ var 2) ⊗ var 4 ⊕ (var 0 ⊗ var 3 ⊕ var 1 ⊗ (var 2 ⊕ var 3)) ⊗ var 5)
          ((var 0, (var 2 ⊕ var 3) ⊗ var 6, var 2 ⊗ var 4 ⊕ var 3 ⊗ var 5)
          ∷ ((var 2 ⊕ var 3, (var 0 ⊕ var 1) ⊗ var 7, var 0 ⊗ var 6 ⊕ var 1 ⊗ var 5) ∷ []))
          (e, (f, tt)) refl

  -- an edge along which one lies that contains v
  along-with : (v : PlanePoint V.carrier) (w e : PlaneEdge S) → along S w.from w.to e.from e.to ≡ true
      → on_segment S e.from e.to v ≡ true → on_segment S w.from w.to v ≡ true
  along-with v w e h on =
      let k = and_parts (not (same_place S e.from e.to) && on_segment S w.from w.to e.to) (on_segment S w.from e.to e.from) h in
      let l = and_parts (not (same_place S e.from e.to)) (on_segment S w.from w.to e.to) k.0 in
      let back : Between S w.from e.to v = last-part w.from e.from e.to v
      (between-on_segment S L O w.from e.to e.from k.1) (between-on_segment S L O e.from e.to v on) in
      let on_line : Between S w.to w.from v =
      last-part w.to e.to w.from v (between-turned S L O w.to w.from e.to
      (between-on_segment S L O w.from w.to e.to l.1)) (between-turned S L O e.to w.from v back) in
      on_segment-between S L O w.from w.to v (between-turned S L O w.from w.to v on_line)

module _ (T : Setting) where
  open T use {points as P, laws as W, accepted.{rule as r, numbered as N}}

  abbrev A : Type 0
  A = P.ring.carrier

  abbrev S : Signed
  S = P.real

  abbrev R : Ops
  R = S.ops

  abbrev t : Tables
  t = tables_of P r

  module _ (f : Address) (fits : NamesTile P r f) (refused : A → Bool) (v : PlanePoint R.carrier) (n : ℕ) (within : n ≤ depth f) where
    abbrev k : ℕ
    k = top_kind (at_level f n)

    abbrev move : A → A
    move = frame_move T (at_level f n)

    hk : k < length r.kinds
    hk = top_exists T f.kind (at_level f n).digits (chain_of t (at_level f n) (at_level-fits f n within (child_kinds t) fits).0)

    abbrev Inner : PlaneEdge S → Type 0
    Inner = IsInner S (Placed A) (growing_frame P refused r f) n

    abbrev whole : IsWholeOf S (Placed A) (growing_frame P refused r f) n (frame_polygon P r f n)
    whole = frame-whole T f fits refused n within

    abbrev Enough : Type 0
    Enough = IsEnoughAt S (Placed A) (growing_frame P refused r f) v n

    -- ---- off the polygon
    from-polygon : IsOffFrame P r f v n → Enough
    from-polygon off u h e i on = at_case (whole.inner_or_along u h e i)
      where
        at_case : Inner e ⊎ ((w : PlaneEdge S) × IsAmong w (edges (frame_polygon P r f n)) × (along S w.from w.to e.from e.to ≡ true)) → Inner e
        at_case (inl x) = x
        at_case (inr w) =
            absurd (cc (sym (along-with S W.of_real W.of_order v w.0 e w.2 on)
            ∙ AllByRecursion-among (λ (x : PlaneEdge S). on_segment S x.from x.to v ≡ false) w.0 (edges (frame_polygon P r f n)) w.1 off))

    -- ---- on the polygon: the plane is scaled so far that only edges that contain v meet the box round it
    abbrev all : List (PlaneEdge S)
    all = flat_map edges (map (tile_polygon P r (λ z. z)) (frame_tiles P r f))

    many : (m : ℕ) × AllByRecursion (λ e. on_segment S e.from e.to v ≡ false
        → MeetsBox S (box_round S W.of_real W.of_order v (R.int (pos (suc m)))) (both_ends (scaled R (R.int (pos (suc m)))) e) → ⊥) all
    many = small_box S W.of_real W.of_order v all

    module _ (m : ℕ) (far : AllByRecursion (λ e. on_segment S e.from e.to v ≡ false
        → MeetsBox S (box_round S W.of_real W.of_order v (R.int (pos (suc m)))) (both_ends (scaled R (R.int (pos (suc m)))) e) → ⊥) all) where
      abbrev box : OpenBox R.carrier
      box = box_round S W.of_real W.of_order v (R.int (pos (suc m)))

      abbrev times : A → A
      times z = P.ring.mul (P.ring.int (pos (suc m))) z

      abbrev grown : A → A
      grown z = times (move z)

      grown-keeps : Keeps P grown
      grown-keeps = keeps-then P W times move (times-keeps P W m) (frame_keeps T (at_level f n))

      grown-edge : (p q : A) → both_ends (scaled R (R.int (pos (suc m)))) (record { from = plane_point P (move p); to = plane_point P (move q) })
          ≡ record { from = plane_point P (grown p); to = plane_point P (grown q) }
      grown-edge p q = λ i. record { from = sym (times-scaled P W m (move p)) i; to = sym (times-scaled P W m (move q)) i }

      -- edge number e of the polygon
      abbrev side : ℕ → PlaneEdge S
      side = kind.line T (λ z. plane_point P (move (P.ring.mul (power P.ring r.factor n) z))) k hk

      module _ (top : ℕ) (he : top < edge_count r k) (on : on_segment S (side top).from (side top).to v ≡ true) where
        met : Met T box k n top grown
        met = boundary-met T box n k top grown grown-keeps hk he
            (subst (MeetsBox S box) (grown-edge _ _) (meets_round S W.of_real W.of_order v m (side top) on))

        abbrev fine : Address
        fine = record { kind = met.kind; digits = met.digits }

        fine-tile : IsTileOf (child_kinds t) f fine
        fine-tile = record {
          fits = fits_of t met.kind met.digits (contacts-coherent T) met.chain;
          no_deeper = subst (λ j. j ≤ depth f) (sym met.deep) within;
          same_kind = kind_at-top met.kind met.digits ∙ ap Some met.top_is ∙ sym (kind_at-level f n within) ∙ ap (kind_at f) (sym met.deep);
        }

        in-frame : IsEdgeInFrame P T.accepted f fine met.edge
        in-frame = record { frame = fits; tile = fine-tile; edge_exists = met.edge_exists }

        abbrev line : PlaneEdge S
        line = line_of P r (in_frame P r f fine) met.edge

        line-moved : line ≡ moved_line T move (tile_at P r fine) met.edge
        line-moved = line-in_frame T f fine met.edge n met.deep

        line-meets : MeetsBox S box (both_ends (scaled R (R.int (pos (suc m)))) line)
        line-meets = subst (λ (l : PlaneEdge S). MeetsBox S box
            (both_ends (scaled R (R.int (pos (suc m)))) l)) (sym line-moved)
            (subst (MeetsBox S box) (sym (grown-edge _ _)) met.meets)

        of-depth : IsOfDepth S (Placed A) (growing_frame P refused r f) n (in_frame P r f fine)
        of-depth = subst (λ j. IsOfDepth S (Placed A) (growing_frame P refused r f) j (in_frame P r f fine))
            met.deep (named T f fits refused fine fine-tile)

        of-tile : IsAmong line (edges (tile_polygon P r (λ z. z) (in_frame P r f fine)))
        of-tile = line-among T (λ z. z) (same T) (in_frame P r f fine) (lowest_exists T met.kind met.digits met.chain) met.edge met.edge_exists

        line-on : on_segment S line.from line.to v ≡ true
        line-on = at_test (on_segment S line.from line.to v) refl
          where
            at_test : (b : Bool) → on_segment S line.from line.to v ≡ b → on_segment S line.from line.to v ≡ true
            at_test true h = h
            at_test false h =
                absurd (AllByRecursion-among (λ e. on_segment S e.from e.to v ≡ false
                → MeetsBox S box (both_ends (scaled R (R.int (pos (suc m)))) e) → ⊥) line all
                (goes-to (tile_polygon P r (λ z. z)) edges line (in_frame P r f fine) (frame_tiles P r f) of-depth.0 of-tile) far h line-meets)

        contrary : Enough → ⊥
        contrary enough =
            let x = enough (in_frame P r f fine) of-depth line of-tile line-on in
            let c = inner-across T f fine met.edge in-frame refused
            (subst (λ j. IsInner S (Placed A) (growing_frame P refused r f) j line) (sym met.deep) x) in
            traced-none T fine met.edge top met.cuts fine-tile.fits met.edge_exists met.trace c.0 c.1 c.2

    to-polygon : Enough → IsOffFrame P r f v n
    to-polygon enough = AllByRecursion-from _ (edges (frame_polygon P r f n)) (λ w i. at_test w i (on_segment S w.from w.to v) refl)
      where
        at_test : (w : PlaneEdge S) → IsAmong w (edges (frame_polygon P r f n)) → (b : Bool)
            → on_segment S w.from w.to v ≡ b → on_segment S w.from w.to v ≡ false
        at_test w i false h = h
        at_test w i true h =
            let e = kind.line-number T (λ z. plane_point P (move (P.ring.mul (power P.ring r.factor n) z))) k hk w i in
            absurd (contrary many.0 many.1 e.0 e.1 (subst (λ (l : PlaneEdge S). on_segment S l.from l.to v ≡ true) e.2 h) enough)

    pub frame-off : Enough ↔ IsOffFrame P r f v n
    frame-off = (to-polygon, from-polygon)

  pub frame-least : (f : Address) → NamesTile P r f → (refused : A → Bool) (v : PlanePoint R.carrier) (m n : ℕ) → n ≤ depth f
      → IsLeastEnoughAt S (Placed A) (growing_frame P refused r f) v m n → IsLeastOff P r f v m n
  frame-least f fits refused v m n within h = record {
    not_below = h.not_below;
    within = within;
    off = (frame-off f fits refused v n within).0 h.enough;
    least = λ k l w off. h.least k l ((frame-off f fits refused v k w).1 off);
  }
