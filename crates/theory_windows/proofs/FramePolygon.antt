-- The polygon of the frame at a depth is that of its tiles there.
use Rattle.std.proofs.Common.{◌≡◌, ◌⊎◌, inl, inr, ℕ, ◌<◌, ◌≤◌, Bool, true, false, cond, int_eq, List, length, pos, Some, refl, sym, ap, ◌∙◌, subst}
use Rattle.theory_ring.specs.Sign.{Signed}
use Rattle.theory_ring.proofs.Booleans.{equal_numbers}
use Rattle.theory_plane.specs.Plane.{TestPoint, IsTestPoint}
use Rattle.theory_plane.specs.Crossing.{member}
use Rattle.theory_plane.specs.Segment.{along}
use Rattle.theory_plane.specs.Box.{OpenBox}
use Rattle.theory_plane.proofs.Triangle.{denominator_pos}
use Rattle.theory_addresses.specs.Address.{Address, depth, top_kind, kind_at, Fits}
use Rattle.theory_addresses.specs.Tables.{Tables, child_kinds}
use Rattle.theory_addresses.specs.Search.{IsAmong}
use Rattle.theory_addresses.proofs.Chains.{chain_of, fits_of}
use Rattle.theory_addresses.proofs.Lists.{IsAmong-map}
use Rattle.theory_ring.specs.Ring.{power}
use Rattle.theory_substitution.specs.Plane.{plane_point, Keeps}
use Rattle.theory_substitution.specs.RuleParts.{edge_count}
use Rattle.theory_substitution.specs.Supertile.{Placed, supertile}
use Rattle.theory_edge_to_edge.specs.Contacts.{tables_of}
use Rattle.theory_edge_to_edge.specs.Edges.{lies_along}
use Rattle.theory_dissection.specs.Crossings.{IsCrossed, IsOutside}
use Rattle.theory_dissection.specs.Polygons.{tile_polygon}
use Rattle.theory_dissection.specs.TileEdges.{edge_of, supertile_edge, tile_at, image_of}
use Rattle.theory_dissection.proofs.Setting.{Setting, contacts-coherent}
use Rattle.theory_dissection.proofs.AcrossTouches.{same, traced-none}
use Rattle.theory_dissection.proofs.Carried.{crossing_law}
use Rattle.theory_dissection.proofs.Holder.{only_holder}
use Rattle.theory_dissection.proofs.Injective.{along_of, Along-image, along_from}
use Rattle.theory_dissection.proofs.OnlyOne.{exactly_one}
use Rattle.theory_dissection.proofs.RuleAddresses.{top_exists, lowest_exists, tile-among}
use Rattle.theory_frames.specs.Frame.{at_level, IsTileOf}
use Rattle.theory_frames.proofs.Frames.{at_level-depth, at_level-fits, kind_at-top, kind_at-level, top_is}
use Rattle.theory_windows.specs.Outlines.{PlaneEdge, edges, MeetsBox}
use Rattle.theory_windows.specs.GrowingPatch.{IsOfDepth, IsInner}
use Rattle.theory_windows.specs.GrownPolygon.{IsOnBoundaryAt, IsWholeOf}
use Rattle.theory_windows.specs.FramePatch.{growing_frame, frame_polygon, in_frame, tile_of_ancestor, line_of}
use Rattle.theory_windows.specs.FrameLaws.{IsEdgeInFrame}
use Rattle.theory_windows.proofs.Members.{some-counted}
use Rattle.theory_windows.proofs.KindEdges as kind
use Rattle.theory_windows.proofs.MovedTiles.{moved_line, line-among, line-number}
use Rattle.theory_windows.proofs.BoundaryMeets.{Met, boundary-met}
use Rattle.theory_windows.proofs.FramePatch.{frame_move, frame_keeps, moved_tile, outline-is}
use Rattle.theory_windows.proofs.Lifts.{rule-tile, named, Named, lift-named, fine-named}
use Rattle.theory_windows.proofs.FrameEdges.{line-in_frame, across-inner, inner-across}

module _ (T : Setting) where
  open T use {points as P, laws as W, accepted.{rule as r, numbered as N, edge_to_edge as D}}

  abbrev A : Type 0
  A = P.ring.carrier

  abbrev S : Signed
  S = P.real

  abbrev t : Tables
  t = tables_of P r

  abbrev children : List (List ℕ)
  children = child_kinds t

  module _ (f : Address) (fits : Fits children f) (refused : A → Bool) (n : ℕ) (within : n ≤ depth f) where
    abbrev k : ℕ
    k = top_kind (at_level f n)

    abbrev move : A → A
    move = frame_move T (at_level f n)

    keeps : Keeps P move
    keeps = frame_keeps T (at_level f n)

    hk : k < length r.kinds
    hk = top_exists T f.kind (at_level f n).digits (chain_of t (at_level f n) (at_level-fits f n within children fits).0)

    abbrev OfDepth : Placed A → Type 0
    OfDepth = IsOfDepth S (Placed A) (growing_frame P refused r f) n

    -- the outline that a tile of the supertile has in the frame
    outline-named : (a : Address) → depth a ≡ n → tile_polygon P r (λ z. z) (in_frame P r f a) ≡ tile_polygon P r move (tile_at P r a)
    outline-named a deep = subst (λ m. tile_polygon P r (λ z. z) (in_frame P r f a) ≡ tile_polygon P r
        (frame_move T (at_level f m)) (tile_at P r a)) deep
        (outline-is T (at_level f (depth a)) (tile_at P r a))

    -- a tile of the frame at its depth, as one of the supertile
    in-supertile : (a : Address) → IsTileOf children f a → depth a ≡ n → IsAmong (tile_at P r a) (supertile P r k n)
    in-supertile a tile deep =
        subst (λ m. IsAmong (tile_at P r a) (supertile P r k m)) deep
        (subst (λ j. IsAmong (tile_at P r a) (supertile P r j (depth a)))
        (top_is _ f a (rule-tile T f a tile) ∙ ap (λ m. top_kind (at_level f m)) deep)
        (tile-among T a (chain_of t a tile.fits)))

    -- ---- its points
    module _ (p : TestPoint S.ops.carrier) (test : IsTestPoint S p) where
      abbrev Held : Type 0
      Held = (u : Placed A) × OfDepth u × (member S (tile_polygon P r (λ z. z) u) p ≡ true)

      whole-tile : member S (frame_polygon P r f n) p ≡ true → Held
      whole-tile h =
          let s = only_holder T move keeps p (denominator_pos S W.of_real W.of_order p test) k n hk (equal_numbers _ (pos 1) h) in
          let i : IsAmong (moved_tile T (at_level f n) s.0) _
          = IsAmong-map (moved_tile T (at_level f n)) s.0 (supertile P r k (depth (at_level f n)))
          (subst (λ m. IsAmong s.0 (supertile P r k m)) (sym (at_level-depth f n within))
          s.1.holder.among) in
          let x : Named T f fits refused n within (tile_of_ancestor f (moved_tile T (at_level f n) s.0))
          = fine-named T f fits refused n within (moved_tile T (at_level f n) s.0) i in (
            in_frame P r f x.fine,
            subst (λ m. IsOfDepth S (Placed A) (growing_frame P refused r f) m (in_frame P r f x.fine)) x.deep (named T f fits refused x.fine x.tile),
            subst (λ (u : Placed A). member S (tile_polygon P r (λ z. z) u) p ≡ true) x.is
                (ap (λ vs. member S vs p) (outline-is T (at_level f n) s.0) ∙ ap (λ z. int_eq z (pos 1)) s.1.holder.holds),
          )

      tile-whole : Held → member S (frame_polygon P r f n) p ≡ true
      tile-whole x = by_number (member S (frame_polygon P r f n) p) refl
        where
          u : Named T f fits refused n within x.0
          u = lift-named T f fits refused n within x.0 x.1

          holds : member S (tile_polygon P r move (tile_at P r u.fine)) p ≡ true
          holds = sym (ap (λ vs. member S vs p) (ap (tile_polygon P r (λ z. z)) u.is ∙ outline-named u.fine u.deep)) ∙ x.2

          by_number : (b : Bool) → member S (frame_polygon P r f n) p ≡ b → member S (frame_polygon P r f n) p ≡ true
          by_number true e = e
          by_number false e =
              absurd (some-counted (λ v. member S (tile_polygon P r move v) p) (tile_at P r u.fine)
              (supertile P r k n) (in-supertile u.fine u.tile u.deep) holds
              (exactly_one T move keeps p (denominator_pos S W.of_real W.of_order p test) k n hk ∙ ap (λ b. cond b 1 0) e))

    -- ---- its edges
    -- edge number e of the polygon
    abbrev side : ℕ → PlaneEdge S
    side = kind.line T (λ z. plane_point P (move (P.ring.mul (power P.ring r.factor n) z))) k hk

    abbrev Inner : PlaneEdge S → Type 0
    Inner = IsInner S (Placed A) (growing_frame P refused r f) n

    abbrev AlongSide : PlaneEdge S → Type 0
    AlongSide e = (w : PlaneEdge S) × IsAmong w (edges (frame_polygon P r f n)) × (along S w.from w.to e.from e.to ≡ true)

    inner-or-along : (u : Placed A) → OfDepth u → (e : PlaneEdge S) → IsAmong e (edges (tile_polygon P r (λ z. z) u)) → Inner e ⊎ AlongSide e
    inner-or-along u h e i = by_tile (lift-named T f fits refused n within u h)
      where
        by_tile : Named T f fits refused n within u → Inner e ⊎ AlongSide e
        by_tile x = by_number (line-number T (λ z. z) (same T) (in_frame P r f x.fine)
            (lowest_exists T x.fine.kind x.fine.digits (chain_of t x.fine x.tile.fits)) e
            (subst (λ (v : Placed A). IsAmong e (edges (tile_polygon P r (λ z. z) v))) x.is i))
          where
            by_number : (g : ℕ) × (g < edge_count r x.fine.kind) × (e ≡ moved_line T (λ z. z) (in_frame P r f x.fine) g) → Inner e ⊎ AlongSide e
            by_number g = at_case (crossing_law P W T.accepted x.fine g.0 (record { fits = x.tile.fits; edge_exists = g.1 }))
              where
                at_case : IsCrossed P r x.fine g.0 ⊎ IsOutside P r x.fine g.0 → Inner e ⊎ AlongSide e
                at_case (inl c) = inl (subst Inner (sym g.2)
                    (subst (λ m. IsInner S (Placed A) (growing_frame P refused r f) m
                    (line_of P r (in_frame P r f x.fine) g.0)) x.deep
                    (across-inner T f x.fine g.0 (record { frame = fits; tile = x.tile; edge_exists = g.1 })
                    refused (tile_at P r c.other, c.edge, c.across.across))))
                at_case (inr o) =
                    let top : top_kind x.fine ≡ k = top_is _ f x.fine (rule-tile T f x.fine x.tile) ∙ ap (λ m. top_kind (at_level f m)) x.deep in
                    let in_supertile : lies_along P (supertile_edge P r k n o.edge) (edge_of P r (tile_at P r x.fine) g.0) ≡ true
                    = subst (λ m. lies_along P (supertile_edge P r k m o.edge) (edge_of P r (tile_at P r x.fine) g.0) ≡ true) x.deep
                    (subst (λ j. lies_along P (supertile_edge P r j (depth x.fine) o.edge)
                    (edge_of P r (tile_at P r x.fine) g.0) ≡ true) top o.boundary.along) in
                    let moved_along : along S (side o.edge).from (side o.edge).to
                    (moved_line T move (tile_at P r x.fine) g.0).from
                    (moved_line T move (tile_at P r x.fine) g.0).to ≡ true
                    = along_from P W (image_of P move (supertile_edge P r k n o.edge)) (image_of P move (edge_of P r (tile_at P r x.fine) g.0))
                    (Along-image P W move keeps (supertile_edge P r k n o.edge) (edge_of P r (tile_at P r x.fine) g.0)
                    (along_of P W (supertile_edge P r k n o.edge) (edge_of P r (tile_at P r x.fine) g.0) in_supertile)) in
                    inr (
                      side o.edge,
                      kind.line-among T (λ z. plane_point P (move (P.ring.mul (power P.ring r.factor n) z))) k
                          hk o.edge (subst (λ j. o.edge < edge_count r j) top o.boundary.edge_exists),
                      subst (λ (l : PlaneEdge S). along S (side o.edge).from (side o.edge).to l.from
                          l.to ≡ true) (sym (line-in_frame T f x.fine g.0 n x.deep) ∙ sym g.2) moved_along,
                    )

    -- ---- a side that meets a box
    module _ (box : OpenBox S.ops.carrier) (top : ℕ) (he : top < edge_count r k) (m : MeetsBox S box (side top)) where
      met : Met T box k n top move
      met = boundary-met T box n k top move keeps hk he m

      abbrev fine : Address
      fine = record { kind = met.kind; digits = met.digits }

      fine-fits : Fits children fine
      fine-fits = fits_of t met.kind met.digits (contacts-coherent T) met.chain

      fine-tile : IsTileOf children f fine
      fine-tile = record {
        fits = fine-fits;
        no_deeper = subst (λ j. j ≤ depth f) (sym met.deep) within;
        same_kind = kind_at-top met.kind met.digits ∙ ap Some met.top_is ∙ sym (kind_at-level f n within) ∙ ap (kind_at f) (sym met.deep);
      }

      in-frame : IsEdgeInFrame P T.accepted f fine met.edge
      in-frame = record { frame = fits; tile = fine-tile; edge_exists = met.edge_exists }

      side-boundary : (e : PlaneEdge S) × IsOnBoundaryAt S (Placed A) (growing_frame P refused r f) n e × MeetsBox S box e
      side-boundary = (
        line_of P r (in_frame P r f fine) met.edge,
        record {
          tile = in_frame P r f fine;
          of_depth = subst (λ j. IsOfDepth S (Placed A) (growing_frame P refused r f) j (in_frame P r f fine))
              met.deep (named T f fits refused fine fine-tile);
          of_tile = line-among T (λ z. z) (same T) (in_frame P r f fine) (lowest_exists T met.kind met.digits met.chain) met.edge met.edge_exists;
          not_inner = λ x.
              let c = inner-across T f fine met.edge in-frame refused
              (subst (λ j. IsInner S (Placed A) (growing_frame P refused r f) j
              (line_of P r (in_frame P r f fine) met.edge)) (sym met.deep) x) in
              absurd (traced-none T fine met.edge top met.cuts fine-fits met.edge_exists met.trace c.0 c.1 c.2);
        },
        subst (MeetsBox S box) (sym (line-in_frame T f fine met.edge n met.deep)) met.meets,
      )

    pub frame-whole : IsWholeOf S (Placed A) (growing_frame P refused r f) n (frame_polygon P r f n)
    frame-whole = record {
      holds = λ p test. (whole-tile p test, tile-whole p test);
      inner_or_along = inner-or-along;
      boundary_meets = λ box w i m.
          let e = kind.line-number T (λ z. plane_point P (move (P.ring.mul (power P.ring r.factor n) z))) k hk w i in
          side-boundary box e.0 e.1 (subst (MeetsBox S box) e.2 m);
    }
