-- Edges of the tiles of a frame: across from one another as in the supertile, and on the boundary as there.
use Rattle.std.proofs.Common.{◌≡◌, ◌⊎◌, inl, inr, ℕ, ◌<◌, ◌≤◌, Bool, true, List, length, Some, refl, sym, ap, ◌∙◌, subst}
use Rattle.std.proofs.lemmas.Bool.{and_from}
use Rattle.theory_ring.specs.Sign.{Signed}
use Rattle.theory_plane.specs.Plane.{PlanePoint}
use Rattle.theory_plane.specs.Segment.{same_place}
use Rattle.theory_addresses.specs.Address.{Address, depth, top_kind, kind_at}
use Rattle.theory_addresses.specs.Tables.{Tables, child_kinds}
use Rattle.theory_addresses.specs.Search.{IsAmong}
use Rattle.theory_addresses.proofs.Chains.{IsChain, chain_of, fits_of}
use Rattle.theory_substitution.specs.Plane.{plane_point, Keeps}
use Rattle.theory_substitution.specs.Motion.{moved, followed}
use Rattle.theory_substitution.specs.RuleParts.{edge_count, vertex, next}
use Rattle.theory_substitution.specs.Supertile.{Placed, supertile}
use Rattle.theory_substitution.proofs.Motions.{moved-followed}
use Rattle.theory_edge_to_edge.specs.Contacts.{tables_of}
use Rattle.theory_edge_to_edge.proofs.LieCases.{same_place-self}
use Rattle.theory_dissection.specs.Across.{RunsBack, IsTileAcross}
use Rattle.theory_dissection.specs.Crossings.{IsCrossed, IsOutside}
use Rattle.theory_dissection.specs.OnBoundary.{IsOnBoundary}
use Rattle.theory_dissection.specs.Polygons.{tile_polygon}
use Rattle.theory_dissection.specs.TileEdges.{IsTileBeside, edge_of, tile_at}
use Rattle.theory_dissection.proofs.Setting.{Setting, contacts-coherent}
use Rattle.theory_dissection.proofs.AcrossTouches.{same}
use Rattle.theory_dissection.proofs.BoundaryTrace.{boundary-none}
use Rattle.theory_dissection.proofs.Carried.{crossing_law}
use Rattle.theory_dissection.proofs.Injective.{keeps-injective}
use Rattle.theory_dissection.proofs.Members.{member}
use Rattle.theory_dissection.proofs.RuleAddresses.{top_exists, lowest_exists, tile-among}
use Rattle.theory_frames.specs.Frame.{at_level, IsTileOf}
use Rattle.theory_frames.proofs.Frames.{kind_at-top, top_is}
use Rattle.theory_windows.specs.Outlines.{PlaneEdge, edges, is_reverse}
use Rattle.theory_windows.specs.GrowingPatch.{IsOfDepth, IsInner}
use Rattle.theory_windows.specs.FramePatch.{growing_frame, in_frame, line_of}
use Rattle.theory_windows.specs.FrameLaws.{IsEdgeInFrame}
use Rattle.theory_windows.proofs.Reverses.{reverse-is}
use Rattle.theory_windows.proofs.MovedTiles.{moved_line, line-among, line-number, no_return}
use Rattle.theory_windows.proofs.FramePatch.{frame_back, frame_move, frame_keeps}
use Rattle.theory_windows.proofs.Lifts.{rule-tile, named, Named, lift-named}

module _ (T : Setting) where
  open T use {points as P, laws as W, accepted.{rule as r, numbered as N, edge_to_edge as D}}

  abbrev A : Type 0
  A = P.ring.carrier

  abbrev S : Signed
  S = P.real

  abbrev t : Tables
  t = tables_of P r

  abbrev children : List (List ℕ)
  children = child_kinds t

  -- ---- edges that a map moves
  module _ (f : A → A) (u v : Placed A) (d e : ℕ) where
    pub reverse-moved : RunsBack (edge_of P r u d) (edge_of P r v e) → is_reverse S (moved_line T f u d) (moved_line T f v e) ≡ true
    reverse-moved h = and_from _ _
        (ap (λ z. same_place S (plane_point P (f z)) (plane_point P (f (edge_of P r u d).to))) h.from_end
        ∙ same_place-self P W (f (edge_of P r u d).to))
        (ap (λ z. same_place S (plane_point P (f z)) (plane_point P (f (edge_of P r u d).from))) h.to_start
        ∙ same_place-self P W (f (edge_of P r u d).from))

    moved-reverse : Keeps P f → is_reverse S (moved_line T f u d) (moved_line T f v e) ≡ true → RunsBack (edge_of P r u d) (edge_of P r v e)
    moved-reverse keeps h =
        let turned : moved_line T f v e ≡ record { from = (moved_line T f u d).to; to = (moved_line T f u d).from }
        = reverse-is S W.of_real W.of_order (moved_line T f u d) (moved_line T f v e) h in
        record {
          from_end = one (edge_of P r v e).from (edge_of P r u d).to (ap (λ (l : PlaneEdge S). l.from) turned);
          to_start = one (edge_of P r v e).to (edge_of P r u d).from (ap (λ (l : PlaneEdge S). l.to) turned);
        }
      where
        one : (x y : A) → plane_point P (f x) ≡ plane_point P (f y) → x ≡ y
        one x y k = keeps-injective P W f keeps x y
            (W.separate (f x) (f y) (ap (λ (z : PlanePoint S.ops.carrier). z.x) k)
            (ap (λ (z : PlanePoint S.ops.carrier). z.y) k))

  -- a line in the frame is the motion back's of the line in the supertile
  pub line-in_frame : (f a : Address) (e n : ℕ) → depth a ≡ n
      → line_of P r (in_frame P r f a) e ≡ moved_line T (frame_move T (at_level f n)) (tile_at P r a) e
  line-in_frame f a e n deep =
      subst (λ k. line_of P r (in_frame P r f a) e ≡ moved_line T (frame_move T (at_level f k)) (tile_at P r a) e) deep
      (λ i. record { from = plane_point P (through (vertex P r a.kind e) i); to = plane_point P (through (vertex P r a.kind (next r a.kind e)) i) })
    where
      through : (z : A) → moved P (followed P (tile_at P r a).motion (frame_back T (at_level f (depth a))))
          z ≡ moved P (frame_back T (at_level f (depth a))) (moved P (tile_at P r a).motion z)
      through z = moved-followed P W (tile_at P r a).motion (frame_back T (at_level f (depth a))) z

  -- ---- an edge of a tile of a frame
  module _ (f a : Address) (e : ℕ) (h : IsEdgeInFrame P T.accepted f a e) where
    chain : IsChain t a.kind a.digits
    chain = chain_of t a h.tile.fits

    hk : a.kind < length r.kinds
    hk = lowest_exists T a.kind a.digits chain

    abbrev move : A → A
    move = frame_move T (at_level f (depth a))

    -- a tile of the same supertile, by its address
    pub record Beside (b : Placed A) : Type 0 where
      pub is : b ≡ tile_at P r b.address
      pub tile : IsTileOf children f b.address
      pub deep : depth b.address ≡ depth a
      pub kind_exists : b.address.kind < length r.kinds

    pub beside : (b : Placed A) → IsTileBeside P r a b → Beside b
    beside b i =
        let m = member T (top_kind a) (depth a) (top_exists T a.kind a.digits chain) b i in
        record {
          is = λ j. record { address = b.address; motion = m.motion_is j };
          tile = record {
            fits = fits_of t b.address.kind b.address.digits (contacts-coherent T) m.tile.chain;
            no_deeper = subst (λ k. k ≤ depth f) (sym m.depth_is) h.tile.no_deeper;
            same_kind = kind_at-top b.address.kind b.address.digits ∙ ap Some m.tile.top
                ∙ sym (kind_at-top a.kind a.digits) ∙ h.tile.same_kind ∙ ap (kind_at f) (sym m.depth_is);
          };
          deep = m.depth_is;
          kind_exists = m.tile.kind_exists;
        }

    pub reverse_law : (b : Address) (g : ℕ) → IsTileAcross P r (tile_at P r a) e (tile_at P r b) g
        → is_reverse S (line_of P r (in_frame P r f a) e) (line_of P r (in_frame P r f b) g) ≡ true
    reverse_law b g across =
        (λ i. is_reverse S (line-in_frame f a e (depth a) refl i) (line-in_frame f b g (depth a) (beside (tile_at P r b) across.beside).deep i))
        ∙ reverse-moved move (tile_at P r a) (tile_at P r b) e g across.runs_back

    module _ (refused : A → Bool) where
      abbrev Inner : Type 0
      Inner = IsInner S (Placed A) (growing_frame P refused r f) (depth a) (line_of P r (in_frame P r f a) e)

      abbrev Across : Type 0
      Across = (b : Placed A) × (g : ℕ) × IsTileAcross P r (tile_at P r a) e b g

      pub across-inner : Across → Inner
      across-inner x =
          let b = beside x.0 x.2.beside in
          let across : IsTileAcross P r (tile_at P r a) e (tile_at P r x.0.address) x.1 = subst
          (λ (u : Placed A). IsTileAcross P r (tile_at P r a) e u x.1) b.is x.2 in (
            in_frame P r f x.0.address,
            line_of P r (in_frame P r f x.0.address) x.1,
            subst (λ n. IsOfDepth S (Placed A) (growing_frame P refused r f) n (in_frame P r f x.0.address))
                b.deep (named T f h.frame refused x.0.address b.tile),
            line-among T (λ z. z) (same T) (in_frame P r f x.0.address) b.kind_exists x.1 x.2.edge_exists,
            reverse_law x.0.address x.1 across,
          )

      named-across : (b : Address) → IsTileOf children f b → depth b ≡ depth a → (m : PlaneEdge S)
          → IsAmong m (edges (tile_polygon P r (λ z. z) (in_frame P r f b)))
          → is_reverse S (line_of P r (in_frame P r f a) e) m ≡ true → Across
      named-across b tile deep m i back = (
        tile_at P r b,
        g.0,
        record {
          own = tile-among T a chain;
          beside = subst (λ n. IsAmong (tile_at P r b) (supertile P r (top_kind a) n)) deep
              (subst (λ k. IsAmong (tile_at P r b) (supertile P r k (depth b))) same_top (tile-among T b chain-b));
          other = not_own;
          edge_exists = g.1;
          runs_back = runs;
        },
      )
        where
          chain-b : IsChain t b.kind b.digits
          chain-b = chain_of t b tile.fits

          same_top : top_kind b ≡ top_kind a
          same_top = top_is _ f b (rule-tile T f b tile) ∙ ap (λ k. top_kind (at_level f k)) deep ∙ sym (top_is _ f a (rule-tile T f a h.tile))

          g : (g : ℕ) × (g < edge_count r b.kind) × (m ≡ moved_line T (λ z. z) (in_frame P r f b) g)
          g = line-number T (λ z. z) (same T) (in_frame P r f b) (lowest_exists T b.kind b.digits chain-b) m i

          turned : is_reverse S (moved_line T move (tile_at P r a) e) (moved_line T move (tile_at P r b) g.0) ≡ true
          turned =
              sym (λ j. is_reverse S (line-in_frame f a e (depth a) refl j) (line-in_frame f b g.0 (depth a) deep j))
              ∙ ap (is_reverse S (line_of P r (in_frame P r f a) e)) (sym g.2) ∙ back

          runs : RunsBack (edge_of P r (tile_at P r a) e) (edge_of P r (tile_at P r b) g.0)
          runs = moved-reverse move (tile_at P r a) (tile_at P r b) e g.0 (frame_keeps T (at_level f (depth a))) turned

          not_own : b ≡ a → ⊥
          not_own one = cc (sym turned ∙ ap (λ (x : Address). is_reverse S
              (moved_line T move (tile_at P r a) e) (moved_line T move (tile_at P r x) g.0)) one
              ∙ no_return T move (frame_keeps T (at_level f (depth a))) (tile_at P r a) hk _ _
              (line-among T move (frame_keeps T (at_level f (depth a))) (tile_at P r a) hk e h.edge_exists)
              (line-among T move (frame_keeps T (at_level f (depth a))) (tile_at P r a) hk g.0
              (subst (λ (x : Address). g.0 < edge_count r x.kind) one g.1)))

      pub inner-across : Inner → Across
      inner-across x =
          let u : Named T f h.frame refused (depth a) h.tile.no_deeper x.0 = lift-named T f h.frame refused (depth a) h.tile.no_deeper x.0 x.2 in
          named-across u.fine u.tile u.deep x.1 (subst (λ (v : Placed A). IsAmong x.1 (edges (tile_polygon P r (λ z. z) v))) u.is x.3) x.4

      -- ---- on the boundary
      pub outer-boundary : (Inner → ⊥) → (own : ℕ) × (part : ℕ) × IsOnBoundary P r (tile_at P r a) e own part
      outer-boundary outer = at_case (crossing_law P W T.accepted a e (record { fits = h.tile.fits; edge_exists = h.edge_exists }))
        where
          at_case : IsCrossed P r a e ⊎ IsOutside P r a e → (own : ℕ) × (part : ℕ) × IsOnBoundary P r (tile_at P r a) e own part
          at_case (inl c) = absurd (outer (across-inner (tile_at P r c.other, c.edge, c.across.across)))
          at_case (inr o) = (o.edge, o.part, o.boundary)

      pub boundary-outer : (own part : ℕ) → IsOnBoundary P r (tile_at P r a) e own part → Inner → ⊥
      boundary-outer own part on x = let c = inner-across x in boundary-none T a e own part h.tile.fits h.edge_exists on c.0 c.1 c.2
