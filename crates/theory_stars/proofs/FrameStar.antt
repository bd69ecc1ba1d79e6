-- The turn round a vertex in a frame: the next corner, and what is gone round at the frame's depth.
use Rattle.std.proofs.Common.{◌≡◌, inl, inr, ℕ, ◌<◌, ◌≤◌, max, Bool, true, List, [], ◌∷◌, map, length, slice_get, Some, refl, sym, ap, ◌∙◌, subst}
use Rattle.std.specs.List.{AllByRecursion}
use Rattle.std.proofs.lemmas.List.{length-map}
use Rattle.theory_ring.specs.Sign.{Signed}
use Rattle.theory_plane.specs.Plane.{PlanePoint}
use Rattle.theory_addresses.specs.Address.{Address, depth}
use Rattle.theory_addresses.specs.Search.{IsAmong}
use Rattle.theory_addresses.specs.Tables.{child_kinds}
use Rattle.theory_addresses.proofs.Chains.{chain_of}
use Rattle.theory_addresses.proofs.Lists.{AllByRecursion-among, IsAmong-map}
use Rattle.theory_substitution.specs.RuleParts.{vertices_of, edge_count}
use Rattle.theory_substitution.specs.Supertile.{Placed}
use Rattle.theory_edge_to_edge.specs.Contacts.{tables_of}
use Rattle.theory_dissection.specs.Accepted.{NamesTile}
use Rattle.theory_dissection.specs.Polygons.{tile_polygon}
use Rattle.theory_dissection.specs.TileEdges.{tile_at}
use Rattle.theory_dissection.proofs.Setting.{Setting}
use Rattle.theory_dissection.proofs.RuleAddresses.{lowest_exists}
use Rattle.theory_frames.specs.Frame.{at_level, frame_tiles, IsTileOf, lifted_in}
use Rattle.theory_windows.specs.Distinct.{AreDistinct}
use Rattle.theory_windows.specs.GrowingPatch.{IsOfDepth}
use Rattle.theory_windows.specs.FramePatch.{frame_patch, growing_frame, level_in, tile_of_ancestor, in_frame, line_of}
use Rattle.theory_windows.specs.FrameLaws.{IsEdgeInFrame}
use Rattle.theory_windows.specs.FrameSearch.{IsGrownCrossing}
use Rattle.theory_windows.specs.Outlines.{edges, is_reverse}
use Rattle.theory_windows.proofs.CarriedFrames.{lift_law, lines_law}
use Rattle.theory_windows.proofs.FrameDrawn.{fine-deep, lifted-one}
use Rattle.theory_windows.proofs.FrameEdges.{beside, reverse_law}
use Rattle.theory_windows.proofs.GrownCrossings.{grown-crossing}
use Rattle.theory_windows.proofs.Members.{among-map}
use Rattle.theory_windows.proofs.Renamed.{lifted-tile, renamed, further}
use Rattle.theory_stars.specs.Corners.{Corner, IsCornerAt, edge_into, IsNext, Turns, last_corner, IsTurn, corner_tiles}
use Rattle.theory_stars.specs.GrownStar.{IsCornerOfDepth, IsStar}
use Rattle.theory_stars.specs.FrameStar.{corner_named, lifted_corner, AreOfDepth, IsFrameStar, AreAtVertex}

module _ (T : Setting) where
  open T use {points as P, laws as W, accepted.{rule as r, numbered as N}}

  abbrev A : Type 0
  A = P.ring.carrier

  abbrev S : Signed
  S = P.real

  abbrev CornerOf : Type 0
  CornerOf = Corner (Placed A)

  -- an outline has as many vertices as the kind has edges
  pub count-is : (t : Placed A) → t.address.kind < length r.kinds → length (tile_polygon P r (λ z. z) t) ≡ edge_count r t.address.kind
  count-is t hk = length-map (vertices_of r t.address.kind) _ ∙ N.vertex_each t.address.kind hk

  module _ (f : Address) (fits : NamesTile P r f) (refused : A → Bool) where
    -- ---- at depth n
    module _ (n : ℕ) (within : n ≤ depth f) where
      abbrev Fine : Placed A → Type 0
      Fine x = IsAmong x (frame_tiles P r (at_level f n))

      OfDepth : Placed A → Type 0
      OfDepth = IsOfDepth S (Placed A) (growing_frame P refused r f) n

      -- a tile of depth n is of the frame there where it is of depth n lifted
      of-fine : (x : Placed A) → depth x.address ≡ n → IsOfDepth S (Placed A) (growing_frame P refused r f) n (tile_of_ancestor f x) → Fine x
      of-fine x deep h =
          let u = (lift_law P W T.accepted f fits refused n within (tile_of_ancestor f x)).0 h in
          subst Fine (sym (lifted-one T f fits refused n within x u.0 deep (fine-deep T f fits refused n within u.0 u.1) u.2)) u.1

      to-depth : (x : Placed A) → Fine x → IsOfDepth S (Placed A) (growing_frame P refused r f) n (tile_of_ancestor f x)
      to-depth x i = (lift_law P W T.accepted f fits refused n within (tile_of_ancestor f x)).1 (x, i, refl)

      corner-one : (c d : CornerOf) → depth c.tile.address ≡ n → depth d.tile.address ≡ n → lifted_corner f c ≡ lifted_corner f d → c ≡ d
      corner-one c d g h e = λ i. record { tile = same i; vertex = (e i).vertex }
        where
          same : c.tile ≡ d.tile
          same = lifted-one T f fits refused n within c.tile d.tile g h (ap (λ (b : CornerOf). b.tile) e)

      module _ (v : PlanePoint S.ops.carrier) where
        abbrev AtFine : CornerOf → Type 0
        AtFine = IsCornerAt S (Placed A) (frame_patch P r (at_level f n)) v

        abbrev AtDepth : CornerOf → Type 0
        AtDepth = IsCornerOfDepth S (Placed A) (growing_frame P refused r f) v n

        corner-fine : (c : CornerOf) → depth c.tile.address ≡ n → AtDepth (lifted_corner f c) → AtFine c
        corner-fine c deep h = (of-fine c.tile deep (h.0.0, h.1), h.0.1)

        corner-depth : (c : CornerOf) → AtFine c → AtDepth (lifted_corner f c)
        corner-depth c h = let k = to-depth c.tile h.0 in ((k.0, h.1), k.1)

        -- ---- a star
        tiles-distinct : (cs : List CornerOf) → AreDistinct (corner_tiles (map (lifted_corner f) cs)) → AreDistinct (corner_tiles cs)
        tiles-distinct [] d = tt
        tiles-distinct (c ∷ cs) d = (λ i. absurd (d.0 (among cs i)), tiles-distinct cs d.1)
          where
            among : (bs : List CornerOf) → IsAmong c.tile (corner_tiles bs)
                → IsAmong (tile_of_ancestor f c.tile) (corner_tiles (map (lifted_corner f) bs))
            among [] i = elim i [ ]
            among (b ∷ bs) (inl e) = inl (ap (tile_of_ancestor f) e)
            among (b ∷ bs) (inr i) = inr (among bs i)

        next-fine : (c d : CornerOf) → depth d.tile.address ≡ n → AtDepth (lifted_corner f d)
            → IsNext S (Placed A) (frame_patch P r f) (lifted_corner f c) (lifted_corner f d)
            → IsNext S (Placed A) (frame_patch P r (at_level f n)) c d
        next-fine c d deep at x = record {
          into = x.into;
          out = x.out;
          of_patch = (corner-fine d deep at).0;
          ends = x.ends;
          starts = x.starts;
          back = x.back;
        }

        turns-fine : (c : CornerOf) (ds : List CornerOf) → AreOfDepth n ds → ((d : CornerOf) → IsAmong d ds → AtDepth (lifted_corner f d))
            → Turns S (Placed A) (frame_patch P r f) (lifted_corner f c) (map (lifted_corner f) ds)
            → Turns S (Placed A) (frame_patch P r (at_level f n)) c ds
        turns-fine c [] deep at t = tt
        turns-fine c (d ∷ ds) deep at t = (next-fine c d deep.0 (at d (inl refl)) t.0, turns-fine d ds deep.1 (λ b i. at b (inr i)) t.1)

        last-lifted : (c : CornerOf) (ds : List CornerOf)
            → last_corner (lifted_corner f c) (map (lifted_corner f) ds) ≡ lifted_corner f (last_corner c ds)
        last-lifted c [] = refl
        last-lifted c (d ∷ ds) = last-lifted d ds

        module _ (m : ℕ) (base : CornerOf) (others : List CornerOf) (deep : AreOfDepth n (base ∷ others))
            (star : IsStar S (Placed A) (growing_frame P refused r f) v m n (map (lifted_corner f) (base ∷ others)))
            (turn : IsTurn S (Placed A) (frame_patch P r f) (lifted_corner f base) (map (lifted_corner f) others)) where
          abbrev all : List CornerOf
          all = base ∷ others

          deep-one : (c : CornerOf) → IsAmong c all → depth c.tile.address ≡ n
          deep-one c i = AllByRecursion-among (λ (b : CornerOf). depth b.tile.address ≡ n) c all i deep

          at-depth : (c : CornerOf) → IsAmong c all → AtDepth (lifted_corner f c)
          at-depth c i = (star.exactly (lifted_corner f c)).1 (IsAmong-map (lifted_corner f) c all i)

          found : (c : CornerOf) → AtFine c → IsAmong c all
          found c h =
              let x = among-map (lifted_corner f) (lifted_corner f c) all ((star.exactly (lifted_corner f c)).0 (corner-depth c h)) in
              subst (λ b. IsAmong b all) (sym (corner-one c x.0 (fine-deep T f fits refused n within c.tile h.0) (deep-one x.0 x.1) x.2)) x.1

          pub frame-star : IsFrameStar P r (at_level f n) v base others
          frame-star = record {
            round = record {
              each_once = tiles-distinct all star.each_once;
              at_vertex = λ c i. corner-fine c (deep-one c i) (at-depth c i);
              all = found;
            };
            turn = record {
              in_order = turns-fine base others deep.1 (λ d i. at-depth d (inr i)) turn.in_order;
              back = next-fine (last_corner base others) base deep.0 (at-depth base (inl refl))
                  (subst (λ c. IsNext S (Placed A) (frame_patch P r f) c (lifted_corner f base)) (last-lifted base others) turn.back);
              first_time = λ i. absurd (turn.first_time (IsAmong-map (lifted_corner f) base others i));
            };
          }

        -- ---- corners
        pub record FineCorners (corners : List CornerOf) : Type 0 where
          pub fine : List CornerOf
          pub are : map (lifted_corner f) fine ≡ corners
          pub each : AllByRecursion AtFine fine

        fine-corners : (corners : List CornerOf) → AllByRecursion AtDepth corners → FineCorners corners
        fine-corners [] h = record { fine = []; are = refl; each = tt }
        fine-corners (c ∷ cs) h =
            let u = (lift_law P W T.accepted f fits refused n within c.tile).0 (h.0.0.0, h.0.1) in
            let more = fine-corners cs h.1 in
            record {
              fine = record { tile = u.0; vertex = c.vertex } ∷ more.fine;
              are = λ i. record { tile = sym u.2 i; vertex = c.vertex } ∷ more.are i;
              each = ((u.1, subst (λ (t : Placed A). slice_get (tile_polygon P r (λ z. z) t) c.vertex ≡ Some v) u.2 h.0.0.1), more.each);
            }

        pub frame-corners : (corners : List CornerOf) → AreDistinct (corner_tiles corners) → AllByRecursion AtDepth corners
            → (fine : List CornerOf) × (length fine ≡ length corners) × AreAtVertex P r (at_level f n) v fine
        frame-corners corners d h =
            let u = fine-corners corners h in (
              u.fine,
              sym (length-map u.fine (lifted_corner f)) ∙ ap length u.are,
              record { distinct = tiles-distinct u.fine (subst (λ cs. AreDistinct (corner_tiles cs)) (sym u.are) d); each = u.each },
            )

    -- ---- the next corner
    module _ (m n : ℕ) (a : Address) (i : ℕ) (b : Address) (g : ℕ)
        (c : IsGrownCrossing P T.accepted f m n a (edge_into (edge_count r a.kind) i) b g) where
      abbrev e : ℕ
      e = edge_into (edge_count r a.kind) i

      at-n : IsAmong (in_frame P r f b) (frame_tiles P r f)
      at-n = (grown-crossing T f fits refused m n a e b g c).0.of_patch

      kind-a : a.kind < length r.kinds
      kind-a = lowest_exists T a.kind a.digits (chain_of (tables_of P r) a c.tile.fits)

      at-level : IsTileOf (child_kinds (tables_of P r)) (at_level f n) a
      at-level = further T f fits m n c.not_below c.within a c.tile

      here : IsEdgeInFrame P T.accepted f (lifted_in (at_level f n) a) e
      here = record { frame = fits; tile = lifted-tile T f fits n c.within a at-level; edge_exists = c.edge_exists }

      kind-b : b.kind < length r.kinds
      kind-b = (beside T f (lifted_in (at_level f n) a) e here (tile_at P r b) c.across.beside).kind_exists

      back-over : is_reverse S (line_of P r (in_frame P r f a) e) (line_of P r (in_frame P r f b) g) ≡ true
      back-over =
          subst (λ (u : Placed A). is_reverse S (line_of P r u e) (line_of P r (in_frame P r f b) g) ≡ true) (renamed T f fits n c.within a at-level)
          (reverse_law T f (lifted_in (at_level f n) a) e here b g c.across)

      pub frame-next : IsNext S (Placed A) (frame_patch P r f) (corner_named P r f a i)
          (corner_named P r f b g) × (max m (level_in f (lifted_in f b)) ≡ n)
      frame-next = (
        record {
          into = line_of P r (in_frame P r f a) e;
          out = line_of P r (in_frame P r f b) g;
          of_patch = at-n;
          ends = ap (λ k. slice_get (edges (tile_polygon P r (λ z. z) (in_frame P r f a))) (edge_into k i))
              (count-is (in_frame P r f a) kind-a) ∙ lines_law P W T.accepted (in_frame P r f a) kind-a e
              c.edge_exists;
          starts = lines_law P W T.accepted (in_frame P r f b) kind-b g c.across.edge_exists;
          back = back-over;
        },
        (grown-crossing T f fits refused m n a e b g c).1,
      )
