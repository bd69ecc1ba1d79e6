-- The base of a frame with one of its vertices, where the turn comes back to it, and where it is stopped.
use Rattle.std.proofs.Common.{◌≡◌, ◌↔◌, ℕ, ◌<◌, ◌≤◌, Bool, List, [], ◌∷◌, ◌++◌, length, take, drop, slice_get, Some, pos, refl, sym, ap, ◌∙◌, subst, arith}
use Rattle.std.proofs.lemmas.List.{append_cancel_right, take_all, take-append-drop}
use Rattle.std.proofs.lemmas.Option.{slice_get-get_or}
use Rattle.theory_ring.specs.Sign.{Signed}
use Rattle.theory_ring.proofs.Normaliser.{var, con, ring, ◌⊕◌, ◌⊗◌}
use Rattle.theory_plane.specs.Plane.{PlanePoint}
use Rattle.theory_addresses.specs.Address.{Address, depth}
use Rattle.theory_addresses.specs.Tables.{child_kinds}
use Rattle.theory_addresses.proofs.Chains.{chain_of}
use Rattle.theory_addresses.proofs.Ranges.{slice_get-image}
use Rattle.theory_substitution.specs.Motion.{moved, still}
use Rattle.theory_substitution.specs.Placement.{placement}
use Rattle.theory_substitution.specs.Plane.{plane_point}
use Rattle.theory_substitution.specs.RuleParts.{vertices_of, edge_count, vertex}
use Rattle.theory_substitution.specs.Supertile.{Placed}
use Rattle.theory_edge_to_edge.specs.Contacts.{tables_of}
use Rattle.theory_dissection.specs.Accepted.{NamesTile}
use Rattle.theory_dissection.specs.OnBoundary.{IsOnBoundary}
use Rattle.theory_dissection.specs.Polygons.{tile_polygon}
use Rattle.theory_dissection.specs.TileEdges.{tile_at}
use Rattle.theory_dissection.proofs.Glue.{some_order}
use Rattle.theory_dissection.proofs.RuleAddresses.{lowest_exists}
use Rattle.theory_dissection.proofs.Setting.{Setting}
use Rattle.theory_frames.specs.Frame.{at_level, IsTileOf, lifted_in, motion_beside}
use Rattle.theory_frames.proofs.Frames.{placement-turn, at_level-depth, at_level-fits}
use Rattle.theory_frames.proofs.Group.{followed-back}
use Rattle.theory_windows.specs.FrameLaws.{IsEdgeInFrame}
use Rattle.theory_windows.specs.FramePatch.{frame_patch, growing_frame, level_in, in_frame, line_of}
use Rattle.theory_windows.specs.Outlines.{edges}
use Rattle.theory_windows.proofs.CarriedFrames.{lines_law}
use Rattle.theory_windows.proofs.GrownCrossings.{last-boundary}
use Rattle.theory_windows.proofs.Lifts.{named}
use Rattle.theory_windows.proofs.Renamed.{further, at-depth}
use Rattle.theory_stars.specs.Corners.{Corner, IsCornerAt, edge_into}
use Rattle.theory_stars.specs.EnoughAt.{IsEnoughAt}
use Rattle.theory_stars.specs.FrameStar.{corner_named}
use Rattle.theory_stars.specs.GrownStar.{IsCornerOfDepth}
use Rattle.theory_stars.proofs.FrameStar.{count-is}
use Rattle.theory_stars.proofs.GrownStar.{depth_cause}
use Rattle.theory_stars.proofs.SimpleFrame.{simply_dissected}
use Rattle.theory_stars.proofs.Turning.{one-corner}

module _ (T : Setting) where
  open T use {points as P, laws as W, accepted.{rule as r, numbered as N}}

  abbrev A : Type 0
  A = P.ring.carrier

  abbrev S : Signed
  S = P.real

  still-moves : (z : A) → moved P (still P) z ≡ z
  still-moves z = ring P.ring W.of_ring (z ∷ []) (con (pos 1) ⊗ var 0 ⊕ con (pos 0)) (var 0) refl

  module _ (f : Address) (fits : NamesTile P r f) where
    kind-exists : f.kind < length r.kinds
    kind-exists = lowest_exists T f.kind f.digits (chain_of (tables_of P r) f fits)

    -- ---- the base
    module _ (n : ℕ) (within : n ≤ depth f) where
      own-tile : IsTileOf (child_kinds (tables_of P r)) f (at_level f n)
      own-tile =
          subst (λ a. IsTileOf (child_kinds (tables_of P r)) a (at_level f n)) whole
          (further T f fits n (depth f) within (omega arith) (at_level f n)
          (record { fits = (at_level-fits f n within (child_kinds (tables_of P r)) fits).0; no_deeper = omega arith; same_kind = refl }))
        where
          whole : at_level f (depth f) ≡ f
          whole = λ i. record { kind = f.kind; digits = take_all (depth f) f.digits (omega arith) i }

      base-still : (in_frame P r f (at_level f n)).motion ≡ still P
      base-still =
          ap (λ m. motion_beside P r (at_level f m).digits (at_level f n).digits) (at_level-depth f n within)
          ∙ followed-back P W (placement P r (at_level f n).digits) (placement-turn P W (some_order T) r (at_level f n).digits)

      base-lifted : lifted_in f (at_level f n) ≡ f
      base-lifted = λ i. record {
        kind = f.kind;
        digits = (ap (λ m. take n f.digits ++ drop m f.digits) (at_level-depth f n within)
            ∙ take-append-drop n f.digits) i;
      }

      base-is : in_frame P r f (at_level f n) ≡ record { address = f; motion = still P }
      base-is = λ i. record { address = base-lifted i; motion = base-still i }

      pub frame-base : (refused : A → Bool) (i : ℕ) → i < edge_count r f.kind
          → IsCornerOfDepth S (Placed A) (growing_frame P refused r f) (plane_point P (vertex P r f.kind i)) n (corner_named P r f (at_level f n) i)
      frame-base refused i h =
          let x = named T f fits refused (at_level f n) own-tile in (
            (x.0, corner),
            subst (λ m. level_in f (lifted_in f (at_level f n)) ≤ m) (at_level-depth f n within) x.1,
          )
        where
          vs : List A
          vs = vertices_of r f.kind

          corner : slice_get (tile_polygon P r (λ z. z) (in_frame P r f (at_level f n))) i ≡ Some (plane_point P (vertex P r f.kind i))
          corner =
              slice_get-image (λ z. plane_point P (moved P (in_frame P r f (at_level f n)).motion z)) (vertex P r f.kind i) (vertices_of r f.kind) i
              (slice_get-get_or (vertices_of r f.kind) i (P.ring.int (pos 0)) (let e = N.vertex_each f.kind kind-exists in omega arith))
              ∙ ap (λ z. Some (plane_point P z)) (ap (λ g. moved P g (vertex P r f.kind i)) base-still ∙ still-moves (vertex P r f.kind i))

    pub frame-back : (v : PlanePoint S.ops.carrier) (m n : ℕ) → m ≤ depth f → n ≤ depth f → (b : Address) (g i : ℕ) → depth b ≡ n
        → IsCornerAt S (Placed A) (frame_patch P r f) v (corner_named P r f b g)
        → IsCornerAt S (Placed A) (frame_patch P r f) v (corner_named P r f (at_level f m) i)
        → (b ≡ at_level f n) ↔ (corner_named P r f b g ≡ corner_named P r f (at_level f m) i)
    frame-back v m n wm wn b g i deep hb hm = (to, from)
      where
        to : b ≡ at_level f n → corner_named P r f b g ≡ corner_named P r f (at_level f m) i
        to e =
            one-corner S W.of_real W.of_order (frame_patch P r f) (simply_dissected T f fits) v
            (corner_named P r f b g) (corner_named P r f (at_level f m) i) hb hm
            (ap (in_frame P r f) e ∙ base-is n wn ∙ sym (base-is m wm))

        from : corner_named P r f b g ≡ corner_named P r f (at_level f m) i → b ≡ at_level f n
        from e = λ j. record { kind = (same j).kind; digits = digits j }
          where
            same : lifted_in f b ≡ lifted_in f (at_level f n)
            same = ap (λ (c : Corner (Placed A)). c.tile.address) e ∙ base-lifted m wm ∙ sym (base-lifted n wn)

            digits : b.digits ≡ take n f.digits
            digits = append_cancel_right b.digits (take n f.digits) (drop n f.digits)
                (ap (λ k. b.digits ++ drop k f.digits) (sym deep) ∙ ap (λ (a : Address). a.digits) same
                ∙ ap (λ k. take n f.digits ++ drop k f.digits) (at_level-depth f n wn))

    -- ---- where it is stopped
    pub frame-stop : (refused : A → Bool) (v : PlanePoint S.ops.carrier) (a : Address) (i : ℕ)
        → IsEdgeInFrame P T.accepted f a (edge_into (edge_count r a.kind) i)
        → IsCornerAt S (Placed A) (frame_patch P r f) v (corner_named P r f a i)
        → (own part : ℕ) → IsOnBoundary P r (tile_at P r (lifted_in f a)) (edge_into (edge_count r a.kind) i) own part
        → IsEnoughAt S (Placed A) (growing_frame P refused r f) v (depth f) → ⊥
    frame-stop refused v a i h at own part on enough =
        absurd (depth_cause S W.of_real W.of_order (growing_frame P refused r f) v (depth f)
        (corner_named P r f a i) (at, at-depth T f fits (in_frame P r f a) at.0)
        (line_of P r (in_frame P r f a) (edge_into (edge_count r a.kind) i))
        (ap (λ k. slice_get (edges (tile_polygon P r (λ z. z) (in_frame P r f a))) (edge_into k i)) (count-is T (in_frame P r f a) kind-a)
        ∙ lines_law P W T.accepted (in_frame P r f a) kind-a (edge_into (edge_count r a.kind) i) h.edge_exists)
        (λ x. absurd (last-boundary T f fits refused a (edge_into (edge_count r a.kind) i) h own part on x.0
        (record { of_patch = x.2.0; edge = x.1; among = x.3; back = x.4 }))) enough)
      where
        kind-a : a.kind < length r.kinds
        kind-a = lowest_exists T a.kind a.digits (chain_of (tables_of P r) a h.tile.fits)
