-- Where an edge that is cut into parts in order meets an open box, one of the parts does.
use Rattle.std.proofs.Common.{◌≡◌, inl, inr, ℕ, ◌≤◌, List, [], ◌∷◌, length, map, refl, sym, ap, ◌∙◌, subst, arith}
use Rattle.std.specs.List.{filter}
use Rattle.theory_ring.specs.Ring.{Ops}
use Rattle.theory_ring.specs.Sign.{Signed}
use Rattle.theory_plane.specs.Plane.{PlanePoint}
use Rattle.theory_plane.specs.Segment.{on_segment}
use Rattle.theory_plane.specs.Box.{OpenBox, EdgeMeetsBox}
use Rattle.theory_addresses.specs.Search.{IsAmong}
use Rattle.theory_addresses.proofs.Filters.{kept_one}
use Rattle.theory_substitution.specs.Plane.{plane_point, Keeps}
use Rattle.theory_edge_to_edge.specs.Edges.{Edge, PlacedEdge}
use Rattle.theory_edge_to_edge.proofs.CutParts.{AreParts, begins_at}
use Rattle.theory_dissection.proofs.Setting.{Setting}
use Rattle.theory_dissection.proofs.Injective.{Along, Along-image}
use Rattle.theory_windows.specs.CutEdges.{AreCuts, last_from, PartMeets}
use Rattle.theory_windows.proofs.CutEdges.{cuts_meet}

module _ (T : Setting) (box : OpenBox T.points.real.ops.carrier) where
  open T use {points as P, laws as W, accepted.{rule as r, numbered as N, edge_to_edge as D}}

  abbrev A : Type 0
  A = P.ring.carrier

  abbrev K : Ops
  K = P.ring

  abbrev S : Signed
  S = P.real

  -- f takes a point to the plane
  abbrev pub put : (A → A) → A → PlanePoint S.ops.carrier
  put f z = plane_point P (f z)

  -- where f takes the edge, it meets the box
  abbrev pub Meets : (A → A) → Edge A → Type 0
  Meets f e = EdgeMeetsBox S (put f e.from) (put f e.to) box

  -- ---- the parts of a whole, moved by g
  module _ (g : A → A) (g_keeps : Keeps P g) (whole : Edge A) (on : List (PlacedEdge A)) where
    abbrev ends : List (PlacedEdge A) → List (PlanePoint S.ops.carrier)
    ends ss = map (λ (s : PlacedEdge A). put g s.line.to) ss

    -- the first part begins where it is to
    begins : (p : A) (s : PlacedEdge A) → filter (begins_at P p) on ≡ s ∷ [] → s.line.from ≡ p
    begins p s h = W.same-is s.line.from p (kept_one (begins_at P p) s on h).1

    are-cuts : (types : List ℕ) (p : A) (ss : List (PlacedEdge A)) → AreParts P on whole.to types p ss
        → ((s : PlacedEdge A) → IsAmong s ss → Along P W whole s.line)
        → AreCuts S (put g whole.from) (put g p) (ends ss)
    are-cuts [] p [] h along = tt
    are-cuts [] p (s ∷ ss) h along = elim h [ ]
    are-cuts (ty ∷ types) p [] h along = elim h [ ]
    are-cuts (ty ∷ types) p (s ∷ ss) h along = (
      ap (λ (z : A). on_segment S (put g whole.from) (put g s.line.to) (put g z)) (sym (begins p s h.0))
          ∙ (Along-image P W g g_keeps whole s.line (along s (inl refl))).start_on,
      are-cuts types s.line.to ss h.2 (λ u i. along u (inr i)),
    )

    to-end : (types : List ℕ) (p : A) (ss : List (PlacedEdge A)) → AreParts P on whole.to types p ss → last_from (put g p) (ends ss) ≡ put g whole.to
    to-end [] p [] h = ap (put g) h
    to-end [] p (s ∷ ss) h = elim h [ ]
    to-end (ty ∷ types) p [] h = elim h [ ]
    to-end (ty ∷ types) p (s ∷ ss) h = to-end types s.line.to ss h.2

    meeting-part : (types : List ℕ) (p : A) (ss : List (PlacedEdge A)) → AreParts P on whole.to types p ss → PartMeets S box (put g p) (ends ss)
        → (s : PlacedEdge A) × IsAmong s ss × Meets g s.line
    meeting-part types p [] h m = elim m [ ]
    meeting-part [] p (s ∷ ss) h m = elim h [ ]
    meeting-part (ty ∷ types) p (s ∷ ss) h (inl m)
        = (
          s,
          inl refl,
          subst (λ (z : A). EdgeMeetsBox S (put g z) (put g s.line.to) box)
              (sym (begins p s h.0)) m,
        )
    meeting-part (ty ∷ types) p (s ∷ ss) h (inr m) = let k = meeting-part types s.line.to ss h.2 m in (k.0, inr k.1, k.2)

    pub some-part : (types : List ℕ) (ss : List (PlacedEdge A)) → 1 ≤ length types
        → AreParts P on whole.to types whole.from ss
        → ((s : PlacedEdge A) → IsAmong s ss → Along P W whole s.line)
        → Meets g whole → (s : PlacedEdge A) × IsAmong s ss × Meets g s.line
    some-part [] ss some h along m = absurd (omega arith)
    some-part (ty ∷ types) [] some h along m = elim h [ ]
    some-part (ty ∷ types) (s ∷ ss) some h along m =
        meeting-part (ty ∷ types) whole.from (s ∷ ss) h
        ((cuts_meet S W.of_real W.of_order box (put g whole.from) (put g s.line.to) (ends ss)
        (are-cuts types s.line.to ss h.2 (λ u i. along u (inr i)))).0
        (subst (λ z. EdgeMeetsBox S (put g whole.from) z box) (sym (to-end types s.line.to ss h.2)) m))
