-- A depth is enough exactly where the patch's polygon holds the centre and none of its edges meets the window.
use Rattle.std.proofs.Common.{◌≡◌, ◌⊎◌, inl, inr, ℕ, true, not, ◌&&◌, refl}
use Rattle.std.proofs.lemmas.Bool.{and_parts}
use Rattle.theory_ring.specs.Ring.{Laws}
use Rattle.theory_ring.specs.Sign.{Signed, OrderLaws}
use Rattle.theory_plane.specs.Plane.{IsTestPoint, test_point}
use Rattle.theory_plane.specs.Segment.{on_segment, same_place, along}
use Rattle.theory_plane.specs.Box.{OpenBox}
use Rattle.theory_addresses.specs.Search.{IsAmong}
use Rattle.theory_windows.specs.Outlines.{PlaneEdge, Polygon, edges, MeetsBox}
use Rattle.theory_windows.specs.GrowingPatch.{GrowingPatch, IsInner}
use Rattle.theory_windows.specs.EnoughDepth.{IsEnough}
use Rattle.theory_windows.specs.GrownPolygon.{IsOnBoundaryAt, IsWholeOf, HoldsWindow, EnoughByPolygon}
use Rattle.theory_addresses.proofs.Lists.{AllByRecursion-among, AllByRecursion-from}
use Rattle.theory_windows.proofs.CutEdges.{cut_meets}

module _ (S : Signed) (L : Laws S.ops) (O : OrderLaws S) (box : OpenBox S.ops.carrier) where
  -- an edge meets the box where one that lies along it does
  along-meets : (w e : PlaneEdge S) → along S w.from w.to e.from e.to ≡ true → MeetsBox S box e → MeetsBox S box w
  along-meets w e h m =
      let k = and_parts (not (same_place S e.from e.to) && on_segment S w.from w.to e.to) (on_segment S w.from e.to e.from) h in
      let l = and_parts (not (same_place S e.from e.to)) (on_segment S w.from w.to e.to) k.0 in
      (cut_meets S L O box w.from w.to e.to l.1).1 (inl ((cut_meets S L O box w.from e.to e.from k.1).1 (inr m)))

  module _ {T : Type 0} (F : GrowingPatch S T) (n : ℕ) (whole : Polygon S) (W : IsWholeOf S T F n whole) where
    centre-test : IsTestPoint S (test_point S.ops box.centre)
    centre-test = (0, refl)

    to-polygon : IsEnough S T F box n → HoldsWindow S box whole
    to-polygon E = record {
      holds_centre = (W.holds (test_point S.ops box.centre) centre-test).1 E.holds_centre;
      none_meets = AllByRecursion-from _ (edges whole) (λ w i m.
          let b = W.boundary_meets box w i m in
          let e : IsOnBoundaryAt S T F n b.0 = b.1 in
          e.not_inner (E.none_on_boundary e.tile e.of_depth b.0 e.of_tile b.2));
    }

    from-polygon : HoldsWindow S box whole → IsEnough S T F box n
    from-polygon H = record {
      holds_centre = (W.holds (test_point S.ops box.centre) centre-test).0 H.holds_centre;
      none_on_boundary = λ t h e i m. at_case e m (W.inner_or_along t h e i);
    }
      where
        at_case : (e : PlaneEdge S) → MeetsBox S box e → IsInner S T F n e
            ⊎ ((w : PlaneEdge S) × IsAmong w (edges whole) × (along S w.from w.to e.from e.to ≡ true))
            → IsInner S T F n e
        at_case e m (inl k) = k
        at_case e m (inr w) = absurd (AllByRecursion-among (λ v. ¬ MeetsBox S box v) w.0 (edges whole) w.1 H.none_meets (along-meets w.0 e w.2 m))

pub enough_by_polygon : (S : Signed) (L : Laws S.ops) (O : OrderLaws S) → {T : Type 0} → EnoughByPolygon S T
enough_by_polygon S L O F box n whole W = (to-polygon S L O box F n whole W, from-polygon S L O box F n whole W)
