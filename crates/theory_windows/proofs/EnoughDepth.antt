-- An enough depth has each tile that meets the window.
use Rattle.std.proofs.Common.{ℕ, ◌≤◌, List}
use Rattle.std.specs.Prelude.{leb}
use Rattle.std.specs.List.{filter}
use Rattle.std.proofs.lemmas.Bool.{leb-true, le-leb}
use Rattle.theory_ring.specs.Ring.{Ops, Laws}
use Rattle.theory_ring.specs.Sign.{Signed, OrderLaws}
use Rattle.theory_ring.specs.Divisor.{DividesWhole}
use Rattle.theory_plane.specs.Plane.{PlanePoint}
use Rattle.theory_plane.specs.Box.{OpenBox, scaled, EdgeMeetsBox}
use Rattle.theory_plane.proofs.Segment.{between-turned}
use Rattle.theory_plane.proofs.OnSegment.{between-on_segment, on_segment-between}
use Rattle.theory_addresses.specs.Search.{IsAmong}
use Rattle.theory_windows.specs.Outlines.{PlaneEdge, edges, MeetsBox}
use Rattle.theory_windows.specs.Meeting.{PolygonMeetsBox}
use Rattle.theory_windows.specs.Patch.{Patch, IsDissected, IsClosed}
use Rattle.theory_windows.specs.GrowingPatch.{GrowingPatch, IsOfDepth, IsInner}
use Rattle.theory_windows.specs.EnoughDepth.{IsEnough}
use Rattle.theory_windows.specs.PatchWindow.{PatchWindow}
use Rattle.theory_windows.specs.Refusals.{AllDrawn}
use Rattle.theory_addresses.proofs.Lists.{AllByRecursion-from}
use Rattle.theory_windows.proofs.Members.{distinct-filter}
use Rattle.theory_windows.proofs.Meeting.{polygon_meets}
use Rattle.theory_windows.proofs.Window.{has_all}
use Rattle.theory_addresses.proofs.Filters.{IsAmong-filter, IsAmong-kept}

module _ (S : Signed) (L : Laws S.ops) (O : OrderLaws S) (whole : DividesWhole S) where
  abbrev R : Ops
  R = S.ops

  pub meets-turned : (box : OpenBox R.carrier) (a b : PlanePoint R.carrier) → EdgeMeetsBox S a b box → EdgeMeetsBox S b a box
  meets-turned box a b m = (
    m.0,
    m.1,
    m.2,
    on_segment-between S L O (scaled R m.0.d b) (scaled R m.0.d a) (record { x = m.0.x; y = m.0.y })
        (between-turned S L O (scaled R m.0.d b) (scaled R m.0.d a) (record { x = m.0.x; y = m.0.y })
        (between-on_segment S L O (scaled R m.0.d a) (scaled R m.0.d b) (record { x = m.0.x; y = m.0.y })
        m.3)),
  )

  module _ {T : Type 0} (G : PatchWindow S T) where
    abbrev F : GrowingPatch S T
    F = G.growing

    abbrev P : Patch S T
    P = G.growing.patch

    abbrev D : IsDissected S T P
    D = G.dissected

    abbrev Meets : T → Type 0
    Meets t = PolygonMeetsBox S G.box (P.outline t)

    -- a tile with an edge that meets the window meets it
    pub tile-meets : (t : T) → IsAmong t P.tiles → (e : PlaneEdge S) → IsAmong e (edges (P.outline t)) → MeetsBox S G.box e → Meets t
    tile-meets t i e j m = polygon_meets S L O G.box (P.outline t) (D.left_fan t i) e j m

    -- ---- an enough depth has each tile that meets the window
    module _ (n : ℕ) (E : IsEnough S T F G.box n) where
      abbrev of_depth : List T
      of_depth = filter (λ t. leb (F.level t) n) P.tiles

      depth-among : (t : T) → IsOfDepth S T F n t → IsAmong t of_depth
      depth-among t h = IsAmong-kept (λ t. leb (F.level t) n) t P.tiles h.0 (le-leb (F.level t) n h.1)

      among-depth : (t : T) → IsAmong t of_depth → IsOfDepth S T F n t
      among-depth t i = let m = IsAmong-filter (λ t. leb (F.level t) n) t P.tiles i in (m.0, leb-true (F.level t) n m.1)

      depth-closed : IsClosed S T P G.box of_depth
      depth-closed = record {
        of_patch = AllByRecursion-from _ of_depth (λ t i. (among-depth t i).0);
        distinct = distinct-filter (λ t. leb (F.level t) n) P.tiles D.distinct;
        holds_centre = (E.holds_centre.0, depth-among E.holds_centre.0 E.holds_centre.1, E.holds_centre.2);
        closed = AllByRecursion-from _ of_depth (λ t i. AllByRecursion-from _ (edges (P.outline t)) (λ e j m.
            let u : IsInner S T F n e = E.none_on_boundary t (among-depth t i) e j m in (u.0, u.1, depth-among u.0 u.2, u.3, u.4)));
      }

      pub enough_holds_all : (t : T) → IsAmong t P.tiles → Meets t → F.level t ≤ n
      enough_holds_all t i m = (among-depth t (has_all S L O whole P D G.box of_depth depth-closed G.wide G.high t i m)).1

  pub all_drawn : {T : Type 0} → AllDrawn S T
  all_drawn G n E drawn d t i m = (d.meeting t (i, enough_holds_all G n E t i m)).0 m
