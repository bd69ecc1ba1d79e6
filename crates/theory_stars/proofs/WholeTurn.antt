-- The theorem of the turn: a turn that comes back covers a small box round v, so it has all tiles with v on an edge of theirs.
use Rattle.std.specs.List.{AllByRecursion}
use Rattle.std.proofs.Common.{◌≡◌, ◌⊎◌, inl, inr, ℕ, suc, List, ◌∷◌, map, flat_map, pos, refl, sym, ap, ◌∙◌, subst, Bool, true, false}
use Rattle.theory_ring.specs.Ring.{Ops, Laws}
use Rattle.theory_ring.specs.Sign.{Signed, OrderLaws}
use Rattle.theory_ring.specs.Divisor.{DividesWhole}
use Rattle.theory_plane.specs.Plane.{PlanePoint}
use Rattle.theory_plane.specs.Segment.{on_segment}
use Rattle.theory_plane.specs.Box.{OpenBox, scaled}
use Rattle.theory_addresses.specs.Search.{IsAmong}
use Rattle.theory_addresses.proofs.Lists.{AllByRecursion-among, IsAmong-map}
use Rattle.theory_addresses.proofs.Ranges.{place-among}
use Rattle.theory_windows.specs.Distinct.{AreDistinct}
use Rattle.theory_windows.specs.Outlines.{PlaneEdge, edges, MeetsBox, is_reverse}
use Rattle.theory_windows.specs.Meeting.{PolygonMeetsBox}
use Rattle.theory_windows.specs.Patch.{Patch, HasAcross}
use Rattle.theory_windows.proofs.CoveredBox.{has_all}
use Rattle.theory_windows.proofs.Members.{among-map, goes-to}
use Rattle.theory_windows.proofs.Meeting.{polygon_meets}
use Rattle.theory_windows.proofs.Reverses.{reverse-turned}
use Rattle.theory_stars.specs.Corners.{Corner, IsCornerAt, IsNext, last_corner, IsTurn, corner_tiles}
use Rattle.theory_stars.specs.Round.{IsRound, IsSimplyDissected, TurnTheorem}
use Rattle.theory_stars.proofs.CornerNumbers.{some-same, out-edge, into-only, out-only}
use Rattle.theory_stars.proofs.Turning.{one-corner, turn-at, before, after, last-among, distinct-turn, distinct-tiles}
use Rattle.theory_stars.proofs.ScaledPatch.{both_ends, grown_edge, reverse-grown, grown_patch, from_edge, to_edge, grown-dissected}
use Rattle.theory_stars.proofs.SmallBox.{box_round, small_box, meets_round, start-on}

module _ (S : Signed) (L : Laws S.ops) (O : OrderLaws S) (whole : DividesWhole S) {T : Type 0} (P : Patch S T)
    (D : IsSimplyDissected S T P) (v : PlanePoint S.ops.carrier)
    (base : Corner T) (at_base : IsCornerAt S T P v base) (others : List (Corner T)) (turn : IsTurn S T P base others) where
  abbrev R : Ops
  R = S.ops

  abbrev corners : List (Corner T)
  corners = base ∷ others

  abbrev found : List T
  found = corner_tiles corners

  corner-at : (c : Corner T) → IsAmong c corners → IsCornerAt S T P v c
  corner-at c i = turn-at S L O P D v base others at_base turn.in_order c i

  corner-of : (t : T) → IsAmong t found → (c : Corner T) × IsAmong c corners × (t ≡ c.tile)
  corner-of t i = among-map (λ (c : Corner T). c.tile) t corners i

  tile-of : (c : Corner T) → IsAmong c corners → IsAmong c.tile found
  tile-of c i = IsAmong-map (λ (c : Corner T). c.tile) c corners i

  of_patch : (t : T) → IsAmong t found → IsAmong t P.tiles
  of_patch t i = let m = corner-of t i in subst (λ u. IsAmong u P.tiles) (sym m.2) (corner-at m.0 m.1).0

  tiles-distinct : AreDistinct found
  tiles-distinct = distinct-tiles S L O P D v corners corner-at (distinct-turn S L O P D v base others at_base turn.in_order turn.first_time)

  previous : (c : Corner T) → IsAmong c corners → (b : Corner T) × IsAmong b corners × IsNext S T P b c
  previous c (inl e) = (last_corner base others, last-among S L O P D v base others, subst (IsNext S T P (last_corner base others)) (sym e) turn.back)
  previous c (inr i) = before S L O P D v base others turn.in_order c i

  following : (c : Corner T) → IsAmong c corners → (d : Corner T) × IsAmong d corners × IsNext S T P c d
  following c i = after S L O P D v base base others turn.in_order turn.back c i

  -- ---- across each edge that contains v lies another tile of the turn
  across : (c : Corner T) → IsAmong c corners → (e : PlaneEdge S) → IsAmong e (edges (P.outline c.tile))
      → on_segment S e.from e.to v ≡ true → HasAcross S T P found e
  across c i e j on = at_case ((D.simple c.tile at_c.0).apart v (place-among v (P.outline c.tile) c.vertex at_c.1) e j on)
    where
      at_c : IsCornerAt S T P v c
      at_c = corner-at c i

      at_case : (e.from ≡ v) ⊎ (e.to ≡ v) → HasAcross S T P found e
      at_case (inl f) =
          let b = previous c i in
          let n : IsNext S T P b.0 c = b.2 in
          let same : n.out ≡ e = some-same n.out e
          (sym n.starts ∙ out-only (P.outline c.tile) c.vertex v (D.simple c.tile at_c.0).distinct at_c.1
          e j f) in (
            b.0.tile,
            n.into,
            tile-of b.0 b.1,
            place-among n.into (edges (P.outline b.0.tile)) _ n.ends,
            ap (λ d. is_reverse S d n.into) (sym same) ∙ reverse-turned S L O n.out n.into ∙ n.back,
          )
      at_case (inr f) =
          let d = following c i in
          let n : IsNext S T P c d.0 = d.2 in
          let same : n.into ≡ e = some-same n.into e
          (sym n.ends ∙ into-only (P.outline c.tile) c.vertex v (D.simple c.tile at_c.0).distinct at_c.1 e
          j f) in (
            d.0.tile,
            n.out,
            tile-of d.0 d.1,
            place-among n.out (edges (P.outline d.0.tile)) _ n.starts,
            ap (λ g. is_reverse S g n.out) (sym same) ∙ n.back,
          )

  -- ---- the small box
  abbrev all : List (PlaneEdge S)
  all = flat_map edges (map P.outline found)

  abbrev small : (n : ℕ) × AllByRecursion (λ e. on_segment S e.from e.to v ≡ false
      → MeetsBox S (box_round S L O v (R.int (pos (suc n)))) (both_ends (scaled R (R.int (pos (suc n)))) e)
      → ⊥) all
  small = small_box S L O v all

  abbrev n : ℕ
  n = small.0

  abbrev box : OpenBox R.carrier
  box = box_round S L O v (R.int (pos (suc n)))

  abbrev Q : Patch S T
  Q = grown_patch S L O n P D.dissected

  -- which of the edges of the turn's tiles meet it
  through : (t : T) → IsAmong t found → (e : PlaneEdge S) → IsAmong e (edges (P.outline t))
      → MeetsBox S box (grown_edge S L O n e) → on_segment S e.from e.to v ≡ true
  through t i e j m = at_test (on_segment S e.from e.to v) refl
    where
      at_test : (b : Bool) → on_segment S e.from e.to v ≡ b → on_segment S e.from e.to v ≡ true
      at_test true h = h
      at_test false h = absurd (AllByRecursion-among _ e all (goes-to P.outline edges e t found i j) small.1 h m)

  closed : (t : T) → IsAmong t found → (e : PlaneEdge S) → IsAmong e (edges (Q.outline t)) → MeetsBox S box e → HasAcross S T Q found e
  closed t i e j m = grown_across (from_edge S L O n P D.dissected t e j)
    where
      grown_across : (f : PlaneEdge S) × IsAmong f (edges (P.outline t)) × (e ≡ grown_edge S L O n f) → HasAcross S T Q found e
      grown_across f =
          let c = corner-of t i in
          let on : on_segment S f.0.from f.0.to v ≡ true = through t i f.0 f.1 (subst (MeetsBox S box) f.2 m) in
          let a : HasAcross S T P found f.0 = across c.0 c.1 f.0 (subst (λ u. IsAmong f.0 (edges (P.outline u))) c.2 f.1) on in (
            a.0,
            grown_edge S L O n a.1,
            a.2,
            to_edge S L O n P D.dissected a.0 a.1 a.3,
            ap (λ d. is_reverse S d (grown_edge S L O n a.1)) f.2 ∙ reverse-grown S L O n f.0 a.1 ∙ a.4,
          )

  -- a tile with v on an edge meets the box
  meets : (t : T) → IsAmong t P.tiles → (e : PlaneEdge S) → IsAmong e (edges (P.outline t))
      → on_segment S e.from e.to v ≡ true → PolygonMeetsBox S box (Q.outline t)
  meets t i e j on =
      polygon_meets S L O box (Q.outline t) ((grown-dissected S L O n P D.dissected).left_fan t i)
      (grown_edge S L O n e) (to_edge S L O n P D.dissected t e j) (meets_round S L O v n e on)

  meets-at : (c : Corner T) → IsCornerAt S T P v c → PolygonMeetsBox S box (Q.outline c.tile)
  meets-at c h =
      let e = out-edge (P.outline c.tile) c.vertex v h.1 in
      meets c.tile h.0 e.0 (place-among e.0 (edges (P.outline c.tile)) c.vertex e.1)
      (ap (on_segment S e.0.from e.0.to) (sym e.2) ∙ start-on S L O e.0.from e.0.to)

  -- each tile of the patch with v on an edge of it is one of the turn
  pub found-of-edge : (t : T) → IsAmong t P.tiles → (e : PlaneEdge S) → IsAmong e (edges (P.outline t))
      → on_segment S e.from e.to v ≡ true → IsAmong t found
  found-of-edge t i e j on =
      has_all S L O whole Q (grown-dissected S L O n P D.dissected) box found of_patch tiles-distinct closed
      base.tile (inl refl) (meets-at base at_base) t i (meets t i e j on)

  -- ---- and what lies across those edges is one of the turn
  pub across-of-edge : (t : T) → IsAmong t P.tiles → (e : PlaneEdge S) → IsAmong e (edges (P.outline t))
      → on_segment S e.from e.to v ≡ true → HasAcross S T P found e
  across-of-edge t i e j on =
      let c = corner-of t (found-of-edge t i e j on) in
      across c.0 c.1 e (subst (λ u. IsAmong e (edges (P.outline u))) c.2 j) on

  pub round : IsRound S T P v corners
  round = record {
    each_once = tiles-distinct;
    at_vertex = corner-at;
    all = λ c h.
        let e = out-edge (P.outline c.tile) c.vertex v h.1 in
        let m = corner-of c.tile (found-of-edge c.tile h.0 e.0
        (place-among e.0 (edges (P.outline c.tile)) c.vertex e.1)
        (ap (on_segment S e.0.from e.0.to) (sym e.2) ∙ start-on S L O e.0.from e.0.to)) in
        subst (λ d. IsAmong d corners) (sym (one-corner S L O P D v c m.0 h (corner-at m.0 m.1) m.2)) m.1;
  }

pub turn_theorem : (S : Signed) (L : Laws S.ops) (O : OrderLaws S) → DividesWhole S → {T : Type 0} → TurnTheorem S T
turn_theorem S L O whole P D v base at_base others turn = round S L O whole P D v base at_base others turn
