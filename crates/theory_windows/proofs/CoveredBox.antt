-- Tiles, closed across their edges that meet a box, cover the box as soon as one of them has a point in it.
use Rattle.std.specs.List.{AllByRecursion}
use Rattle.std.proofs.Common.{◌≡◌, inl, inr, ℕ, List, [], ◌∷◌, map, flat_map, pos, refl, sym, ap, ◌∙◌, subst, true}
use Rattle.theory_ring.specs.Ring.{Ops, Laws}
use Rattle.theory_ring.specs.Sign.{Signed, OrderLaws}
use Rattle.theory_ring.specs.Divisor.{DividesWhole}
use Rattle.theory_plane.specs.Plane.{TestPoint, IsTestPoint}
use Rattle.theory_plane.specs.Crossing.{count, member}
use Rattle.theory_plane.specs.Box.{OpenBox, in_box}
use Rattle.theory_addresses.specs.Search.{IsAmong}
use Rattle.theory_addresses.proofs.Lists.{AllByRecursion-from}
use Rattle.theory_dissection.specs.Sums.{number_of}
use Rattle.theory_dissection.proofs.Sums.{sum-map}
use Rattle.theory_dissection.proofs.ZeroOrOne.{sum-number}
use Rattle.theory_windows.specs.Distinct.{AreDistinct}
use Rattle.theory_windows.specs.Outlines.{PlaneEdge, Polygon, edges, MeetsBox, is_reverse}
use Rattle.theory_windows.specs.ClosedChains.{total_count}
use Rattle.theory_windows.specs.Meeting.{PolygonMeetsBox}
use Rattle.theory_windows.specs.Patch.{Patch, IsDissected, HasAcross}
use Rattle.theory_windows.proofs.Members.{same_whole, ComesFrom, comes-from, goes-to, distinct-append, number-one, some-passes}
use Rattle.theory_windows.proofs.Reverses.{reverse-is}
use Rattle.theory_windows.proofs.ClosedChains.{closed_chains}

module _ (S : Signed) (L : Laws S.ops) (O : OrderLaws S) (whole : DividesWhole S) {T : Type 0} (P : Patch S T)
    (D : IsDissected S T P) (box : OpenBox S.ops.carrier) (found : List T)
    (of_patch : (t : T) → IsAmong t found → IsAmong t P.tiles) (distinct : AreDistinct found)
    (closed : (t : T) → IsAmong t found → (e : PlaneEdge S) → IsAmong e (edges (P.outline t)) → MeetsBox S box e → HasAcross S T P found e)
    (first : T) (is_found : IsAmong first found) (point : PolygonMeetsBox S box (P.outline first)) where
  abbrev R : Ops
  R = S.ops

  abbrev outlines : List (Polygon S)
  outlines = map P.outline found

  abbrev all : List (PlaneEdge S)
  all = flat_map edges outlines

  edges-distinct : (ts : List T) → AreDistinct ts → ((t : T) → IsAmong t ts → IsAmong t P.tiles) → AreDistinct (flat_map edges (map P.outline ts))
  edges-distinct [] d h = tt
  edges-distinct (t ∷ ts) d h =
      distinct-append (edges (P.outline t)) (flat_map edges (map P.outline ts))
      (D.own_edges t (h t (inl refl))) (edges-distinct ts d.1 (λ u i. h u (inr i)))
      (λ e i j.
      let c : ComesFrom P.outline edges e ts = comes-from P.outline edges e ts j in
      absurd (d.0 (subst (λ u. IsAmong u ts) (D.one_owner c.source t (h c.source (inr c.among)) (h t (inl refl)) e c.of_source i) c.among)))

  reversed : (e f g : PlaneEdge S) → is_reverse S e f ≡ true → is_reverse S e g ≡ true → g ≡ f
  reversed e f g h k = reverse-is S L O e g k ∙ sym (reverse-is S L O e f h)

  paired-edge : (e : PlaneEdge S) → IsAmong e all → MeetsBox S box e → number_of (is_reverse S e) all ≡ 1
  paired-edge e i m =
      let c : ComesFrom P.outline edges e found = comes-from P.outline edges e found i in
      let a : HasAcross S T P found e = closed c.source c.among e c.of_source m in
      number-one (is_reverse S e) a.1 all (edges-distinct found distinct of_patch)
      (goes-to P.outline edges a.1 a.0 found a.2 a.3) a.4 (λ g j k. reversed e a.1 g a.4 k)

  paired : AllByRecursion (λ e. MeetsBox S box e → number_of (is_reverse S e) all ≡ 1) all
  paired = AllByRecursion-from _ all paired-edge

  abbrev holders : TestPoint R.carrier → ℕ
  holders p = number_of (λ t. member S (P.outline t) p) found

  total-holders : (p : TestPoint R.carrier) → IsTestPoint S p → total_count S outlines p ≡ pos (holders p)
  total-holders p test =
      sum-map (λ polygon. count S polygon p) P.outline found
      ∙ sum-number (λ t. count S (P.outline t) p) found (λ t i. (D.left_fan t (of_patch t i)).zero_or_one p test)

  holders-point : holders point.0 ≡ 1
  holders-point =
      number-one (λ t. member S (P.outline t) point.0) first found distinct is_found point.3
      (λ u i h. D.one_holder u first (of_patch u i) (of_patch first is_found) point.0 point.1 h point.3)

  -- each test point in the box belongs to exactly one of these
  pub covers : (p : TestPoint R.carrier) → IsTestPoint S p → in_box S box p ≡ true → holders p ≡ 1
  covers p test inside = same_whole _ _ (
      sym (total-holders p test) ∙ closed_chains S L O whole box outlines paired p point.0 test point.1 inside
      point.2 ∙ total-holders point.0 point.1 ∙ ap pos holders-point)

  -- each tile that meets the box is one of these
  pub has_all : (t : T) → IsAmong t P.tiles → PolygonMeetsBox S box (P.outline t) → IsAmong t found
  has_all t i m =
      let u = some-passes (λ t. member S (P.outline t) m.0) found (covers m.0 m.1 m.2) in
      subst (λ v. IsAmong v found) (D.one_holder u.0 t (of_patch u.0 u.1) i m.0 m.1 u.2 m.3) u.1
