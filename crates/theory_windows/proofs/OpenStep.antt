-- One step by the open edges alone.
use Rattle.std.proofs.Common.{◌≡◌, ◌⊎◌, inl, inr, List, ◌++◌, flat_map, length, refl, sym, ap, ◌∙◌, subst, Bool, true, false, not, ◌&&◌}
use Rattle.std.specs.List.{filter}
use Rattle.theory_ring.specs.Ring.{Laws}
use Rattle.theory_ring.specs.Sign.{Signed, OrderLaws}
use Rattle.theory_ring.specs.Divisor.{DividesWhole}
use Rattle.theory_plane.specs.BoxTest.{box_test}
use Rattle.theory_plane.proofs.BoxMeets.{box_test-meets}
use Rattle.theory_addresses.specs.Search.{IsAmong}
use Rattle.theory_windows.specs.Outlines.{PlaneEdge, Polygon, edges, MeetsBox, is_reverse}
use Rattle.theory_windows.specs.OpenEdges.{NumberedEdge, edges_of_tile, numbered_from}
use Rattle.theory_windows.specs.OpenTest.{is_met, is_open}
use Rattle.theory_windows.specs.SearchState.{SearchState, outlines, IsRightState, stepped}
use Rattle.theory_windows.specs.PatchWindow.{PatchWindow}
use Rattle.theory_windows.specs.OpenStep.{closes_one, OpenStep}
use Rattle.theory_windows.proofs.Members.{among-map, comes-from, ComesFrom, goes-to}
use Rattle.theory_windows.proofs.Reverses.{same_tests, reverse-is, reverse-turned}
use Rattle.theory_addresses.proofs.Filters.{IsAmong-filter}
use Rattle.theory_windows.proofs.OpenEdges.{any-among, some-any, of-polygon, filter-same, line-of}
use Rattle.theory_windows.proofs.EnoughDepth.{meets-turned}
use Rattle.theory_windows.proofs.OpenFacts.{of_patch}
use Rattle.theory_windows.proofs.EveryEdge.{found_or_open}

and_same : (a b c : Bool) → (a ≡ true → b ≡ c) → a && not b ≡ a && not c
and_same true b c f = ap not (f refl)
and_same false b c f = refl

module _ (S : Signed) (L : Laws S.ops) (O : OrderLaws S) (whole : DividesWhole S) {T : Type 0}
    (G : PatchWindow S T) (s : SearchState S T) (right : IsRightState S T G.growing G.box s)
    (u : T) (of_patch : IsAmong u G.growing.patch.tiles) (new : IsAmong u s.found → ⊥) where
  abbrev lines : List (PlaneEdge S)
  lines = flat_map edges (outlines S T G.growing s.found)

  open-line : (o : NumberedEdge S) → IsAmong o s.open_edges → IsAmong o.line lines
  open-line o i =
      let j = IsAmong-filter (λ (n : NumberedEdge S). is_open S G.box lines n.line) o
      (numbered_from S 0 (outlines S T G.growing s.found)) (subst (IsAmong o) right.open_is i) in
      let p = of-polygon S 0 (outlines S T G.growing s.found) o j.0 in
      let t = among-map G.growing.patch.outline p.0 s.found p.1 in
      goes-to G.growing.patch.outline edges o.line t.0 s.found t.1 (subst (λ (q : Polygon S). IsAmong o.line (edges q)) t.2 p.2)

  module _ (e : PlaneEdge S) (own : IsAmong e (edges (G.growing.patch.outline u))) (meets : MeetsBox S G.box e) where
    met-closes : is_met S lines e ≡ true → closes_one S s.open_edges e ≡ true
    met-closes h = at_case (found_or_open S L O whole G s right c.source c.among g c.of_source g-meets u
        of_patch e own (sym (reverse-turned S L O e g) ∙ back))
      where
        m : (g : PlaneEdge S) × IsAmong g lines × (is_reverse S e g ≡ true)
        m = some-any (is_reverse S e) lines h

        g : PlaneEdge S
        g = m.0

        back : is_reverse S e g ≡ true
        back = m.2

        c : ComesFrom G.growing.patch.outline edges g s.found
        c = comes-from G.growing.patch.outline edges g s.found m.1

        g-meets : MeetsBox S G.box g
        g-meets = subst (MeetsBox S G.box) (sym (reverse-is S L O e g back)) (meets-turned S L O whole G.box e.from e.to meets)

        at_case : IsAmong u s.found ⊎ ((o : NumberedEdge S) × IsAmong o s.open_edges × (o.line ≡ g)) → closes_one S s.open_edges e ≡ true
        at_case (inl i) = absurd (new i)
        at_case (inr o) = any-among (λ (n : NumberedEdge S). is_reverse S e n.line) o.0 s.open_edges o.1 (ap (is_reverse S e) o.2 ∙ back)

    closes-met : closes_one S s.open_edges e ≡ true → is_met S lines e ≡ true
    closes-met h =
        let o = some-any (λ (n : NumberedEdge S). is_reverse S e n.line) s.open_edges h in
        any-among (is_reverse S e) o.0.line lines (open-line o.0 o.1) o.2

  own-test : (n : NumberedEdge S) → IsAmong n (edges_of_tile S (length s.found) (G.growing.patch.outline u))
      → is_open S G.box lines n.line ≡ box_test S n.line.from n.line.to G.box && not (closes_one S s.open_edges n.line)
  own-test n i = and_same _ _ _ (λ h.
      let own : IsAmong n.line (edges (G.growing.patch.outline u)) = line-of S (length s.found) 0 (edges (G.growing.patch.outline u)) n i in
      let m : MeetsBox S G.box n.line = box_test-meets S L O whole n.line.from n.line.to G.box h in
      same_tests _ _ (met-closes n.line own m) (closes-met n.line own m))

  step-open : (stepped S T G.growing G.box s u).open_edges
      ≡ filter (λ n. not (is_met S (edges (G.growing.patch.outline u)) n.line)) s.open_edges
      ++ filter (λ n. box_test S n.line.from n.line.to G.box && not (closes_one S s.open_edges n.line))
      (edges_of_tile S (length s.found) (G.growing.patch.outline u))
  step-open = ap (λ own. filter (λ n. not (is_met S (edges (G.growing.patch.outline u)) n.line)) s.open_edges ++ own)
      (filter-same _ _ (edges_of_tile S (length s.found) (G.growing.patch.outline u)) own-test)

pub open_step : (S : Signed) (L : Laws S.ops) (O : OrderLaws S) → DividesWhole S → {T : Type 0} → OpenStep S T
open_step S L O whole G s right u of_patch new = step-open S L O whole G s right u of_patch (λ i. absurd (new i))
