-- Where no edge is open, the tiles found are those that meet the window, at the least enough depth.
use Rattle.std.proofs.Common.{◌≡◌, inl, ◌≤◌, List, [], ◌∷◌, flat_map, refl, sym, ap, ◌∙◌, Bool, true, false, not, ◌&&◌}
use Rattle.theory_ring.specs.Ring.{Laws}
use Rattle.theory_ring.specs.Sign.{Signed, OrderLaws}
use Rattle.theory_ring.specs.Divisor.{DividesWhole}
use Rattle.theory_plane.specs.BoxTest.{box_test}
use Rattle.theory_plane.proofs.BoxMeets.{meets-box_test}
use Rattle.theory_addresses.specs.Search.{IsAmong}
use Rattle.theory_windows.specs.Outlines.{PlaneEdge, edges, MeetsBox, is_reverse}
use Rattle.theory_windows.specs.Meeting.{PolygonMeetsBox}
use Rattle.theory_windows.specs.Patch.{Patch, IsDissected, HasAcross, IsClosed, HasAll}
use Rattle.theory_windows.specs.GrowingPatch.{GrowingPatch, IsOfDepth}
use Rattle.theory_windows.specs.OpenEdges.{NumberedEdge, numbered_from}
use Rattle.theory_windows.specs.OpenTest.{is_met, is_open}
use Rattle.theory_windows.specs.SearchState.{SearchState, outlines, IsFirst, IsRightState}
use Rattle.theory_windows.specs.EnoughDepth.{IsEnough}
use Rattle.theory_windows.specs.PatchWindow.{PatchWindow}
use Rattle.theory_windows.specs.SearchSteps.{IsFinished, FinishRight}
use Rattle.theory_addresses.proofs.Lists.{IsAmong-map, AllByRecursion-among, AllByRecursion-from}
use Rattle.theory_windows.proofs.Members.{AllByRecursion-both, comes-from, ComesFrom}
use Rattle.theory_windows.proofs.Window.{covers, has_all}
use Rattle.theory_windows.proofs.OpenEdges.{none-pass, some-any, number-of-edge}
use Rattle.theory_windows.proofs.EnoughDepth.{tile-meets}
use Rattle.theory_windows.proofs.OpenFacts.{of_patch}

first-among : {T : Type 0} (t : T) (xs : List T) → IsFirst t xs → IsAmong t xs
first-among t [] h = elim h [ ]
first-among t (x ∷ xs) h = inl h

module _ (S : Signed) (L : Laws S.ops) (O : OrderLaws S) (whole : DividesWhole S) where
  module _ {T : Type 0} (G : PatchWindow S T) where
    abbrev F : GrowingPatch S T
    F = G.growing

    abbrev P : Patch S T
    P = G.growing.patch

    abbrev D : IsDissected S T P
    D = G.dissected

    abbrev Meets : T → Type 0
    Meets t = PolygonMeetsBox S G.box (P.outline t)

    module _ (s : SearchState S T) (right : IsRightState S T F G.box s) where
      abbrev lines : List (PlaneEdge S)
      lines = flat_map edges (outlines S T F s.found)

      -- ---- no edge is open
      module _ (none : s.open_edges ≡ []) where
        not_open : (b c : Bool) → b && not c ≡ false → b ≡ true → c ≡ true
        not_open true true e h = refl
        not_open true false e h = absurd (cc e)
        not_open false c e h = absurd (cc h)

        has-across : (t : T) → IsAmong t s.found → (e : PlaneEdge S) → IsAmong e (edges (P.outline t))
            → MeetsBox S G.box e → HasAcross S T P s.found e
        has-across t i e j m =
            let n = number-of-edge S 0 (outlines S T F s.found) (P.outline t) e (IsAmong-map P.outline t s.found i) j in
            let shut : is_open S G.box lines n.0.line ≡ false = none-pass
            (λ (n : NumberedEdge S). is_open S G.box lines n.line) n.0
            (numbered_from S 0 (outlines S T F s.found)) (sym right.open_is ∙ none) n.1 in
            let met : is_met S lines e ≡ true = not_open (box_test S e.from e.to G.box) (is_met S lines e)
            (ap (is_open S G.box lines) (sym n.2) ∙ shut) (meets-box_test S L O e.from e.to G.box m) in
            let f = some-any (is_reverse S e) lines met in
            let c : ComesFrom P.outline edges f.0 s.found = comes-from P.outline edges f.0 s.found f.1 in
            (c.source, f.0, c.among, c.of_source, f.2)

        found-closed : IsClosed S T P G.box s.found
        found-closed = record {
          of_patch = right.of_patch;
          distinct = right.distinct;
          holds_centre = (right.holds_centre.0, first-among right.holds_centre.0 s.found right.holds_centre.1, right.holds_centre.2);
          closed = AllByRecursion-from _ s.found (λ t i. AllByRecursion-from _ (edges (P.outline t)) (λ e j m. has-across t i e j m));
        }

        found-all : HasAll S T P G.box s.found
        found-all = has_all S L O whole P D G.box s.found found-closed G.wide G.high

        found-depth : (t : T) → IsAmong t s.found → IsOfDepth S T F s.depth t
        found-depth t i = (of_patch S L O whole G s right t i, AllByRecursion-among (λ u. F.level u ≤ s.depth) t s.found i right.at_depth)

        depth-enough : IsEnough S T F G.box s.depth
        depth-enough = record {
          holds_centre = (
            right.holds_centre.0,
            found-depth right.holds_centre.0
                (first-among right.holds_centre.0 s.found right.holds_centre.1),
            right.holds_centre.2,
          );
          none_on_boundary = λ t h e j m.
              let u = has-across t (found-all t h.0 (tile-meets S L O whole G t h.0 e j m)) e j m in
              (u.0, u.1, found-depth u.0 u.2, u.3, u.4);
        }

        is_finished : IsFinished S T G.growing G.box s
        is_finished = record {
          drawn = record {
            of_depth = AllByRecursion-both (λ t. IsAmong t P.tiles) (λ t. F.level t ≤ s.depth) s.found right.of_patch right.at_depth;
            distinct = right.distinct;
            meeting = λ t h. (λ m. found-all t h.0 m, λ i. AllByRecursion-among Meets t s.found i right.each_meets);
          };
          covers = covers S L O whole P D G.box s.found found-closed G.wide G.high;
          least = λ m b. record { not_below = b.not_below; enough = depth-enough; least = b.not_beyond };
        }

  pub finish_right : {T : Type 0} → FinishRight S T
  finish_right G s right none = is_finished G s right none
