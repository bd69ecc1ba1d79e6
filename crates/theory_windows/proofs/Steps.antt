-- A search begins right, and each step keeps it right.
use Rattle.std.proofs.Common.{◌≡◌, inl, inr, ℕ, ◌≤◌, max, List, [], ◌∷◌, ◌++◌, flat_map, refl, sym, ap, ◌∙◌, subst, false, not, arith}
use Rattle.std.specs.List.{filter}
use Rattle.std.proofs.lemmas.List.{map-append, length-map}
use Rattle.theory_ring.specs.Ring.{Ops, Laws}
use Rattle.theory_ring.specs.Sign.{Signed, OrderLaws}
use Rattle.theory_ring.specs.Divisor.{DividesWhole}
use Rattle.theory_plane.specs.Plane.{IsTestPoint, test_point}
use Rattle.theory_addresses.specs.Search.{IsAmong}
use Rattle.theory_windows.specs.Outlines.{PlaneEdge, edges, MeetsBox, is_reverse}
use Rattle.theory_windows.specs.Meeting.{PolygonMeetsBox}
use Rattle.theory_windows.specs.Patch.{Patch, IsDissected}
use Rattle.theory_windows.specs.GrowingPatch.{GrowingPatch}
use Rattle.theory_windows.specs.OpenEdges.{NumberedEdge, edges_of_tile}
use Rattle.theory_windows.specs.OpenTest.{is_met, is_open, open_edges_of}
use Rattle.theory_windows.specs.SearchState.{SearchState, outlines, IsFirst, IsRightState, started, stepped}
use Rattle.theory_windows.specs.EnoughDepth.{IsNotBeyond}
use Rattle.theory_windows.specs.PatchWindow.{PatchWindow, LiesAcross, HoldsCentre}
use Rattle.theory_windows.specs.SearchSteps.{StartRight, IsStep, StepRight}
use Rattle.theory_addresses.proofs.Lists.{AllByRecursion-each}
use Rattle.theory_windows.proofs.Members.{AllByRecursion-more, distinct-append, goes-to}
use Rattle.theory_windows.proofs.Reverses.{reverse-is}
use Rattle.theory_windows.proofs.Window.{centre-in_box}
use Rattle.theory_windows.proofs.OpenEdges.{any-among, open_edges-more}
use Rattle.theory_windows.proofs.EnoughDepth.{meets-turned, tile-meets, enough_holds_all}
use Rattle.theory_windows.proofs.OpenFacts.{open-facts}

-- ---- depths
below_max : (m n : ℕ) → m ≤ max m n
below_max m n = omega arith

max_above : (m n : ℕ) → n ≤ max m n
max_above m n = omega arith

max_least : (m n k : ℕ) → m ≤ k → n ≤ k → max m n ≤ k
max_least m n k h l = omega arith

at_most-trans : (m n k : ℕ) → m ≤ n → n ≤ k → m ≤ k
at_most-trans m n k h l = omega arith

first-more : {T : Type 0} (t : T) (xs ys : List T) → IsFirst t xs → IsFirst t (xs ++ ys)
first-more t [] ys h = elim h [ ]
first-more t (x ∷ xs) ys h = h

module _ (S : Signed) (L : Laws S.ops) (O : OrderLaws S) (whole : DividesWhole S) where
  abbrev R : Ops
  R = S.ops

  module _ {T : Type 0} (G : PatchWindow S T) where
    abbrev F : GrowingPatch S T
    F = G.growing

    abbrev P : Patch S T
    P = G.growing.patch

    abbrev D : IsDissected S T P
    D = G.dissected

    abbrev Meets : T → Type 0
    Meets t = PolygonMeetsBox S G.box (P.outline t)

    module _ (s : SearchState S T) (right : IsRightState S T F G.box s) where
      abbrev lines : List (PlaneEdge S)
      lines = flat_map edges (outlines S T F s.found)

      module _ (o : NumberedEdge S) (i : IsAmong o s.open_edges) (u : T) (across : LiesAcross S T F o.line u) where
        is_new : IsAmong u s.found → ⊥
        is_new j = cc (sym (open-facts S L O whole G s right o i).not_met
            ∙ any-among (is_reverse S o.line) across.edge lines
            (goes-to P.outline edges across.edge u s.found j across.among) across.back)

        across-meets : Meets u
        across-meets =
            tile-meets S L O whole G u across.of_patch across.edge across.among
            (subst (MeetsBox S G.box) (sym (reverse-is S L O o.line across.edge across.back))
            (meets-turned S L O whole G.box o.line.from o.line.to
            (open-facts S L O whole G s right o i).meets))

        next-open : (stepped S T F G.box s u).open_edges ≡ open_edges_of S G.box (outlines S T F (s.found ++ u ∷ []))
        next-open = sym (
            ap (open_edges_of S G.box) (map-append P.outline s.found (u ∷ []))
            ∙ open_edges-more S G.box (outlines S T F s.found) (P.outline u) (λ e f j k. D.no_return u across.of_patch e f j k)
            ∙ (λ i. filter (λ n. not (is_met S (edges (P.outline u)) n.line)) (sym right.open_is i)
            ++ filter (λ n. is_open S G.box lines n.line) (edges_of_tile S (length-map s.found P.outline i) (P.outline u))))

        step-right : F.refused u ≡ false → IsRightState S T F G.box (stepped S T F G.box s u)
        step-right kept = record {
          of_patch = AllByRecursion-more (λ t. IsAmong t P.tiles) s.found u right.of_patch across.of_patch;
          at_depth = AllByRecursion-more (λ t. F.level t ≤ max s.depth (F.level u)) s.found u
              (AllByRecursion-each (λ t. F.level t ≤ s.depth) (λ t. F.level t ≤ max s.depth (F.level u))
              s.found (λ t h. at_most-trans (F.level t) s.depth _ h (below_max s.depth (F.level u)))
              right.at_depth)
              (max_above s.depth (F.level u));
          distinct = distinct-append s.found (u ∷ []) right.distinct ((λ j. elim j [ ]), tt) (λ t j k. is_new (same_found t j k));
          none_refused = AllByRecursion-more (λ t. F.refused t ≡ false) s.found u right.none_refused kept;
          each_meets = AllByRecursion-more Meets s.found u right.each_meets across-meets;
          holds_centre = (right.holds_centre.0, first-more right.holds_centre.0 s.found (u ∷ []) right.holds_centre.1, right.holds_centre.2);
          open_is = next-open;
        }
          where
            same_found : (t : T) → IsAmong t s.found → IsAmong t (u ∷ []) → IsAmong u s.found
            same_found t j (inl e) = subst (λ v. IsAmong v s.found) e j
            same_found t j (inr k) = elim k [ ]

        is_step : IsStep S T G.growing G.box s u
        is_step = record {
          new = λ j. absurd (is_new j);
          meets = across-meets;
          right = step-right;
          not_beyond = λ m b. record {
            not_below = at_most-trans m s.depth _ b.not_below (below_max s.depth (F.level u));
            not_beyond = λ k l E. max_least s.depth (F.level u) k (b.not_beyond k l E)
                (enough_holds_all S L O whole G k E u across.of_patch across-meets);
          };
        }

    -- ---- the start
    centre-test : IsTestPoint S (test_point R G.box.centre)
    centre-test = (0, refl)

    start-right : (t : T) → HoldsCentre S T G.growing G.box t → (depth : ℕ) → F.level t ≤ depth
        → F.refused t ≡ false → IsRightState S T F G.box (started S T F G.box depth t)
    start-right t h depth l kept = record {
      of_patch = (h.of_patch, tt);
      at_depth = (l, tt);
      distinct = ((λ j. elim j [ ]), tt);
      none_refused = (kept, tt);
      each_meets = ((test_point R G.box.centre, centre-test, centre-in_box S L O G.box G.wide G.high, h.holds), tt);
      holds_centre = (t, refl, h.holds);
      open_is = sym (open_edges-more S G.box [] (P.outline t) (λ e f j k. D.no_return t h.of_patch e f j k));
    }

    start-not_beyond : (t : T) → HoldsCentre S T G.growing G.box t → (m : ℕ) → IsNotBeyond S T F G.box m (max m (F.level t))
    start-not_beyond t h m = record {
      not_below = below_max m (F.level t);
      not_beyond = λ k l E. max_least m (F.level t) k l
          (subst (λ u. F.level u ≤ k) (D.one_holder E.holds_centre.0 t E.holds_centre.1.0 h.of_patch
          (test_point R G.box.centre) centre-test E.holds_centre.2 h.holds) E.holds_centre.1.1);
    }

  pub start_right : {T : Type 0} → StartRight S T
  start_right G t h m = (start-not_beyond G t h m, start-right G t h (max m (G.growing.level t)) (max_above m (G.growing.level t)))

  pub step_right : {T : Type 0} → StepRight S T
  step_right G s right o i u across = is_step G s right o i u across
