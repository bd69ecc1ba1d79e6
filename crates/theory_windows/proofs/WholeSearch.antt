-- The whole search.
use Rattle.std.proofs.Common.{◌≡◌, inl, ℕ, zero, suc, ◌+◌, ◌<◌, ◌≤◌, max, List, [], ◌∷◌, ◌++◌, length, refl, sym, ◌∙◌, subst, false, arith}
use Rattle.std.proofs.lemmas.List.{length-append}
use Rattle.theory_ring.specs.Ring.{Laws}
use Rattle.theory_ring.specs.Sign.{Signed, OrderLaws}
use Rattle.theory_ring.specs.Divisor.{DividesWhole}
use Rattle.theory_plane.specs.Plane.{test_point}
use Rattle.theory_addresses.specs.Search.{IsAmong}
use Rattle.theory_windows.specs.Meeting.{PolygonMeetsBox}
use Rattle.theory_windows.specs.OpenEdges.{NumberedEdge}
use Rattle.theory_windows.specs.SearchState.{SearchState, IsRightState, started, stepped}
use Rattle.theory_windows.specs.EnoughDepth.{IsEnough, IsNotBeyond}
use Rattle.theory_windows.specs.PatchWindow.{PatchWindow, LiesAcross, HoldsCentre}
use Rattle.theory_windows.specs.SearchSteps.{IsStep, IsFinished}
use Rattle.theory_windows.specs.Limits.{IsWithinLimits}
use Rattle.theory_windows.specs.WholeSearch.{IsFirstOpen, Lead, IsSearch, IsAnswer, SearchAnswers, SearchEnds}
use Rattle.theory_addresses.proofs.Lists.{AllByRecursion-among}
use Rattle.theory_windows.proofs.Members.{no-more}
use Rattle.theory_windows.proofs.Window.{centre-in_box}
use Rattle.theory_windows.proofs.EnoughDepth.{all_drawn}
use Rattle.theory_windows.proofs.Steps.{start_right, step_right}
use Rattle.theory_windows.proofs.Finish.{finish_right}
use Rattle.theory_windows.proofs.Limits.{goes_on, ends_within}

module _ (S : Signed) (L : Laws S.ops) (O : OrderLaws S) (whole : DividesWhole S) {T : Type 0} (G : PatchWindow S T) (m : ℕ) where
  -- a right state that isn't beyond any enough depth
  record Sound (s : SearchState S T) : Type 0 where
    right : IsRightState S T G.growing G.box s
    not_beyond : IsNotBeyond S T G.growing G.box m s.depth

  first-among : (o : NumberedEdge S) (s : SearchState S T) → IsFirstOpen o s → IsAmong o s.open_edges
  first-among o s f = subst (IsAmong o) (sym f.1) (inl refl)

  start-sound : (t : T) → HoldsCentre S T G.growing G.box t → G.growing.refused t ≡ false
      → Sound (started S T G.growing G.box (max m (G.growing.level t)) t)
  start-sound t h kept = let r = start_right S L O whole G t h m in record { right = r.1 kept; not_beyond = r.0 }

  step-sound : (s : SearchState S T) → Sound s → (o : NumberedEdge S) → IsFirstOpen o s → (u : T)
      → LiesAcross S T G.growing o.line u → G.growing.refused u ≡ false
      → Sound (stepped S T G.growing G.box s u)
  step-sound s h o f u across kept =
      let step : IsStep S T G.growing G.box s u = step_right S L O whole G s h.right o (first-among o s f) u across in
      record { right = step.right kept; not_beyond = step.not_beyond m h.not_beyond }

  lead-sound : (us : List T) (s end : SearchState S T) → Sound s → Lead S T G.growing G.box s us end → Sound end
  lead-sound [] s end h l = subst Sound l h
  lead-sound (u ∷ us) s end h l = lead-sound us (stepped S T G.growing G.box s u) end (step-sound s h l.0.0 l.0.1 u l.0.2 l.1) l.2

  end-sound : (limit : ℕ) (end : SearchState S T) → IsSearch S T G.growing G.box m limit end → Sound end
  end-sound limit end h = lead-sound h.tiles _ end (start-sound h.centre h.holds_centre h.kept) h.lead

  answers : (limit : ℕ) (end : SearchState S T) → IsSearch S T G.growing G.box m limit end → IsAnswer S T G.growing G.box m end
  answers limit end h =
      let e : Sound end = end-sound limit end h in
      let f : IsFinished S T G.growing G.box end = finish_right S L O whole G end e.right h.none_open in
      record { least = f.least m e.not_beyond; drawn = f.drawn; covers = f.covers }

  module _ (limit : ℕ) (within : IsWithinLimits S T G.growing G.box m limit) where
    -- the rest of a search
    record Rest (s : SearchState S T) : Type 0 where
      tiles : List T
      end : SearchState S T
      lead : Lead S T G.growing G.box s tiles end
      none_open : end.open_edges ≡ []

    longer : (s : SearchState S T) (u : T) → length (s.found ++ u ∷ []) ≡ suc (length s.found)
    longer s u = length-append s.found (u ∷ []) ∙ one_more (length s.found)
      where
        one_more : (n : ℕ) → n + 1 ≡ suc n
        one_more n = omega arith

    -- k is at least the number of tiles that may still be found
    rest-from : (k : ℕ) (s : SearchState S T) → Sound s → limit ≤ length s.found + k → Rest s
    rest-from zero s h room = at_open s.open_edges refl
      where
        full : length s.found < limit → ⊥
        full l = omega arith

        at_open : (os : List (NumberedEdge S)) → s.open_edges ≡ os → Rest s
        at_open [] e = record { tiles = []; end = s; lead = refl; none_open = e }
        at_open (o ∷ os) e = absurd (full (goes_on S L O whole G m limit within s h.right o (first-among o s (os, e))).3)
    rest-from (suc k) s h room = at_open s.open_edges refl (rest-from k)
      where
        at_open : (os : List (NumberedEdge S)) → s.open_edges ≡ os → ((r : SearchState S T) → Sound r → limit ≤ length r.found + k → Rest r) → Rest s
        at_open [] e more = record { tiles = []; end = s; lead = refl; none_open = e }
        at_open (o ∷ os) e more =
            let g = goes_on S L O whole G m limit within s h.right o (first-among o s (os, e)) in
            let r : Rest (stepped S T G.growing G.box s g.0) = more (stepped S T G.growing G.box s g.0)
            (step-sound s h o (os, e) g.0 g.1 g.2) (roomy (longer s g.0)) in
            record { tiles = g.0 ∷ r.tiles; end = r.end; lead = ((o, (os, e), g.1), g.2, r.lead); none_open = r.none_open }
          where
            roomy : {n : ℕ} → n ≡ suc (length s.found) → limit ≤ n + k
            roomy f = omega arith

    -- each tile of a right state is drawn
    few : (s : SearchState S T) → Sound s → length s.found ≤ limit
    few s h = at_most (no-more s.found within.drawn h.right.distinct (λ t i.
        all_drawn S L O whole G within.depth within.least.enough within.drawn within.are_drawn t
        (AllByRecursion-among (λ v. IsAmong v G.growing.patch.tiles) t s.found i h.right.of_patch)
        (AllByRecursion-among (λ v. PolygonMeetsBox S G.box (G.growing.patch.outline v)) t s.found i h.right.each_meets)))
      where
        at_most : length s.found ≤ length within.drawn → length s.found ≤ limit
        at_most l = let k = within.not_too_many in omega arith

    search : (end : SearchState S T) × IsSearch S T G.growing G.box m limit end
    search =
        let E : IsEnough S T G.growing G.box within.depth = within.least.enough in
        let t : T = E.holds_centre.0 in
        let meets : PolygonMeetsBox S G.box (G.growing.patch.outline t)
        = (
          test_point S.ops G.box.centre,
          (0, refl),
          centre-in_box S L O G.box G.wide G.high,
          E.holds_centre.2,
        ) in
        let kept : G.growing.refused t ≡ false =
        AllByRecursion-among (λ v. G.growing.refused v ≡ false) t within.drawn
        (all_drawn S L O whole G within.depth E within.drawn within.are_drawn t E.holds_centre.1.0 meets)
        within.none_refused in
        let held : HoldsCentre S T G.growing G.box t = record { of_patch = E.holds_centre.1.0; holds = E.holds_centre.2 } in
        let r : Rest (started S T G.growing G.box (max m (G.growing.level t)) t) = rest-from limit
        (started S T G.growing G.box (max m (G.growing.level t)) t) (start-sound t held kept)
        (omega arith) in (
          r.end,
          record {
            centre = t;
            holds_centre = held;
            kept = kept;
            tiles = r.tiles;
            lead = r.lead;
            none_open = r.none_open;
            not_too_many = few r.end (lead-sound r.tiles
                (started S T G.growing G.box (max m (G.growing.level t)) t) r.end (start-sound t held kept)
                r.lead);
          },
        )

pub search_answers : (S : Signed) (L : Laws S.ops) (O : OrderLaws S) → DividesWhole S → {T : Type 0} → SearchAnswers S T
search_answers S L O whole G m limit end h = answers S L O whole G m limit end h

pub search_ends : (S : Signed) (L : Laws S.ops) (O : OrderLaws S) → DividesWhole S → {T : Type 0} → SearchEnds S T
search_ends S L O whole G m limit = (
  λ h. let e = end-sound S L O whole G m limit h.0 h.1 in ends_within S L O whole G m limit h.0 e.right h.1.none_open e.not_beyond h.1.not_too_many,
  λ within. search S L O whole G m limit within,
)
