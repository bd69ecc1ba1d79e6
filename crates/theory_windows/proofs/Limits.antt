-- Why a search stops, and that it goes on exactly where the window is within the limits.
use Rattle.std.proofs.Common.{◌≡◌, inl, inr, ℕ, ◌<◌, ◌≤◌, ◌∷◌, length, sym, subst, false, arith}
use Rattle.theory_ring.specs.Ring.{Laws}
use Rattle.theory_ring.specs.Sign.{Signed, OrderLaws}
use Rattle.theory_ring.specs.Divisor.{DividesWhole}
use Rattle.theory_addresses.specs.Search.{IsAmong}
use Rattle.theory_windows.specs.Meeting.{PolygonMeetsBox}
use Rattle.theory_windows.specs.Patch.{Patch}
use Rattle.theory_windows.specs.GrowingPatch.{GrowingPatch, IsInner}
use Rattle.theory_windows.specs.OpenEdges.{NumberedEdge}
use Rattle.theory_windows.specs.SearchState.{SearchState, IsRightState}
use Rattle.theory_windows.specs.EnoughDepth.{IsEnough}
use Rattle.theory_windows.specs.PatchWindow.{PatchWindow, LiesAcross}
use Rattle.theory_windows.specs.SearchSteps.{IsStep, IsFinished}
use Rattle.theory_windows.specs.Refusals.{IsDepthLimit, DepthRefusal, CountRefusal}
use Rattle.theory_windows.specs.Limits.{GoesOn, EndsWithin}
use Rattle.theory_addresses.proofs.Lists.{AllByRecursion-among}
use Rattle.theory_windows.proofs.Members.{no-more}
use Rattle.theory_windows.proofs.EnoughDepth.{enough_holds_all, all_drawn}
use Rattle.theory_windows.proofs.OpenFacts.{of_patch, OpenFacts, open-facts}
use Rattle.theory_windows.proofs.Steps.{step_right}
use Rattle.theory_windows.proofs.Finish.{finish_right}

module _ (S : Signed) (L : Laws S.ops) (O : OrderLaws S) (whole : DividesWhole S) where
  module _ {T : Type 0} (G : PatchWindow S T) where
    abbrev F : GrowingPatch S T
    F = G.growing

    abbrev P : Patch S T
    P = G.growing.patch

    abbrev Meets : T → Type 0
    Meets t = PolygonMeetsBox S G.box (P.outline t)

    module _ (s : SearchState S T) (right : IsRightState S T F G.box s) where
      -- ---- refusals
      depth-limit : (o : NumberedEdge S) → IsAmong o s.open_edges → ((u : T) → LiesAcross S T F o.line u → ⊥)
          → (t : T) × IsAmong t s.found × IsDepthLimit S T G.growing G.box o.line t
      depth-limit o i none_across =
          let f : OpenFacts S L O whole G s right o = open-facts S L O whole G s right o i in
          let m : Meets f.tile = AllByRecursion-among Meets f.tile s.found f.found right.each_meets in (
            f.tile,
            f.found,
            record {
              of_tile = f.of_tile;
              edge_meets = f.meets;
              tile_meets = m;
              none_enough = λ n E.
                  let u : IsInner S T F n o.line = E.none_on_boundary f.tile (
                    of_patch S L O whole G s right f.tile f.found,
                    enough_holds_all S L O whole G n E
                        f.tile (of_patch S L O whole G s right f.tile f.found) m,
                  ) o.line f.of_tile f.meets in
                  absurd (none_across u.0 (record { of_patch = u.2.0; edge = u.1; among = u.3; back = u.4 }));
            },
          )

  pub depth_refusal : {T : Type 0} → DepthRefusal S T
  depth_refusal G s right o i none_across = depth-limit G s right o i (λ u a. absurd (none_across u a))

  pub count_refusal : {T : Type 0} → CountRefusal S T
  count_refusal {T} G s right u i new m n E drawn d = no-more (u ∷ s.found) drawn (new, right.distinct) each
    where
      each : (t : T) → IsAmong t (u ∷ s.found) → IsAmong t drawn
      each t (inl e) = subst (λ v. IsAmong v drawn) (sym e) (all_drawn S L O whole G n E drawn d u i m)
      each t (inr j) = all_drawn S L O whole G n E drawn d t
          (AllByRecursion-among (λ v. IsAmong v G.growing.patch.tiles) t s.found j right.of_patch)
          (AllByRecursion-among (λ v. PolygonMeetsBox S G.box (G.growing.patch.outline v)) t s.found j
          right.each_meets)

  pub goes_on : {T : Type 0} → GoesOn S T
  goes_on {T} G m limit within s right o i = onward (open-facts S L O whole G s right o i)
    where
      onward : OpenFacts S L O whole G s right o → (u : T) × LiesAcross S T G.growing o.line u
          × (G.growing.refused u ≡ false) × (length s.found < limit)
      onward f =
          let E : IsEnough S T G.growing G.box within.depth = within.least.enough in
          let here : IsAmong f.tile G.growing.patch.tiles = AllByRecursion-among
          (λ v. IsAmong v G.growing.patch.tiles) f.tile s.found f.found right.of_patch in
          let met : PolygonMeetsBox S G.box (G.growing.patch.outline f.tile) = AllByRecursion-among
          (λ v. PolygonMeetsBox S G.box (G.growing.patch.outline v)) f.tile s.found f.found
          right.each_meets in
          let u : IsInner S T G.growing within.depth o.line = E.none_on_boundary f.tile
          (here, enough_holds_all S L O whole G within.depth E f.tile here met) o.line f.of_tile
          f.meets in
          let across : LiesAcross S T G.growing o.line u.0 = record { of_patch = u.2.0; edge = u.1; among = u.3; back = u.4 } in
          let step : IsStep S T G.growing G.box s u.0 = step_right S L O whole G s right o i u.0 across in (
            u.0,
            across,
            AllByRecursion-among (λ t. G.growing.refused t ≡ false) u.0 within.drawn
                (all_drawn S L O whole G within.depth E within.drawn within.are_drawn u.0 u.2.0 step.meets)
                within.none_refused,
            less (count_refusal G s right u.0 u.2.0 step.new step.meets within.depth E within.drawn within.are_drawn) within.not_too_many,
          )
        where
          less : {a b c : ℕ} → a < b → b ≤ c → a < c
          less h k = omega arith

  pub ends_within : {T : Type 0} → EndsWithin S T
  ends_within {T} G m limit s right none beyond few =
      let end : IsFinished S T G.growing G.box s = finish_right S L O whole G s right none in
      record {
        depth = s.depth;
        least = end.least m beyond;
        drawn = s.found;
        are_drawn = end.drawn;
        none_refused = right.none_refused;
        not_too_many = few;
      }
