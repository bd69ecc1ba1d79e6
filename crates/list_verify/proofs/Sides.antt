-- Edges that are marked as crossed from their other sides.
use Rattle.std.proofs.Common.{◌≡◌, ◌⊎◌, inl, inr, ℕ, ◌+◌, ◌*◌, ◌<◌, Bool, true, List, length, slice_get, slice_set, Some, sym, ◌∙◌, subst, arith}
use Rattle.theory_walks.specs.Frames.{FrameValue}
use Rattle.listing_text.specs.declared.entry.Entry as program
use Rattle.plane_geom.specs.declared.window.Window.{Window}
use Rattle.rule_model.specs.Tiling.{Tiling}
use Rattle.list_verify.specs.FoundLines.{HasMoreLines, IsCrossedOver, AreMarkedSides}
use Rattle.list_verify.proofs.Edges.{still-over}
use Rattle.list_verify.proofs.Marks.{same_or, set-length, set-other}

-- none is marked at first
pub sides-start : (t : Tiling) (f : FrameValue) (w : Window) (lines : List program.Entry) (numbers : List ℕ)
    (marks : List Bool) → length marks ≡ length lines * 12
    → ((i : ℕ) → ¬ (slice_get marks i ≡ Some true)) → AreMarkedSides t f w lines numbers marks
sides-start t f w lines numbers marks count none = record { count = count; over = λ i e l at. absurd (none (i * 12 + e) at) }

-- with more lines found
pub sides-more : (t : Tiling) (f : FrameValue) (w : Window) (lines : List program.Entry) (old new : List ℕ)
    (marks : List Bool) → HasMoreLines old new → AreMarkedSides t f w lines old marks
    → AreMarkedSides t f w lines new marks
sides-more t f w lines old new marks more s = record { count = s.count; over = λ i e l at. still-over t f w lines old new more i e (s.over i e l at) }

-- with one mark more
pub sides-put : (t : Tiling) (f : FrameValue) (w : Window) (lines : List program.Entry) (numbers : List ℕ)
    (marks : List Bool) (j back : ℕ) → back < 12 → IsCrossedOver t f w lines numbers j back
    → AreMarkedSides t f w lines numbers marks → AreMarkedSides t f w lines numbers (slice_set marks (j * 12 + back) true)
sides-put t f w lines numbers marks j back below own s = record {
  count = set-length marks (j * 12 + back) true ∙ s.count;
  over = λ i e l at. by_place i e l at (same_or (j * 12 + back) (i * 12 + e));
}
  where
    same_line : (i e : ℕ) → e < 12 → i * 12 + e ≡ j * 12 + back → i ≡ j
    same_line i e l h = omega (arith, below)

    same_edge : (i e : ℕ) → e < 12 → i * 12 + e ≡ j * 12 + back → e ≡ back
    same_edge i e l h = omega (arith, below)

    by_place : (i e : ℕ) → e < 12 → slice_get (slice_set marks (j * 12 + back) true) (i * 12 + e) ≡ Some true
        → (i * 12 + e ≡ j * 12 + back) ⊎ (¬ (i * 12 + e ≡ j * 12 + back))
        → IsCrossedOver t f w lines numbers i e
    by_place i e l at (inl h) = subst (λ k. IsCrossedOver t f w lines numbers k e) (sym (same_line i e l h))
        (subst (IsCrossedOver t f w lines numbers j) (sym (same_edge i e l h)) own)
    by_place i e l at (inr n) = s.over i e l (sym (set-other marks (j * 12 + back) (i * 12 + e) true n) ∙ at)

-- a place of a mark
pub mark-exists : (i e n k : ℕ) → i < n → e < 12 → k ≡ n * 12 → i * 12 + e < k
mark-exists i e n k h l c = omega arith
