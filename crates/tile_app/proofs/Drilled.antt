-- The windows of `drill`, and what is said of their summary.
use Rattle.std.proofs.Common.{◌≡◌, ℕ, ◌+◌, ◌*◌, ℤ, List, [], ◌∷◌, ◌++◌, codes, to_z, of_z, w64, sym, ap, ap₂, ◌∙◌, subst, append_assoc, add-one, arith}
use Rattle.std.proofs.lemmas.Int.{ints}
use Rattle.std.specs.Fmt.{decimal}
use Rattle.cyclo_points.specs.Text.{newline}
use Rattle.cyclo_points.specs.declared.order.Order.{Order}
use Rattle.cyclo_points.specs.Point.{Within}
use Rattle.theory_walks.specs.Frames.{FrameValue}
use Rattle.plane_geom.specs.declared.window.Window.{Window}
use Rattle.rule_model.specs.Tiling.{Tiling}
use Rattle.seeded_growth.specs.Words.{word}
use Rattle.tile_app.specs.declared.summary.Summary.{Summary}
use Rattle.tile_app.specs.Drill.{coefficient_of, window_from, drill_window, fresh_frame, Adds, IsSummary, summary_text}

-- a coefficient as the code keeps it
kept : (z : ℤ) → Within 32 z → to_z w64 (of_z w64 z) ≡ z
kept z h = omega (arith, ints)

-- a coefficient made of a word that is known by another name
pub coefficient-at : (start j s t : ℕ) (z : ℤ) → z ≡ coefficient_of (word s t) → Within 32 z → s ≡ start
    → t ≡ j → to_z w64 (of_z w64 z) ≡ coefficient_of (word start j)
coefficient-at start j s t z e h p q = kept z h ∙ e ∙ ap₂ (λ u v. coefficient_of (word u v)) p q

-- the window of the next six words, where so many windows before have had theirs
pub window-is : (o p : Order) (start s j i : ℕ) (w : Window) → w ≡ window_from o s j → o ≡ p → s ≡ start → j ≡ 6 * i → w ≡ drill_window p start i
window-is o p start s j i w e same f g = e ∙ ap (λ q. window_from q s j) same ∙ ap₂ (window_from p) f g

-- the summary of one window more
pub one_more : (t : Tiling) (start i : ℕ) (frame : FrameValue) (window : Window) (before after : Summary)
    → IsSummary t start i before → frame ≡ fresh_frame start
    → window ≡ drill_window t.order start i → Adds t frame window before after → IsSummary t start (i + 1) after
one_more t start i frame window before after h f w adds =
    let in_fresh : Adds t (fresh_frame start) window before after = subst (λ x. Adds t x window before after) f adds in
    subst (λ n. IsSummary t start n after) (sym (add-one i)) (before, h, subst (λ x. Adds t (fresh_frame start) x before after) w in_fresh)

-- pieces joined from the right are the text joined from the left
pub summary_text_of : (n : ℕ) (s : Summary)
    → codes "windows " ++ (decimal n ++ (newline ∷ codes "tiles " ++ (decimal s.tiles ++ (newline ∷ codes "largest " ++ (decimal s.largest
    ++ (newline ∷ codes "depth " ++ (decimal s.depth ++ (newline ∷ codes "refused " ++ (decimal s.refused ++ newline ∷ []))))))))) ≡ summary_text n s
summary_text_of n s = joined (codes "windows ") (decimal n) (newline ∷ codes "tiles ") (decimal s.tiles)
    (newline ∷ codes "largest ") (decimal s.largest)
    (newline ∷ codes "depth ") (decimal s.depth) (newline ∷ codes "refused ") (decimal s.refused) (newline ∷ [])
  where
    joined : (a b c d e f g h i j k : List ℕ) → a
        ++ (b ++ (c ++ (d ++ (e ++ (f ++ (g ++ (h ++ (i ++ (j ++ k))))))))) ≡ a ++ b ++ c ++ d ++ e ++ f ++ g
        ++ h ++ i ++ j ++ k
    joined a b c d e f g h i j k = simp append_assoc
