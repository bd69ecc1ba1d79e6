-- The line of a rule accepted, from its pieces.
use Rattle.std.proofs.Common.{◌≡◌, ℕ, List, [], ◌∷◌, ◌++◌, codes, length, sym, ap, ◌∙◌, append_assoc}
use Rattle.std.specs.Fmt.{decimal}
use Rattle.cyclo_points.specs.Order.{points_of}
use Rattle.rule_model.specs.declared.rule.Rule.{Rule}
use Rattle.rule_model.specs.Views.{rule_of}
use Rattle.tile_app.specs.Check.{check_line}
use Rattle.cyclo_points.specs.Text.{newline}
use Rattle.rule_model.specs.Tiling.{tiling_of}

-- pieces joined from the right are the line joined from the left
joined : (a b c d e f g : List ℕ) → a ++ (b ++ (c ++ (d ++ (e ++ (f ++ g))))) ≡ a ++ b ++ c ++ d ++ e ++ f ++ g
joined a b c d e f g =
    sym (append_assoc a b _) ∙ sym (append_assoc (a ++ b) c _) ∙ sym (append_assoc (a ++ b ++ c) d _) ∙ sym (append_assoc (a ++ b ++ c ++ d) e _)
    ∙ sym (append_assoc (a ++ b ++ c ++ d ++ e) f g)

pub check_line_of : (inner r : Rule) (n k t : ℕ) → inner ≡ r → n ≡ (points_of inner.order).order
    → k ≡ length (rule_of inner).kinds → t ≡ length (rule_of inner).types
    → codes "accepted order " ++ (decimal n ++ (codes " kinds "
    ++ (decimal k ++ (codes " types " ++ (decimal t ++ newline ∷ []))))) ≡ check_line (tiling_of r)
check_line_of inner r n k t same h i j =
    joined (codes "accepted order ") (decimal n) (codes " kinds ") (decimal k) (codes " types ") (decimal t) (newline ∷ [])
    ∙ ap (λ m. codes "accepted order " ++ decimal m ++ codes " kinds " ++ decimal k ++ codes " types " ++ decimal t ++ newline ∷ []) h
    ∙ ap (λ m. codes "accepted order " ++ decimal (points_of inner.order).order ++ codes " kinds "
    ++ decimal m ++ codes " types " ++ decimal t ++ newline ∷ []) i
    ∙ ap (λ m. codes "accepted order " ++ decimal (points_of inner.order).order ++ codes " kinds "
    ++ decimal (length (rule_of inner).kinds) ++ codes " types " ++ decimal m ++ newline ∷ []) j
    ∙ ap (λ (s : Rule). check_line (tiling_of s)) same
