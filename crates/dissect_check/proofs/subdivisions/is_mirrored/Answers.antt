use Rattle.std.proofs.Common.{◌≡◌, ◌≢◌, ℕ, ◌<◌, ◌≤◌, ◌-◌, true, false, length, get_or, sym, arith, ap, ◌∙◌}
use Rattle.theory_substitution.specs.Rule.{Rule}
use Rattle.theory_substitution.specs.RuleParts.{mate, parts}
use Rattle.theory_edge_to_edge.specs.EdgeTypes.{is_mirrored}
use Rattle.rule_model.specs.Views.{rule_of}
use Rattle.dissect_check.proofs.Mirrored.{lengths_differ, place_differs, places_agree}
use Rattle.dissect_check.proofs.subdivisions.is_mirrored.Goals as goal

-- m is the mate of ty, and n the number of ty's parts
module _ {A : Type 0} (r : Rule A) (ty m n : ℕ) (m_is : m ≡ mate r ty) (n_is : n ≡ length (parts r ty)) where
  counts_differ : (k : ℕ) → k ≡ length (parts r m) → k ≢ n → false ≡ is_mirrored r ty
  counts_differ k k_is h =
      lengths_differ (mate r) (parts r ty) (parts r (mate r ty)) (λ e. h (k_is ∙ ap (λ x. length (parts r x)) m_is ∙ e ∙ sym n_is))

  part_differs : (i p q s : ℕ) → i < n → p ≡ get_or (parts r m) i 0 → q ≡ get_or (parts r ty) (n - 1 - i) 0
      → s ≡ mate r q → p ≢ s → false ≡ is_mirrored r ty
  part_differs i p q s l p_is q_is s_is h =
      place_differs (mate r) (parts r ty) (parts r (mate r ty)) i (omega arith) (λ e. h (p_is ∙ ap (λ x. get_or (parts r x) i 0) m_is ∙ e
      ∙ ap (λ x. mate r (get_or (parts r ty) (x - 1 - i) 0)) (sym n_is) ∙ ap (mate r) (sym q_is) ∙ sym s_is))

  parts_agree : (k i : ℕ) → k ≡ length (parts r m) → k ≡ n → n ≤ i
      → ((j : ℕ) → j < i → get_or (parts r m) j 0 ≡ mate r (get_or (parts r ty) (n - 1 - j) 0)) → true ≡ is_mirrored r ty
  parts_agree k i k_is e l h =
      places_agree (mate r) (parts r ty) (parts r (mate r ty)) (ap (λ x. length (parts r x)) (sym m_is) ∙ sym k_is ∙ e ∙ n_is)
      (λ j q. ap (λ x. get_or (parts r x) j 0) (sym m_is) ∙ h j (omega arith) ∙ ap (λ x. mate r (get_or (parts r ty) (x - 1 - j) 0)) n_is)

pub returns-then-part_count-count : goal.returns-then-part_count-count
returns-then-part_count-count c =
    counts_differ (rule_of c.args.rule.now) c.args.ty c.mate-mate.result c.part_count-count.result
    c.mate-mate.ensures.lists c.part_count-count.ensures.lists
    c.part_count.result c.part_count.ensures.lists c.if-part_count-count.true

pub returns-then-part-mate : goal.returns-then-part-mate
returns-then-part-mate c =
    part_differs (rule_of c.args.rule.now) c.args.ty c.mate-mate.result c.part_count-count.result
    c.mate-mate.ensures.lists c.part_count-count.ensures.lists
    c.loop-i.i c.part.result c.part-in-loop-i.result c.mate.result (omega arith) c.part.ensures.lists
    c.part-in-loop-i.ensures.lists c.mate.ensures.lists c.if-part-mate.true

pub returns : goal.returns
returns c =
    parts_agree (rule_of c.args.rule.now) c.args.ty c.mate-mate.result c.part_count-count.result
    c.mate-mate.ensures.lists c.part_count-count.ensures.lists
    c.part_count.result c.loop-i.i c.part_count.ensures.lists c.if-part_count-count.false (omega arith) c.loop-i.invariant
