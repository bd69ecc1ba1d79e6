-- The glue edge of one more kind.
use Rattle.std.proofs.Common.{◌≡◌, inl, inr, ℕ, ◌+◌, ◌<◌, List, [], ◌∷◌, ◌++◌, length, get_or, Option, None, sym, ap, ◌∙◌, subst, arith, length-append}
use Rattle.std.proofs.lemmas.Bool.{cases_lt}
use Rattle.std.proofs.Math.Seq.{get_or-append_seam}
use Rattle.rule_model.specs.Tiling.{Tiling}
use Rattle.half_glue.specs.declared.glue_side.GlueSide.{GlueSide}
use Rattle.half_glue.specs.Sides.{IsSideOf}
use Rattle.half_glue.proofs.Elements.{get_or-front}

-- so it is with the first n kinds
abbrev pub AreFirstSides : Tiling → ℕ → List (Option GlueSide) → Type 0
AreFirstSides t n sides = (length sides ≡ n) × ((k : ℕ) → k < n → IsSideOf t k (get_or sides k None))

pub side-more : (t : Tiling) (n : ℕ) (sides : List (Option GlueSide)) (side : Option GlueSide)
    → AreFirstSides t n sides → IsSideOf t n side → AreFirstSides t (n + 1) (sides ++ side ∷ [])
side-more t n sides side before own = (
  omega (arith, before.0, length-append sides (side ∷ [])),
  λ k l. elim (cases_lt k n) [
    | inl b ↦ subst (IsSideOf t k) (sym (get_or-front sides (side ∷ []) k None (omega (arith, b, before.0)))) (before.1 k b)
    | inr b ↦
        let same : length sides ≡ k = omega (arith, b, l, before.0) in
        subst (IsSideOf t k) (sym (get_or-append_seam sides side [] None)
        ∙ ap (λ i. get_or (sides ++ side ∷ []) i None) same)
        (subst (λ i. IsSideOf t i side) (sym before.0 ∙ same) own)
  ],
)
