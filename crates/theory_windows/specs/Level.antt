-- The level of digits relative to other digits: the least number from which on both are the same.
use Rattle.std.specs.Prelude.{◌≡◌, ◌↔◌, ℕ, suc, zero, ◌≤◌, Bool, true, List, [], ◌∷◌, ◌++◌, cond, length, take, drop}

-- One digit more at the fine end: one level more if the digits after it differ. Otherwise the level is 0 or
-- 1, as this digit is the same or not.
abbrev pub level_with : ℕ → Bool → ℕ
level_with zero same = cond same 0 1
level_with (suc n) same = suc (suc n)

abbrev pub level_of : {D : Type 0} → (D → D → Bool) → List D → List D → ℕ
level_of same [] es = 0
level_of same (d ∷ ds) [] = 0
level_of same (d ∷ ds) (e ∷ es) = level_with (level_of same ds es) (same d e)

-- of two lists of one length: the level is at most n if and only if the digits from number n up are the same
abbrev pub LevelTells : Type 0 → Type 0
LevelTells D =
    (same : D → D → Bool) → ((d e : D) → (same d e ≡ true) ↔ (d ≡ e)) → (ds es : List D)
    → length ds ≡ length es
    → (n : ℕ) → (level_of same ds es ≤ n) ↔ (drop n ds ≡ drop n es)

-- Digits followed by the others have at most their own number as level. Digits whose level is at most n are
-- of this form: n digits, followed by the others.
pub record LiftsAreOfDepth (D : Type 0) (same : D → D → Bool) (es : List D) : Type 0 where
  pub lift : (ds : List D) → length ds ≤ length es → level_of same (ds ++ drop (length ds) es) es ≤ length ds
  pub lifted : (ds : List D) → length ds ≡ length es → (n : ℕ) → level_of same ds es ≤ n
      → ds ≡ take n ds ++ drop n es

abbrev pub LiftsTell : Type 0 → Type 0
LiftsTell D = (same : D → D → Bool) → ((d e : D) → (same d e ≡ true) ↔ (d ≡ e)) → (es : List D)
    → LiftsAreOfDepth D same es
