-- The edges of a polygon by their numbers.
use Rattle.std.proofs.Common.{◌≡◌, ℕ, zero, suc, ◌<◌, ◌≤◌, List, [], ◌∷◌, length, get_or, cond, Bool, true, false, Some, slice_get, nat_lt, refl, sym, ap, ◌∙◌, arith}
use Rattle.std.proofs.lemmas.Bool.{leb-true, le-leb}
use Rattle.theory_windows.specs.Outlines.{edges_from}
use Rattle.theory_windows.specs.EdgeNumbers.{EdgesByNumber}

-- the end of edge number e from cur along vs and back to first
abbrev end_from : {A : Type 0} → A → A → List A → ℕ → A
end_from o first [] e = first
end_from o first (v ∷ vs) zero = v
end_from o first (v ∷ vs) (suc e) = end_from o first vs e

from-number : {A : Type 0} (o first cur : A) (vs : List A) (e : ℕ) → e ≤ length vs
    → slice_get (edges_from first cur vs) e ≡ Some
    (record { from = get_or (cur ∷ vs) e o; to = end_from o first vs e })
from-number o first cur [] zero h = refl
from-number o first cur [] (suc e) h = absurd (omega arith)
from-number o first cur (v ∷ vs) zero h = refl
from-number o first cur (v ∷ vs) (suc e) h = from-number o first v vs e (omega arith)

end-next : {A : Type 0} (o first : A) (vs : List A) (e : ℕ) → e < length vs → end_from o first vs e ≡ get_or vs e o
end-next o first [] e h = absurd (omega arith)
end-next o first (v ∷ vs) zero h = refl
end-next o first (v ∷ vs) (suc e) h = end-next o first vs e (omega arith)

end-last : {A : Type 0} (o first : A) (vs : List A) (e : ℕ) → length vs ≤ e → end_from o first vs e ≡ first
end-last o first [] e h = refl
end-last o first (v ∷ vs) zero h = absurd (omega arith)
end-last o first (v ∷ vs) (suc e) h = end-last o first vs e (omega arith)

end-number : {A : Type 0} (o first : A) (vs : List A) (e : ℕ)
    → end_from o first vs e ≡ get_or (first ∷ vs) (cond (nat_lt (suc e) (suc (length vs))) (suc e) 0) o
end-number o first vs e = at_test (nat_lt (suc e) (suc (length vs))) refl
  where
    below : suc (suc e) ≤ suc (length vs) → e < length vs
    below h = omega arith

    above : (suc (suc e) ≤ suc (length vs) → ⊥) → length vs ≤ e
    above h = grind (arith, h)

    at_test : (b : Bool) → nat_lt (suc e) (suc (length vs)) ≡ b → end_from o first vs e ≡ get_or (first ∷ vs) (cond b (suc e) 0) o
    at_test true k = end-next o first vs e (below (leb-true (suc (suc e)) (suc (length vs)) k))
    at_test false k = end-last o first vs e (above (λ h. absurd (cc (sym k ∙ le-leb (suc (suc e)) (suc (length vs)) h))))

pub edges_by_number : {A : Type 0} → EdgesByNumber A
edges_by_number o [] e h = absurd (omega arith)
edges_by_number o (v ∷ vs) e h = from-number o v v vs e (omega arith)
    ∙ ap (λ w. Some (record { from = get_or (v ∷ vs) e o; to = w })) (end-number o v vs e)
