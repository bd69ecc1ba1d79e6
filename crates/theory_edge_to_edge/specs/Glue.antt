-- The edges along which halves of a tile are glued.
use Rattle.std.specs.Prelude.{ℕ, Bool, not, ◌&&◌, ◌||◌, List, [], ◌∷◌, length, get_or, nat_eq, false, cond}
use Rattle.std.specs.List.{list_any, flat_map}
use Rattle.theory_substitution.specs.Rule.{Rule}
use Rattle.theory_substitution.specs.RuleParts.{mate, edge_types}
use Rattle.theory_addresses.specs.Search.{some_below, below}

-- glue type number i
abbrev pub glue_type : {A : Type 0} → Rule A → ℕ → ℕ
glue_type r i = get_or r.glue i 0

-- k once for each edge of this type
abbrev pub once_each : ℕ → ℕ → List ℕ → List ℕ
once_each k ty [] = []
once_each k ty (t ∷ ts) = cond (nat_eq t ty) (k ∷ once_each k ty ts) (once_each k ty ts)

-- the kinds of the edges of a type: a kind as often as it has an edge of the type
abbrev pub holders : {A : Type 0} → Rule A → ℕ → List ℕ
holders r ty = flat_map (λ k. once_each k ty (edge_types r k)) (below (λ k. k) (length r.kinds))

-- kind k has an edge of one of the first n glue types or their mates
abbrev pub is_glued_before : {A : Type 0} → Rule A → ℕ → ℕ → Bool
is_glued_before r n k =
    some_below n (λ i. list_any (λ ty. nat_eq ty (glue_type r i) || nat_eq ty (mate r (glue_type r i)))
    (edge_types r k))

-- one edge and one edge, of two kinds, neither of which has an edge of an earlier glue type
abbrev pub are_halves : {A : Type 0} → Rule A → ℕ → List ℕ → List ℕ → Bool
are_halves r n (a ∷ []) (b ∷ []) = not (nat_eq a b) && not (is_glued_before r n a)
    && not (is_glued_before r n b)
are_halves r n ks ls = false

-- Glue type number i is not its own mate. Among all kinds, exactly one edge has it and exactly one has its
-- mate; these are of two kinds. Neither kind has an edge of an earlier glue type or its mate.
abbrev pub glues_halves : {A : Type 0} → Rule A → ℕ → Bool
glues_halves r i =
    not (nat_eq (mate r (glue_type r i)) (glue_type r i))
    && are_halves r i (holders r (glue_type r i)) (holders r (mate r (glue_type r i)))
