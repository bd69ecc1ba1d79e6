-- The uses of a kind: which child of which parent it is, ordered by parent and then by the number of the
-- child.
use Rattle.std.specs.Prelude.{ℕ, ◌+◌, List, [], ◌∷◌, ◌++◌, nat_eq, cond}
use Rattle.theory_addresses.specs.Address.{Step}

-- the uses of a kind among the children of one parent, of which these are those from number n on
abbrev pub uses_in_row : ℕ → ℕ → ℕ → List ℕ → List Step
uses_in_row kind parent n [] = []
uses_in_row kind parent n (c ∷ cs) =
    cond (nat_eq c kind) (record { child = n; parent = parent } ∷ uses_in_row kind parent (n + 1) cs)
    (uses_in_row kind parent (n + 1) cs)

-- the uses of a kind among the children of all parents, of which these are the rows of those from number n on
abbrev pub uses_in_rows : ℕ → ℕ → List (List ℕ) → List Step
uses_in_rows kind n [] = []
uses_in_rows kind n (row ∷ rows) = uses_in_row kind n 0 row ++ uses_in_rows kind (n + 1) rows

-- the uses of a kind in a table of child kinds
abbrev pub uses_in_order : List (List ℕ) → ℕ → List Step
uses_in_order children kind = uses_in_rows kind 0 children
