-- Two addresses read from coarse to fine at once: the pairs of edges that are left.
use Rattle.std.specs.Prelude.{ℕ, Bool, true, false, ◌&&◌, ◌==◌, List, [], ◌∷◌, ◌++◌, length, Option, Some, None}
use Rattle.std.specs.List.{flat_map}
use Rattle.theory_addresses.specs.Address.{Step}
use Rattle.theory_addresses.specs.Contact.{Contact, inner, outer}
use Rattle.theory_addresses.specs.Search.{below}
use Rattle.theory_addresses.specs.Tables.{Tables, contact_of, contacts_of}
use Rattle.pair_machine.specs.Between.{Pair}
use Rattle.pair_machine.specs.Nodes.{Node, RowPair, row_of}

-- the same digits
abbrev pub same_steps : List Step → List Step → Bool
same_steps [] [] = true
same_steps [] (y ∷ ys) = false
same_steps (x ∷ xs) [] = false
same_steps (x ∷ xs) (y ∷ ys) = (x.child == y.child) && ((x.parent == y.parent) && same_steps xs ys)

-- the value, if the test passes
abbrev pub only_if : {A : Type 0} → Bool → A → List A
only_if true x = x ∷ []
only_if false x = []

-- an inner contact of edge e with an edge of child b
abbrev pub edge_met_by : ℕ → ℕ → Option Contact → List Pair
edge_met_by e b None = []
edge_met_by e b (Some (inner c f)) = only_if (c == b) (record { mine = e; theirs = f })
edge_met_by e b (Some (outer f p)) = []

-- the inner contacts between two children of a kind
unfoldable pub between_children : Tables → ℕ → ℕ → ℕ → List Pair
between_children t k a b =
    flat_map (λ e. edge_met_by e b (contact_of t k a e)) (below (λ e. e) (length (contacts_of t k a)))

-- a pair of a row, if these children are the ones read
abbrev pub left_one : RowPair → ℕ → ℕ → List Pair
left_one r a b = only_if ((r.mine.child == a) && (r.theirs.child == b))
    (record { mine = r.mine.edge; theirs = r.theirs.edge })

-- what a row leaves, when these children are read
unfoldable pub left_of : List RowPair → ℕ → ℕ → List Pair
left_of row a b = flat_map (λ (r : RowPair). left_one r a b) row

-- the node of a pair, below two digits
abbrev pub node_of : Step → Step → Pair → Node
node_of x y p = record { kind = x.parent; edge = p.mine; other = y.parent; back = p.theirs }

-- the pairs of two digits of one parent, if the digits above are the same
abbrev pub first_pairs : Tables → Step → Step → Bool → List Pair
first_pairs t x y false = []
first_pairs t x y true = between_children t x.parent x.child y.child

-- What is left of the pairs above two digits: the rows of the nodes are read with the digits. If the digits
-- above are the same, the contacts are pairs as well.
abbrev pub step_pairs : Tables → Step → Step → Bool → List Pair → List Pair
step_pairs t x y fresh ps = first_pairs t x y fresh
    ++ flat_map (λ p. left_of (row_of t (node_of x y p)) x.child y.child) ps

-- the pairs that are left when the digits are read, the coarsest first
abbrev pub pairs_read : Tables → List Step → List Step → List Pair
pairs_read t [] ys = []
pairs_read t (x ∷ xs) [] = []
pairs_read t (x ∷ xs) (y ∷ ys) =
    step_pairs t x y ((x.parent == y.parent) && same_steps xs ys) (pairs_read t xs ys)
