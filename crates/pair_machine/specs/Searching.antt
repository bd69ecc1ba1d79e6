-- The search for all nodes.
use Rattle.std.specs.Prelude.{◌≡◌, ◌⊎◌, ◌+◌, ◌*◌, ℕ, suc, Bool, true, false, List, [], ◌∷◌, ◌++◌, length, Option, Some, None, slice_get}
use Rattle.std.specs.List.{flat_map}
use Rattle.theory_addresses.specs.Contact.{Contact, ChildEdge, inner, outer}
use Rattle.theory_addresses.specs.Search.{below, IsAmong}
use Rattle.theory_addresses.specs.Tables.{Tables, kind_tables, child_kind_of, contact_of, contacts_of}
use Rattle.transducer_core.specs.Once.{HasNoneTwice}
use Rattle.pair_machine.specs.Nodes.{Node, RowPair}
use Rattle.pair_machine.specs.Numbers.{node_number, AreNumbersSmall}

-- the node of two kinds that there are
abbrev pub of_both : Option ℕ → ℕ → Option ℕ → ℕ → List Node
of_both None e there f = []
of_both (Some k) e None f = []
of_both (Some k) e (Some l) f = (record { kind = k; edge = e; other = l; back = f }) ∷ []

-- the node of two child edges
abbrev pub children_node : Tables → ℕ → ChildEdge → ℕ → ChildEdge → List Node
children_node t k mine l theirs =
    of_both (child_kind_of t k mine.child) mine.edge (child_kind_of t l theirs.child) theirs.edge

-- the node of a contact
abbrev pub contact_node : Tables → ℕ → ℕ → ℕ → Option Contact → List Node
contact_node t k a e None = []
contact_node t k a e (Some (inner b f)) =
    children_node t k (record { child = a; edge = e }) k (record { child = b; edge = f })
contact_node t k a e (Some (outer f p)) = []

-- the nodes of the first inner contacts of a child, of the first children of a kind, and of the first kinds
unfoldable pub child_nodes : Tables → ℕ → ℕ → ℕ → List Node
child_nodes t k a n = flat_map (λ e. contact_node t k a e (contact_of t k a e)) (below (λ e. e) n)

unfoldable pub kind_nodes : Tables → ℕ → ℕ → List Node
kind_nodes t k n = flat_map (λ a. child_nodes t k a (length (contacts_of t k a))) (below (λ a. a) n)

unfoldable pub first_nodes : Tables → ℕ → List Node
first_nodes t n = flat_map (λ k. kind_nodes t k (length (kind_tables t k).children)) (below (λ k. k) n)

-- the nodes of the pairs of a row
unfoldable pub row_nodes : Tables → Node → List RowPair → List Node
row_nodes t n row = flat_map (λ (r : RowPair). children_node t n.kind r.mine n.other r.theirs) row

-- how many are false
abbrev pub unseen : List Bool → ℕ
unseen [] = 0
unseen (true ∷ bs) = unseen bs
unseen (false ∷ bs) = suc (unseen bs)

-- nodes, each exactly once, and their numbers marked
pub record IsSeen (width : ℕ) (list : List Node) (seen : List Bool) : Type 0 where
  pub size : length seen ≡ width * width
  pub small : (n : Node) → IsAmong n list → AreNumbersSmall width n
  pub marked : (n : Node) → IsAmong n list → slice_get seen (node_number width n) ≡ Some true
  pub only : (i : ℕ) → slice_get seen i ≡ Some true → (n : Node) × IsAmong n list × (node_number width n ≡ i)
  pub distinct : HasNoneTwice list
  pub count : length list + unseen seen ≡ length seen

-- these candidates, and no others, joined the nodes that there were
pub record CoversCandidates (width : ℕ) (old new : List Node) (seen : List Bool)
    (candidates : List Node) : Type 0 where
  pub seen_now : IsSeen width new seen
  pub rest : List Node
  pub grown : new ≡ old ++ rest
  pub all : (n : Node) → IsAmong n candidates → IsAmong n new
  pub only : (n : Node) → IsAmong n new → IsAmong n old ⊎ IsAmong n candidates
