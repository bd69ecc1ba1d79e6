-- The nodes of the pair machine: edges against edges, and the rows of child edges that meet along them.
use Rattle.std.specs.Prelude.{◌≡◌, ◌↔◌, ℕ, ◌-◌, List, [], ◌∷◌, length, Option, Some, None}
use Rattle.std.specs.List.{flat_map}
use Rattle.theory_addresses.specs.Contact.{ChildEdge, inner}
use Rattle.theory_addresses.specs.Search.{below, IsAmong}
use Rattle.transducer_core.specs.Once.{HasNoneTwice}
use Rattle.theory_addresses.specs.Tables.{Tables, child_kind_of, contact_of, part_of, part_count}

-- edge `edge` of kind `kind` against edge `back` of kind `other`
pub record Node : Type 0 where
  pub kind : ℕ
  pub edge : ℕ
  pub other : ℕ
  pub back : ℕ

-- a child edge on the one side, and the child edge on the other side that is the same in the other direction
pub record RowPair : Type 0 where
  pub mine : ChildEdge
  pub theirs : ChildEdge

-- both, if both exist
abbrev pub both_of : Option ChildEdge → Option ChildEdge → List RowPair
both_of None there = []
both_of (Some x) None = []
both_of (Some x) (Some y) = (record { mine = x; theirs = y }) ∷ []

-- the row of a node: part p of one edge with part s - 1 - p of the other, p from 0, where s is the number of
-- parts
unfoldable pub row_of : Tables → Node → List RowPair
row_of t n = flat_map
    (λ p. both_of (part_of t n.kind n.edge p) (part_of t n.other n.back (part_count t n.kind n.edge - 1 - p)))
    (below (λ p. p) (part_count t n.kind n.edge))

-- the node is that of two edges of children of kind k
pub record IsOfChildren (t : Tables) (k : ℕ) (mine : ChildEdge) (l : ℕ) (theirs : ChildEdge)
    (n : Node) : Type 0 where
  pub kind : child_kind_of t k mine.child ≡ Some n.kind
  pub edge : n.edge ≡ mine.edge
  pub other : child_kind_of t l theirs.child ≡ Some n.other
  pub back : n.back ≡ theirs.edge

-- the nodes: those of the inner contacts, and those of the pairs in the rows of nodes
pub data IsNode (t : Tables) : Node → Type 0 where
  first : {n : Node} (k a e b f : ℕ)
      → contact_of t k a e ≡ Some (inner b f)
      → IsOfChildren t k (record { child = a; edge = e }) k (record { child = b; edge = f }) n
      → IsNode t n
  further : {n : Node} (m : Node) (pair : RowPair)
      → IsNode t m
      → IsAmong pair (row_of t m)
      → IsOfChildren t m.kind pair.mine m.other pair.theirs n
      → IsNode t n

-- how many have a property: the length of a list of exactly those, each exactly once
pub record IsNumber {A : Type 0} (P : A → Type 0) (n : ℕ) : Type 0 where
  pub list : List A
  pub distinct : HasNoneTwice list
  pub members : (x : A) → IsAmong x list ↔ P x
  pub number : n ≡ length list

-- the rows of the nodes
abbrev pub IsRow : Tables → List RowPair → Type 0
IsRow t row = (n : Node) × IsNode t n × (row ≡ row_of t n)
