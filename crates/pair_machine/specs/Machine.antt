-- What a machine holds.
use Rattle.std.specs.Prelude.{◌≡◌, ◌↔◌, ◌≤◌, ◌⊎◌, ℕ, Bool, true, List, ◌++◌, length, Some, slice_get}
use Rattle.theory_addresses.specs.Coherent.{IsCoherent}
use Rattle.theory_addresses.specs.Search.{IsAmong}
use Rattle.theory_addresses.specs.Tables.{Tables}
use Rattle.transducer_core.specs.Once.{HasNoneTwice}
use Rattle.pair_machine.specs.Itself.{SomeMeetsItself}
use Rattle.pair_machine.specs.Nodes.{Node, RowPair, IsNode, IsRow, row_of}
use Rattle.pair_machine.specs.Numbers.{width_of, node_number}

-- the row of a node is found by its number
pub record IsRowFound (width : ℕ) (numbers : List ℕ) (rows : List (List RowPair)) (n : Node)
    (row : List RowPair) : Type 0 where
  pub place : ℕ
  pub numbered : slice_get numbers (node_number width n) ≡ Some place
  pub there : slice_get rows place ≡ Some row

-- whether some child meets itself; all nodes and all rows, each exactly once, and each row by the number of
-- its node
pub record IsMachine (t : Tables) (itself : Bool) (nodes : List Node) (numbers : List ℕ)
    (rows : List (List RowPair)) : Type 0 where
  pub coherent : IsCoherent t
  pub itself_is : (itself ≡ true) ↔ SomeMeetsItself t
  pub nodes_once : HasNoneTwice nodes
  pub nodes_all : (n : Node) → IsAmong n nodes ↔ IsNode t n
  pub nodes_few : length nodes ≤ 36864
  pub rows_once : HasNoneTwice rows
  pub rows_all : (row : List RowPair) → IsAmong row rows ↔ IsRow t row
  pub rows_few : length rows ≤ length nodes
  pub found : (n : Node) → IsNode t n → IsRowFound (width_of t) numbers rows n (row_of t n)

-- the rows, which are distinct, have the row at that place, and at most it joined them
pub record IsKeptOnce (old new : List (List RowPair)) (row : List RowPair) (place : ℕ) : Type 0 where
  pub rest : List (List RowPair)
  pub grown : new ≡ old ++ rest
  pub at_most_one : length rest ≤ 1
  pub there : slice_get new place ≡ Some row
  pub once : HasNoneTwice new
  pub only : (r : List RowPair) → IsAmong r new → IsAmong r old ⊎ (r ≡ row)
