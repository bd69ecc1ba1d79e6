-- Rows that are found by the keys of nodes.
use Rattle.std.specs.Prelude.{◌≡◌, ◌*◌, ℕ, List, Option, Some, length, slice_get}
use Rattle.theory_addresses.specs.Search.{IsAmong}
use Rattle.theory_addresses.specs.Tables.{Tables}
use Rattle.transducer_core.specs.Once.{HasNoneTwice}
use Rattle.pair_machine.specs.Alike.{AreFirstAlike, row_key}
use Rattle.pair_machine.specs.Nodes.{Node, RowPair, IsNode, row_of}
use Rattle.pair_machine.specs.Numbers.{width_of}

-- this place has the row of a node that has this key
pub record RowStandsAt (t : Tables) (firsts : List ℕ) (rows : List (List RowPair))
    (key place : ℕ) : Type 0 where
  pub node : Node
  pub is_node : IsNode t node
  pub key_is : row_key (width_of t) firsts node ≡ key
  pub there : slice_get rows place ≡ Some (row_of t node)

-- the row is that of a node whose key has a place
pub record HasNodeKey (t : Tables) (firsts : List ℕ) (places : List (Option ℕ))
    (row : List RowPair) : Type 0 where
  pub node : Node
  pub is_node : IsNode t node
  pub row_is : row ≡ row_of t node
  pub place : ℕ
  pub placed : slice_get places (row_key (width_of t) firsts node) ≡ Some (Some place)

-- the rows are distinct, and are found by the keys of their nodes
pub record IsIndexed (t : Tables) (firsts : List ℕ) (places : List (Option ℕ))
    (rows : List (List RowPair)) : Type 0 where
  pub firsts_are : AreFirstAlike t firsts
  pub size : length places ≡ width_of t * width_of t
  pub once : HasNoneTwice rows
  pub stand : (key place : ℕ) → slice_get places key ≡ Some (Some place) → RowStandsAt t firsts rows key place
  pub have_keys : (row : List RowPair) → IsAmong row rows → HasNodeKey t firsts places row
