-- Edges with the same parts, and the keys of nodes: two nodes have one key if and only if they have one row.
use Rattle.std.specs.Prelude.{◌≡◌, ◌<◌, ◌≤◌, ℕ, ◌+◌, ◌*◌, ◌/◌, ◌%◌, List, Some, length, slice_get, get_or}
use Rattle.theory_addresses.specs.Tables.{Tables, parts_of}
use Rattle.pair_machine.specs.Nodes.{Node}
use Rattle.pair_machine.specs.Numbers.{width_of, mine_of, theirs_of}

-- the least number whose edge has the same parts as that of a number
pub record IsFirstAlike (t : Tables) (number first : ℕ) : Type 0 where
  pub within : first ≤ number
  pub same : parts_of t (first / 12) (first % 12) ≡ parts_of t (number / 12) (number % 12)
  pub none_before : (m : ℕ) → m < first
      → parts_of t (m / 12) (m % 12) ≡ parts_of t (number / 12) (number % 12) → ⊥

-- the list has it for each number
pub record AreFirstAlike (t : Tables) (firsts : List ℕ) : Type 0 where
  pub size : length firsts ≡ width_of t
  pub each : (number first : ℕ) → slice_get firsts number ≡ Some first → IsFirstAlike t number first

-- the key of a node: the number of the node of the first edges alike
abbrev pub row_key : ℕ → List ℕ → Node → ℕ
row_key width firsts n = get_or firsts (mine_of n) 0 * width + get_or firsts (theirs_of n) 0
