-- What the source and the sink in memory that fail by a list hold.
use Rattle.std.specs.Prelude.{◌≡◌, ℕ, ◌<◌, List, [], length}
use Rattle.tile_io.specs.Plan.{Plan, first_plan}

-- a source: the bytes left, how many it gives in a call at most, and which calls fail
pub record MemGiven : Type 0 where
  pub left : List ℕ
  pub most : ℕ
  pub plan : Plan

-- a sink: the room in bytes, the bytes taken, how many it takes in a call at most, and which calls fail
pub record MemTaken : Type 0 where
  pub room : ℕ
  pub kept : List ℕ
  pub most : ℕ
  pub plan : Plan

-- at first all bytes are left
abbrev pub first_given : List ℕ → ℕ → List ℕ → MemGiven
first_given bytes most fails = record { left = bytes; most = most; plan = first_plan fails }

-- at first no byte is taken
abbrev pub first_taken : ℕ → ℕ → List ℕ → MemTaken
first_taken room most fails =
    record { room = room; kept = []; most = most; plan = first_plan fails }

-- a piece that is not empty meets a full room
abbrev pub MeetsFullRoom : MemTaken → List ℕ → Type 0
MeetsFullRoom sink piece = (0 < length piece) × (length sink.kept ≡ sink.room)
