-- What a sink in memory holds.
use Rattle.std.specs.Prelude.{ℕ, ◌+◌, Bool, true, false, List, [], ◌++◌, length, nat_le, None, Some, if◌then◌else◌}
use Rattle.std.specs.declared.option.Option.{Option}

-- the room in bytes, the bytes kept, and whether every piece was kept so far
pub record Held : Type 0 where
  pub room : ℕ
  pub kept : List ℕ
  pub whole : Bool

-- at first no byte is kept
abbrev pub empty_held : ℕ → Held
empty_held room = record { room = room; kept = []; whole = true }

-- a piece is kept if there is room for it, and is dropped otherwise
abbrev pub held_after : Held → List ℕ → Held
held_after held piece =
    if nat_le (length held.kept + length piece) held.room
    then record held { kept = held.kept ++ piece }
    else record held { whole = false }

-- the bytes taken are reported until a piece was dropped
abbrev pub told : Held → Option (List ℕ)
told held = if held.whole then Some held.kept else None
