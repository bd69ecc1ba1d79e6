-- The descent from a meeting.
use Rattle.std.specs.Prelude.{◌≡◌, ◌+◌, ◌/◌, ◌%◌, ℕ, List, Some, IsSome, slice_get}
use Rattle.theory_addresses.specs.Address.{Address, Fits}
use Rattle.theory_addresses.specs.Tables.{Tables, child_kinds, type_of}
use Rattle.tile_shape.specs.declared.step.Step.{Step}
use Rattle.transducer_core.specs.declared.climb.Meeting.{Meeting}
use Rattle.transducer_core.specs.declared.descent.Side.{Side}
use Rattle.transducer_core.specs.Climbing.{MeetsAt}
use Rattle.transducer_core.specs.Merged.{HasEntry}

-- an address that fits, and an edge of it that climbs to a meeting by these parts
pub record StartsDown (t : Tables) (a : Address) (e : ℕ) (m : Meeting) (parts : List ℕ) : Type 0 where
  pub fits : Fits (child_kinds t) a
  pub edge_exists : IsSome (type_of t a.kind e)
  pub meets : MeetsAt t a e m parts

-- one level down: the word that is looked up, the digit that has its child, and the side of that child
pub record GoesDown (starts words kinds : List ℕ) (side : Side) (part : ℕ) (digit : Step)
    (below : Side) : Type 0 where
  pub word : ℕ
  pub entry : HasEntry starts words (side.row + side.edge) part word
  pub digit_is : digit ≡ record
      { child = (side.row + word % 256) % 256; parent = (side.row + word % 256) / 256 }
  pub kind_is : slice_get kinds (side.row + word % 256) ≡ Some (below.row + 255)
  pub edge_is : below.edge ≡ word / 256
