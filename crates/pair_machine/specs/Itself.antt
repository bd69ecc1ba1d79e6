-- Children that meet themselves. No place in the plane allows it, but tables that fit together may.
use Rattle.std.specs.Prelude.{◌≡◌, ℕ, Some}
use Rattle.theory_addresses.specs.Contact.{inner}
use Rattle.theory_addresses.specs.Tables.{Tables, contact_of}

-- an edge of the child is an edge of the same child in the other direction
pub record MeetsItself (t : Tables) (kind child : ℕ) : Type 0 where
  pub edge : ℕ
  pub back : ℕ
  pub is : contact_of t kind child edge ≡ Some (inner child back)

-- some child of this kind does
pub record HasMeeting (t : Tables) (kind : ℕ) : Type 0 where
  pub child : ℕ
  pub itself : MeetsItself t kind child

-- some child does
pub record SomeMeetsItself (t : Tables) : Type 0 where
  pub kind : ℕ
  pub has : HasMeeting t kind
