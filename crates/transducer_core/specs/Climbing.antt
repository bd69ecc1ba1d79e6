-- The climb from an edge, in the words of traces.
use Rattle.std.specs.Prelude.{◌≡◌, ◌+◌, ◌*◌, ◌<◌, ◌/◌, ◌%◌, ◌^◌, ℕ, List, Some, Result, Ok, Err, length, map, reverse, take, slice_get, slice_set}
use Rattle.theory_addresses.specs.Address.{Step, Address, depth}
use Rattle.theory_addresses.specs.Contact.{inner}
use Rattle.theory_addresses.specs.Tables.{Tables, contact_of}
use Rattle.theory_addresses.specs.Trace.{Cut, IsTrace}
use Rattle.transducer_core.specs.declared.climb.Meeting.{Meeting}

-- the first digits, this number of them, have with edge e a trace to the edge `own`, by these parts, the
-- finest first
pub record Rises (t : Tables) (a : Address) (e level own : ℕ) (parts : List ℕ) : Type 0 where
  pub cuts : List Cut
  pub parts_are : parts ≡ map (λ (c : Cut). c.part) (reverse cuts)
  pub trace : IsTrace t e (take level a.digits) own cuts

-- and that edge is also the edge of another child, which the word names
pub record MeetsAt (t : Tables) (a : Address) (e : ℕ) (m : Meeting) (parts : List ℕ) : Type 0 where
  pub own : ℕ
  pub step : Step
  pub rises : Rises t a e m.level own parts
  pub digit : slice_get a.digits m.level ≡ Some step
  pub at_is : m.at ≡ 256 * step.parent + step.child
  pub met : contact_of t step.parent step.child own ≡ Some (inner (m.word % 256) (m.word / 256 % 256))
  pub count : length parts ≡ m.level

-- how a climb ends: on the top's own edge, or at the level at which the edge is another child's too
abbrev pub EndsClimb : Tables → Address → ℕ → List ℕ → Result ℕ Meeting → Type 0
EndsClimb t a e parts (Ok own) = Rises t a e (depth a) own (take (depth a) parts)
EndsClimb t a e parts (Err m) = MeetsAt t a e m (take m.level parts)

-- one level up by the word of an outer contact: the parent's edge is the next, and the part is kept
pub record GoesUp (before : List ℕ) (level word next : ℕ) (after : List ℕ) : Type 0 where
  pub outer : word < 2 ^ 16
  pub edge : next ≡ word / 256
  pub kept : after ≡ slice_set before level (word % 256)
