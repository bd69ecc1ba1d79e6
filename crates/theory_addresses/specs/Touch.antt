-- When edges of two tiles of one supertile touch, by their traces.
use Rattle.std.specs.Prelude.{◌≡◌, ℕ, ◌+◌, List, [], ◌∷◌, Some, slice_get, take, drop}
use Rattle.theory_addresses.specs.Address.{Step, Address, depth, Fits}
use Rattle.theory_addresses.specs.Contact.{inner}
use Rattle.theory_addresses.specs.Tables.{Tables, child_kinds, contact_of}
use Rattle.theory_addresses.specs.Trace.{Cut, IsTrace}

-- at each place the second number is s - 1 minus the first; s is the number of parts of the edge that is cut
-- there
abbrev pub AreMirrored : List Cut → List Cut → Type 0
AreMirrored [] [] = Unit {0}
AreMirrored [] (d ∷ ds) = ⊥
AreMirrored (c ∷ cs) [] = ⊥
AreMirrored (c ∷ cs) (d ∷ ds) = (d.part + (c.part + 1) ≡ c.parts) × AreMirrored cs ds

-- (a, e) touches (b, f): they have one depth, and there is a level j, at least 1, with these four things
pub record Touches (t : Tables) (a : Address) (e : ℕ) (b : Address) (f : ℕ) : Type 0 where
  pub one_depth : depth a ≡ depth b
  -- j - 1, and the digits of that number
  pub below : ℕ
  pub x : Step
  pub y : Step
  pub digit_x : slice_get a.digits below ≡ Some x
  pub digit_y : slice_get b.digits below ≡ Some y
  -- first, they have equal kinds at level j and equal digits from number j up
  pub one_parent : x.parent ≡ y.parent
  pub one_above : drop (below + 1) a.digits ≡ drop (below + 1) b.digits
  -- second, the first j - 1 digits of each have a trace
  pub edge_x : ℕ
  pub edge_y : ℕ
  pub cuts_x : List Cut
  pub cuts_y : List Cut
  pub trace_x : IsTrace t e (take below a.digits) edge_x cuts_x
  pub trace_y : IsTrace t f (take below b.digits) edge_y cuts_y
  -- third, in the kind at level j the two edges are inner to each other
  pub meet : contact_of t x.parent x.child edge_x ≡ Some (inner y.child edge_y)
  -- fourth, the parts are mirrored
  pub mirrored : AreMirrored cuts_x cuts_y

-- of the addresses that fit, with their edges, (b, f) and no other is touched
pub record IsOnlyTouched (t : Tables) (a : Address) (e : ℕ) (b : Address) (f : ℕ) : Type 0 where
  pub touched : Touches t a e b f
  pub fits : Fits (child_kinds t) b
  pub only : (c : Address) (g : ℕ) → Fits (child_kinds t) c → Touches t a e c g → (c ≡ b) × (g ≡ f)
