-- Tests of numbers and contacts that compute.
use Rattle.std.specs.Prelude.{ℕ, Bool, true, false, ◌&&◌, ◌==◌, List, [], ◌∷◌, Option, Some, None}
use Rattle.theory_addresses.specs.Contact.{Contact, ChildEdge, inner, outer}

-- there is a value, and it is this one
abbrev pub is_value : Option ℕ → ℕ → Bool
is_value None b = false
is_value (Some a) b = a == b

-- both are the same value, or both are none
abbrev pub same_option : Option ℕ → Option ℕ → Bool
same_option None None = true
same_option None (Some b) = false
same_option (Some a) o = is_value o a

-- they are the same one by one
abbrev pub same_options : List (Option ℕ) → List (Option ℕ) → Bool
same_options [] [] = true
same_options [] (p ∷ ps) = false
same_options (o ∷ os) [] = false
same_options (o ∷ os) (p ∷ ps) = same_option o p && same_options os ps

-- this inner contact
abbrev pub is_inner : Option Contact → ℕ → ℕ → Bool
is_inner None a e = false
is_inner (Some (inner b f)) a e = (b == a) && (f == e)
is_inner (Some (outer b f)) a e = false

-- this outer contact
abbrev pub is_outer : Option Contact → ℕ → ℕ → Bool
is_outer None a e = false
is_outer (Some (inner b f)) a e = false
is_outer (Some (outer b f)) a e = (b == a) && (f == e)

-- this child edge
abbrev pub is_child_edge : Option ChildEdge → ℕ → ℕ → Bool
is_child_edge None a e = false
is_child_edge (Some ce) a e = (ce.child == a) && (ce.edge == e)
