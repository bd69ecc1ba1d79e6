-- The names `a` to `z`, by their numbers from 0, and the addresses to which they are bound.
use Rattle.std.specs.Prelude.{◌≡◌, ℕ, List, Option, Some, None, get_or, set, replicate}
use Rattle.theory_addresses.specs.Address.{Address}

-- for each of the 26 names, the address to which it is bound, if it is bound
abbrev pub Bindings : Type 0
Bindings = List (Option Address)

abbrev pub none_bound : Bindings
none_bound = replicate 26 None

-- the address to which a name is bound, if it is bound
abbrev pub address_of_name : Bindings → ℕ → Option Address
address_of_name names name = get_or names name None

-- a name is bound to this address, or to none
abbrev pub IsBound : Bindings → ℕ → Address → Type 0
IsBound names name a = address_of_name names name ≡ Some a

abbrev pub IsUnbound : Bindings → ℕ → Type 0
IsUnbound names name = address_of_name names name ≡ None

-- the bindings after a name is bound to an address, which replaces an earlier one
abbrev pub bind : Bindings → ℕ → Address → Bindings
bind names name a = set names name (Some a)
