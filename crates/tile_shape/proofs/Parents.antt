-- The parent of a child that there is.
use Rattle.std.proofs.Common.{◌≡◌, ℕ, ◌<◌, List, length, slice_get, Some, None, refl}
use Rattle.std.proofs.lemmas.Option.{slice_get_within}
use Rattle.std.specs.declared.option.Option.{Option}
use Rattle.std.specs.Option.{option_and_then}
use Rattle.theory_addresses.specs.Address.{child_kind}

-- a child's parent is one of the kinds
pub parent_exists : (children : List (List ℕ)) (parent child kind : ℕ) → child_kind children parent child ≡ Some kind → parent < length children
parent_exists children parent child kind e = at_row (slice_get children parent) refl e
  where
    at_row : (o : Option (List ℕ)) → slice_get children parent ≡ o
        → option_and_then (λ row. slice_get row child) o ≡ Some kind → parent < length children
    at_row None f g = absurd (cc g)
    at_row (Some row) f g = slice_get_within children parent row f
