-- What reading a text says of the tiling's own table of child kinds.
use Rattle.std.proofs.Common.{◌≡◌, ℕ, List, Ok, Err, IsOk, refl, sym, ap, ◌∙◌, subst}
use Rattle.std.specs.Prelude.{Result}
use Rattle.theory_addresses.specs.Address.{Address}
use Rattle.tile_shape.specs.AddressIn.{address_of_text as address_of_text}
use Rattle.tile_shape.specs.declared.address_fault.AddressFault.{AddressFault}
use Rattle.c_values.specs.Statuses.{bad_address}

abbrev read_as : Address → Result Address AddressFault
read_as a = Ok a

pub ok_read : (u v : List (List ℕ)) (text : List ℕ) (a b : Address) → u ≡ v → address_of_text u text ≡ Ok a → a ≡ b → address_of_text v text ≡ Ok b
ok_read u v text a b same read e = subst (λ w. address_of_text w text ≡ read_as a) same read ∙ ap read_as e

pub ok_not_refused : (u v : List (List ℕ)) (text : List ℕ) (a : Address) → u ≡ v → address_of_text u text ≡ Ok a
    → (0 ≡ bad_address → ¬ IsOk (address_of_text v text)) × ((¬ IsOk (address_of_text v text)) → 0 ≡ bad_address)
ok_not_refused u v text a same read =
    (λ e. absurd (cc e), λ none. absurd (none (subst IsOk (sym (ok_read u v text a a same read refl)) refl)))

pub refused_not_ok : (u v : List (List ℕ)) (text : List ℕ) (fault : AddressFault) → u ≡ v → address_of_text u text ≡ Err fault
    → (4 ≡ bad_address → ¬ IsOk (address_of_text v text)) × ((¬ IsOk (address_of_text v text)) → 4 ≡ bad_address)
refused_not_ok u v text fault same read = (
  λ _ read_ok. none fault (subst IsOk (subst
      (λ w. address_of_text w text ≡ (let r : Result Address AddressFault = Err fault in r)) same read)
      read_ok),
  λ _. refl,
)
  where
    none : (x : AddressFault) → IsOk (let r : Result Address AddressFault = Err x in r) → ⊥
    none x f = absurd (cc f)
