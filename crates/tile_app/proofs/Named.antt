-- What is read of the text of an address.
use Rattle.std.proofs.Common.{◌≡◌, ℕ, List, Result, Ok, Err, is_ok, IfOk, IfErr, OnErr, sym, ap, ap₂, ◌∙◌, subst}
use Rattle.theory_addresses.specs.Address.{Address}
use Rattle.rule_model.specs.Tiling.{Tiling, children}
use Rattle.tile_shape.specs.Accepted.{IsAcceptedAddress}
use Rattle.tile_shape.specs.AddressIn.{address_of_text, AnswersAddress}
use Rattle.tile_shape.specs.declared.address.Address as program
use Rattle.tile_shape.specs.declared.address_fault.AddressFault.{AddressFault}
use Rattle.tile_shape.specs.Refused.{IsFaultOf}
use Rattle.tile_shape.specs.Text.{address_text}
use Rattle.tile_app.specs.Tile.{IsTile, IsNoTile, is_tile}

module _ (t : Tiling) (text bytes : List ℕ) (same : bytes ≡ text) (rows : List (List ℕ)) (are : rows ≡ children t) where
  pub tile_named : {A : Type 0} (view : A → Address) (result : Result A AddressFault)
      → IfOk result (λ a. IsAcceptedAddress rows (view a) × (bytes ≡ address_text (view a)))
      → IfOk result (λ a. IsTile t text (view a))
  tile_named view (Ok a) h = record { is_text = sym same ∙ h.1; accepted = subst (λ r. IsAcceptedAddress r (view a)) are h.0 }
  tile_named view (Err f) h = h

  pub no_tile_named : {A : Type 0} (result : Result A AddressFault)
      → OnErr result ((a : Address) → IsAcceptedAddress rows a → bytes ≡ address_text a → ⊥)
      → IfErr result (IsFaultOf rows bytes)
      → IfErr result (IsNoTile t text)
  no_tile_named (Ok a) h k = k
  no_tile_named (Err f) h k = record {
    none = λ a accepted e. h a (subst (λ r. IsAcceptedAddress r a) (sym are) accepted) (same ∙ e);
    first = subst (λ x. IsFaultOf (children t) x f) same (subst (λ r. IsFaultOf r bytes f) are k);
  }

  -- whether it is read as an address
  pub tile_told : (result : Result program.Address AddressFault) → AnswersAddress result (address_of_text rows bytes) → is_ok result ≡ is_tile t text
  tile_told result h = answered result (address_of_text rows bytes) h ∙ ap₂ (λ r x. is_ok (address_of_text r x)) are same
    where
      answered : (result : Result program.Address AddressFault) (answer : Result Address AddressFault)
          → AnswersAddress result answer → is_ok result ≡ is_ok answer
      answered (Ok a) answer e = sym (ap (λ o. is_ok o) e)
      answered (Err f) answer e = sym (ap (λ o. is_ok o) e)
