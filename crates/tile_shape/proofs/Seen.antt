-- Addresses of the program seen in the theory, and back.
use Rattle.std.proofs.Common.{◌≡◌, List, [], ◌∷◌, map, refl, sym, ap, ◌∙◌}
use Rattle.theory_addresses.specs.Address as theory
use Rattle.tile_shape.specs.declared.address.Address.{Address}
use Rattle.tile_shape.specs.declared.step.Step.{Step}
use Rattle.tile_shape.specs.Views.{step_of, address_of, step_as, address_as}

pub steps-there : (ds : List theory.Step) → map step_of (map step_as ds) ≡ ds
steps-there [] = refl
steps-there (d ∷ ds) = ap (λ (es : List theory.Step). d ∷ es) (steps-there ds)

pub steps-back : (ds : List Step) → map step_as (map step_of ds) ≡ ds
steps-back [] = refl
steps-back (d ∷ ds) = ap (λ (es : List Step). d ∷ es) (steps-back ds)

pub address-there : (a : theory.Address) → address_of (address_as a) ≡ a
address-there a = λ i. record { kind = a.kind; digits = steps-there a.digits i }

-- an address is known by what it is in the theory
pub address-known : (a : Address) (b : theory.Address) → address_of a ≡ b → a ≡ address_as b
address-known a b e = λ i. record {
  kind = (e i).kind;
  digits = record {
    items = (sym (steps-back a.digits.items)
        ∙ ap (λ (z : theory.Address). map step_as z.digits) e) i;
  };
}
