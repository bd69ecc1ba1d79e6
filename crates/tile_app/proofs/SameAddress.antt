-- An address of the program is its kind and its digits.
use Rattle.std.proofs.Common.{◌≡◌, List, [], ◌∷◌, map, refl, ap, ap₂}
use Rattle.theory_addresses.specs.Address.{Address}
use Rattle.tile_shape.specs.declared.address.Address as program
use Rattle.tile_shape.specs.declared.step.Step as step
use Rattle.tile_shape.specs.Views.{address_of, step_of}

same_step : (d e : step.Step) → step_of d ≡ step_of e → d ≡ e
same_step d e h = λ i. record { child = (h i).child; parent = (h i).parent }

same_steps : (ds es : List step.Step) → map step_of ds ≡ map step_of es → ds ≡ es
same_steps [] [] h = refl
same_steps [] (e ∷ es) h = absurd (cc h)
same_steps (d ∷ ds) [] h = absurd (cc h)
same_steps (d ∷ ds) (e ∷ es) h = ap₂ (λ x xs. x ∷ xs) (same_step d e (cc (h))) (same_steps ds es (cc (h)))

pub same_program_address : (a b : program.Address) → address_of a ≡ address_of b → a ≡ b
same_program_address a b h = λ i. record {
  kind = (h i).kind;
  digits = record {
    items = same_steps a.digits.items b.digits.items (ap (λ (x : Address). x.digits) h)
        i;
  };
}
