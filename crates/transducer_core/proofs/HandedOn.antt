-- A crossing in place of a copy, as one of the address that was copied.
use Rattle.std.proofs.Common.{◌≡◌, ℕ, Result, Ok, Err, refl, sym, ap, subst}
use Rattle.theory_addresses.specs.Across.{IsAcross, LiesOn}
use Rattle.theory_addresses.specs.Address.{Address}
use Rattle.theory_addresses.specs.Tables.{Tables}
use Rattle.theory_addresses.specs.Touch.{Touches}
use Rattle.tile_shape.specs.Views.{address_of}
use Rattle.tile_shape.specs.declared.address.Address as program
use Rattle.transducer_core.specs.declared.outside.Outside.{Outside}
use Rattle.transducer_core.specs.declared.crossing.Crossing.{Crossing}
use Rattle.transducer_core.specs.Crossed.{IsCrossing, IsCrossingInPlace}

-- what `cross` answers
abbrev pub IsAnswer : Tables → Address → ℕ → Result Crossing Outside → Type 0
IsAnswer t a e x = IsCrossing t a e x (λ (c : Crossing). address_of c.addr) (λ (c : Crossing). c.edge)

module _ (t : Tables) (a : Address) (copy : program.Address) (e : ℕ) (after : program.Address) (same : address_of copy ≡ a) where
  pub found : (back : ℕ) → IsCrossingInPlace t copy e (Ok back) after → IsAnswer t a e (Ok (record { addr = after; edge = back }))
  found back h = record {
    across = subst (λ b. IsAcross t b e (address_of after) back) same h.crossing.across;
    on_boundary = tt;
    across_when = λ b f fits touches. refl;
    boundary_when = λ own part lies. absurd (cc (h.crossing.boundary_when own part (subst (λ b. LiesOn t b e own part) (sym same) lies)));
  }

  pub refused : (o : Outside) → IsCrossingInPlace t copy e (Err o) after → IsAnswer t a e (Err o)
  refused o h = record {
    across = tt;
    on_boundary = subst (λ b. LiesOn t b e o.edge o.part) same h.crossing.on_boundary;
    across_when = λ b f fits touches. absurd (cc (h.crossing.across_when b f fits (subst (λ a. Touches t a e b f) (sym same) touches)));
    boundary_when = λ own part lies.
        let is = h.crossing.boundary_when own part (subst (λ b. LiesOn t b e own part) (sym same) lies) in
        let one : o ≡ record { edge = own; part = part } = cc is in
        ap Err one;
  }
