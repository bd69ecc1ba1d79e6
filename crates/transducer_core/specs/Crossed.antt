-- What contact tables say of the crossing of an edge.
use Rattle.std.specs.Prelude.{◌≡◌, ℕ, IsOk, Err, IfOk, IfErr, OnErr}
use Rattle.std.specs.declared.result.Result.{Result}
use Rattle.theory_addresses.specs.Across.{IsAcross, LiesOn}
use Rattle.theory_addresses.specs.Address.{Address, Fits}
use Rattle.theory_addresses.specs.Tables.{Tables, child_kinds}
use Rattle.theory_addresses.specs.Touch.{Touches}
use Rattle.tile_shape.specs.Views.{address_of}
use Rattle.tile_shape.specs.declared.address.Address as program
use Rattle.transducer_core.specs.declared.outside.Outside.{Outside}

-- The answer to edge e of a is a tile if and only if a pair is touched, and the boundary if and only if there
-- is a trace to the top. The tile is the one across, with the edge that leads back. The boundary is the edge
-- of the supertile, and the part of it.
pub record IsCrossing {T : Type 0} (t : Tables) (a : Address) (e : ℕ) (answer : Result T Outside)
    (there : T → Address) (back : T → ℕ) : Type 0 where
  pub across : IfOk answer (λ x. IsAcross t a e (there x) (back x))
  pub on_boundary : IfErr answer (λ o. LiesOn t a e o.edge o.part)
  pub across_when : (b : Address) (f : ℕ) → Fits (child_kinds t) b → Touches t a e b f → IsOk answer
  pub boundary_when : (own part : ℕ) → LiesOn t a e own part
      → answer ≡ Err (record { edge = own; part = part })

-- the same in place: the address becomes that of the tile across, or stays as it is
pub record IsCrossingInPlace (t : Tables) (before : program.Address) (e : ℕ) (answer : Result ℕ Outside)
    (after : program.Address) : Type 0 where
  pub crossing : IsCrossing t (address_of before) e answer (λ _. address_of after) (λ back. back)
  pub unchanged : OnErr answer (after ≡ before)
