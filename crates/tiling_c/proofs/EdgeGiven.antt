-- What a crossing in place says of the address that was given.
use Rattle.std.proofs.Common.{◌≡◌, ◌<◌, ◌≤◌, ℕ, Err, sym, subst, arith}
use Rattle.std.specs.Prelude.{Result}
use Rattle.theory_addresses.specs.Address.{Address}
use Rattle.rule_model.specs.Tiling.{Tiling}
use Rattle.tile_place.specs.Crossed.{edges_of, LiesOnBoundary, IsOutside}
use Rattle.transducer_core.specs.declared.outside.Outside.{Outside}
use Rattle.transducer_core.proofs.OneOutside.{outside_is}

-- an edge that exists isn't one that doesn't
pub not_both : {A : Type 0} (edge edges : ℕ) → edge < edges → edges ≤ edge → A
not_both edge edges below above = absurd (omega arith)

-- on the boundary of the supertile, along that edge of it and no other
pub outside_given : {A : Type 0} (t : Tiling) (a b : Address) (edge : ℕ) (result : Result A Outside)
    (o : Outside) → a ≡ b → edge < edges_of t b.kind → result ≡ Err o
    → LiesOnBoundary t a edge o.edge o.part
    → ((own part : ℕ) → LiesOnBoundary t a edge own part → result ≡ Err (record { edge = own; part = part }))
    → IsOutside t b edge o.edge o.part
outside_given t a b edge result o same exists is along when = record {
  exists = exists;
  along = subst (λ x. LiesOnBoundary t x edge o.edge o.part) same along;
  alone = λ own part on. outside_is result o own part is (when own part (subst (λ x. LiesOnBoundary t x edge own part) (sym same) on));
}
