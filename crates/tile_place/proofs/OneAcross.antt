-- The tile across an edge is one.
use Rattle.std.proofs.Common.{◌≡◌, ℕ, ap}
use Rattle.theory_addresses.specs.Address.{Address}
use Rattle.cyclo_points.specs.Order.{NumberOf}
use Rattle.rule_model.specs.Tiling.{Tiling}
use Rattle.theory_substitution.specs.Supertile.{Placed}
use Rattle.tile_place.specs.Crossed.{IsOnlyAcross}

-- the only tile across an edge, and its edge there, are no other's
pub one_across : (t : Tiling) (a b c : Address) (e f g : ℕ) → IsOnlyAcross t a e b f → IsOnlyAcross t a e c g → (b ≡ c) × (f ≡ g)
one_across t a b c e f g h k = let same = k.only _ f h.across in (ap (λ (p : Placed (NumberOf t.order)). p.address) same.0, same.1)
