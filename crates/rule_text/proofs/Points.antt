-- Points and children of four and of six numbers.
use Rattle.std.specs.Int.{w64}
use Rattle.std.proofs.Common.{◌≡◌, ℤ, true, List, Some, to_z, of_z, refl, subst}
use Rattle.cyclo_points.specs.declared.order.Order.{Order}
use Rattle.cyclo_points.specs.declared.point.Point.{Point}
use Rattle.rule_model.specs.Small.{is_small}
use Rattle.rule_text.specs.Ranges.{file_point}

-- a number as the code reads it
abbrev pub machine : ℤ → ℤ
machine x = to_z w64 (of_z w64 x)

abbrev pub with : List ℤ → Point
with zs = record { c = zs }

pub point-found : (o : Order) (ms zs : List ℤ) → ms ≡ zs → is_small o (with ms) ≡ true → Some (with ms) ≡ file_point o zs
point-found o ms zs e h = subst (λ (ns : List ℤ). Some (with ms) ≡ file_point o ns) e (rw h refl)
