-- What the tests of a factor say, in each edition: its squared length is above 1; and in the first, the order isn't six.
use Rattle.std.proofs.Common.{◌≡◌, ℕ, pos, Bool, true, false, not, ◌&&◌, refl, subst, nat_eq}
use Rattle.std.specs.Ordering.{is_gt}
use Rattle.std.specs.declared.cmp.Ordering.{Ordering}
use Rattle.std.specs.declared.cmp.Ordering.TheVariants.{Less, Equal, Greater}
use Rattle.theory_ring.specs.Ring.{power}
use Rattle.theory_ring.specs.Sign.{less}
use Rattle.theory_substitution.specs.Points.{Points, PointLaws}
use Rattle.theory_substitution.specs.Plane.{IsGrowthFactor}
use Rattle.theory_substitution.proofs.Lengths.{real_growth}
use Rattle.theory_addresses.specs.Search.{some_below}
use Rattle.theory_edge_to_edge.specs.Edition.{Edition, First, Second}
use Rattle.theory_edge_to_edge.specs.Factor.{is_real_above_one, is_growing, is_inflation_factor}
use Rattle.std.proofs.lemmas.Bool.{and_parts as both}

is_greater : (o : Ordering) → is_gt o ≡ true → o ≡ Greater
is_greater Less e = absurd (cc e)
is_greater Equal e = absurd (cc e)
is_greater Greater e = refl

different : (n : ℕ) → not (nat_eq n 6) ≡ true → n ≡ 6 → ⊥
different n h e = impossible (subst (λ m. not (nat_eq m 6) ≡ true) e h)
  where
    impossible : not (nat_eq 6 6) ≡ true → ⊥
    impossible e = cc e

module _ (P : Points) (refused : P.ring.carrier → Bool) (l : P.ring.carrier) where
  growing : (edition : Edition) → is_inflation_factor P edition refused l ≡ true → is_growing P edition l ≡ true
  growing edition h = (both (is_growing P edition l) (some_below 65 (λ n. refused (power P.ring l n))) h).0

  pub not_of_order_six : is_inflation_factor P First refused l ≡ true → P.order ≡ 6 → ⊥
  not_of_order_six h = different P.order (both (not (nat_eq P.order 6)) (is_real_above_one P l) (growing First h)).0

  pub growth_of : PointLaws P → (edition : Edition) → is_inflation_factor P edition refused l ≡ true → IsGrowthFactor P l
  growth_of W First h =
      let real = (both (not (nat_eq P.order 6)) (is_real_above_one P l) (growing First h)).1 in
      let parts = both (P.same (P.conj l) l) (less P.real (P.real.ops.int (pos 2)) (P.x l)) real in
      real_growth P W l (W.same-is (P.conj l) l parts.0) (is_greater _ parts.1)
  growth_of W Second h = is_greater _ (growing Second h)
