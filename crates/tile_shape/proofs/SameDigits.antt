-- Digits of the program that are equal are the same digits.
use Rattle.std.proofs.Common.{◌≡◌, ◌↔◌, List, [], ◌∷◌, map, true, nat_eq, refl, ap, ap₂, eqb-true}
use Rattle.std.proofs.lemmas.Bool.{and_parts, and_from, eq-eqb}
use Rattle.theory_addresses.specs.Address as theory
use Rattle.tile_shape.specs.declared.step.Step.{Step}
use Rattle.tile_shape.specs.contracts.step.StepPartialEq.TheImpl as step_eq
use Rattle.tile_shape.specs.Views.{step_of}
use lib.Pointwise.{pointwise, pointwise_decides}

same-step : (x y : Step) → ((step_eq.eq-value).it x y ≡ true → x ≡ y) × (x ≡ y → (step_eq.eq-value).it x y ≡ true)
same-step x y = (
  λ h. let k = and_parts (nat_eq x.child y.child) (nat_eq x.parent y.parent) h in
      λ i. record { child = eqb-true x.child y.child k.0 i; parent = eqb-true x.parent y.parent k.1 i },
  λ e. and_from _ _ (eq-eqb x.child y.child (ap (λ (s : Step). s.child) e)) (eq-eqb x.parent y.parent (ap (λ (s : Step). s.parent) e)),
)

one-step : (x y : Step) → step_of x ≡ step_of y → x ≡ y
one-step x y e = λ i. record { child = (e i).child; parent = (e i).parent }

one-list : (xs ys : List Step) → map step_of xs ≡ map step_of ys → xs ≡ ys
one-list [] [] e = refl
one-list [] (y ∷ ys) e = absurd (cc e)
one-list (x ∷ xs) [] e = absurd (cc e)
one-list (x ∷ xs) (y ∷ ys) e = ap₂ (λ (z : Step) (zs : List Step). z ∷ zs) (one-step x y (head e)) (one-list xs ys (tail e))
  where
    head : {a b : theory.Step} {ds es : List theory.Step} → a ∷ ds ≡ b ∷ es → a ≡ b
    head e = cc (e)

    tail : {a b : theory.Step} {ds es : List theory.Step} → a ∷ ds ≡ b ∷ es → ds ≡ es
    tail e = cc (e)

-- the test of two lists of digits is whether they are the same list for the theory
pub same-digits : (xs ys : List Step) → (pointwise (step_eq.eq-value).it xs ys ≡ true) ↔ (map step_of xs ≡ map step_of ys)
same-digits xs ys =
    let d = pointwise_decides same-step xs ys in (
      λ h. ap (map step_of) (d.0 h),
      λ e. d.1 (one-list xs ys e),
    )
