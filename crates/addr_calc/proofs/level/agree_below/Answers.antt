use Rattle.std.proofs.Common.{◌≡◌, ℕ, ◌+◌, ◌-◌, ◌<◌, ◌&&◌, Bool, true, List, get_or, map, nat_eq, Some, sym, ap, ap₂, ◌∙◌, subst, arith}
use Rattle.std.proofs.lemmas.List.{length-map}
use Rattle.std.proofs.lemmas.Bool.{and_parts, eqb-true, eq-eqb}
use Rattle.std.proofs.Math.ListN.{get_or-map}
use Rattle.theory_addresses.specs.Address.{depth}
use Rattle.tile_shape.specs.declared.step.Step.{Step}
use Rattle.tile_shape.specs.Views.{address_of, step_of}
use Rattle.addr_calc.specs.Level.{AgreeFrom}
use Rattle.addr_calc.proofs.Levels.{agree_also, digit_of_agreed}
use Rattle.addr_calc.proofs.level.agree_below.Goals as goal

-- whether two digits are equal
abbrev is_same : Step → Step → Bool
is_same x y = nat_eq x.child y.child && nat_eq x.parent y.parent

no_step : Step
no_step = record { child = 0; parent = 0 }

same_digit : (x y : Step) → is_same x y ≡ true → step_of x ≡ step_of y
same_digit x y h =
    let p = and_parts (nat_eq x.child y.child) (nat_eq x.parent y.parent) h in
    ap₂ (λ c q. record { child = c; parent = q }) (eqb-true x.child y.child p.0) (eqb-true x.parent y.parent p.1)

same_test : (x y : Step) → step_of x ≡ step_of y → is_same x y ≡ true
same_test x y e =
    ap₂ (λ a b. a && b) (eq-eqb x.child y.child (ap (λ s. s.child) e)) (eq-eqb x.parent y.parent (ap (λ s. s.parent) e))

-- the digits of this number of two addresses are equal, by the digits as the program has them
seen_same : (xs ys us vs : List Step) (i j : ℕ) → us ≡ xs → vs ≡ ys → j ≡ i → is_same (get_or us j no_step) (get_or vs j no_step) ≡ true
    → get_or (map step_of xs) i (step_of no_step) ≡ get_or (map step_of ys) i (step_of no_step)
seen_same xs ys us vs i j e f g h =
    get_or-map step_of xs i no_step
    ∙ same_digit (get_or xs i no_step) (get_or ys i no_step) (subst (λ zs. is_same (get_or xs i no_step) (get_or zs i no_step) ≡ true) f
    (subst (λ zs. is_same (get_or zs i no_step) (get_or vs i no_step) ≡ true) e
    (subst (λ k. is_same (get_or us k no_step) (get_or vs k no_step) ≡ true) g h)))
    ∙ sym (get_or-map step_of ys i no_step)

tested_same : (xs ys us vs : List Step) (i j : ℕ) → us ≡ xs → vs ≡ ys → j ≡ i
    → get_or (map step_of xs) i (step_of no_step) ≡ get_or (map step_of ys) i (step_of no_step)
    → is_same (get_or us j no_step) (get_or vs j no_step) ≡ true
tested_same xs ys us vs i j e f g h =
    subst (λ k. is_same (get_or us k no_step) (get_or vs k no_step) ≡ true) (sym g)
    (subst (λ zs. is_same (get_or zs i no_step) (get_or vs i no_step) ≡ true) (sym e)
    (subst (λ zs. is_same (get_or xs i no_step) (get_or zs i no_step) ≡ true) (sym f)
    (same_test (get_or xs i no_step) (get_or ys i no_step) (sym (get_or-map step_of xs i no_step) ∙ h ∙ get_or-map step_of ys i no_step))))

some_is : (k l : ℕ) → Some k ≡ Some l → k ≡ l
some_is k l e = cc

pub returns-then-eq : goal.returns-then-eq
unfolding no_step
returns-then-eq c =
    let a = address_of c.args.one.now in
    let b = address_of c.args.other.now in
    let i = c.args.level - 1 in
    let depths : depth a ≡ depth b = length-map c.args.one.now.digits.items step_of ∙ c.requires.one_depth
    ∙ sym (length-map c.args.other.now.digits.items step_of) in
    let above : AgreeFrom a b (i + 1) = subst (AgreeFrom a b) (omega (arith, c.requires.above_0)) c.requires.agree in
    let within : i < depth a = omega (arith, c.requires.agree.exists, c.requires.above_0) in (
      λ t. agree_also a b i (step_of no_step) depths within above
          (seen_same c.args.one.now.digits.items c.args.other.now.digits.items c.deref.result.now
          c.deref-2.result.now i c.from-digit.result c.deref.ensures.0 c.deref-2.ensures.0
          c.from-digit.ensures (sym c.if-eq.ensures))
          (sym c.kind_at.ensures ∙ ap (λ k. Some k) (eqb-true c.kind_at.result c.kind_at-then-eq.result t) ∙ c.kind_at-then-eq.ensures),
      λ h. eq-eqb c.kind_at.result c.kind_at-then-eq.result
          (some_is c.kind_at.result c.kind_at-then-eq.result
          (c.kind_at.ensures ∙ h.kinds ∙ sym c.kind_at-then-eq.ensures)),
    )

pub returns-else-eq : goal.returns-else-eq
unfolding no_step
returns-else-eq c =
    let a = address_of c.args.one.now in
    let b = address_of c.args.other.now in
    let i = c.args.level - 1 in
    let depths : depth a ≡ depth b = length-map c.args.one.now.digits.items step_of ∙ c.requires.one_depth
    ∙ sym (length-map c.args.other.now.digits.items step_of) in
    let within : i < depth a = omega (arith, c.requires.agree.exists, c.requires.above_0) in (
      λ t. absurd (cc (t, c.if-eq.false)),
      λ h. c.eq.ensures ∙ tested_same c.args.one.now.digits.items c.args.other.now.digits.items
          c.deref.result.now c.deref-2.result.now i c.from-digit.result c.deref.ensures.0 c.deref-2.ensures.0
          c.from-digit.ensures
          (digit_of_agreed a b i (step_of no_step) depths within h),
    )
