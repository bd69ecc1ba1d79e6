-- A thousand times bθ, rounded down, for a short b: by a fraction of 2^45 near 1000θ.
use Rattle.std.specs.Int.{w64, int_div_euclid}
use Rattle.std.specs.Int.Signed.{shr_z}
use Rattle.std.specs.declared.cmp.Ordering.TheVariants.{Greater}
use Rattle.std.proofs.Common.{arith, ℕ, ℤ, ◌≡◌, ◌^◌, ◌*◌, pos, negsuc, neg_ℤ, ◌*ℤ◌, ◌+ℤ◌, ◌≤ℤ◌, ◌<ℤ◌, int_cmp, refl, sym, ◌∙◌}
use Rattle.std.proofs.lemmas.Int.{ints}
use Rattle.theory_ring.proofs.Ordered.{two_above, five_above, whole_greater, greater_whole}
use Rattle.theory_ring.proofs.Squares.{no_root_two, no_root_five}
use Rattle.cyclo_points.specs.declared.order.Order.TheVariants.{Eight, Ten}
use Rattle.cyclo_points.specs.Point.{Within}
use Rattle.cyclo_points.proofs.Sizes.{within_product}
use Rattle.cyclo_points.proofs.Reals.{reading, sign_at}
use Rattle.cyclo_points.proofs.Witnesses.{IsNear, sign-by_near}
use Rattle.cyclo_points.proofs.Floors.{div-at_most, div-below_next}

-- a thousand times a short number, reversed
abbrev pub thousand_back : ℤ → ℤ
thousand_back b = neg_ℤ (pos 1000 *ℤ b)

short-square : (b : ℤ) → Within (2 ^ 15) b → Within (32768000 * 32768000) (thousand_back b *ℤ thousand_back b)
short-square b h =
    let n : Within 32768000 (thousand_back b) = record { low = omega (arith, ints); high = omega (arith, ints) } in
    within_product 32768000 32768000 (thousand_back b) (thousand_back b) n n

-- 49758216191607598 is 1414 * 2^45 + 7514057999150, and its square 16034440836670396 less than twice that of 1000 * 2^45
near_two : (b : ℤ) → Within (2 ^ 15) b → IsNear (pos 2) (pos 49758216191607598) (pos 35184372088832000)
    (neg_ℤ (pos 16034440836670396)) (thousand_back b)
near_two b h =
    let g = short-square b h in
    record {
      p_pos = omega (arith, ints);
      q_pos = omega (arith, ints);
      square = refl;
      below = omega (arith, ints, g.low, g.high);
      above = omega (arith, ints, g.low, g.high);
    }

-- twice 56929509912553310, which is 1618 * 2^45 + 1195872823134, less 1000 * 2^45
near_five : (b : ℤ) → Within (2 ^ 15) b → IsNear (pos 5) (pos 78674647736274620) (pos 35184372088832000)
    (neg_ℤ (pos 185277025063855600)) (thousand_back b)
near_five b h =
    let g = short-square b h in
    record {
      p_pos = omega (arith, ints);
      q_pos = omega (arith, ints);
      square = refl;
      below = omega (arith, ints, g.low, g.high);
      above = omega (arith, ints, g.low, g.high);
    }

-- ---- the sign of f - 1000 bθ by the fraction
sign_eight : (f b : ℤ) → Within (2 ^ 15) b → sign_at Eight f (thousand_back b) ≡ int_cmp
    (pos 35184372088832000 *ℤ f +ℤ pos 49758216191607598 *ℤ thousand_back b) (pos 0)
sign_eight f b h = sign-by_near (pos 2) (pos 49758216191607598) (pos 35184372088832000)
    (neg_ℤ (pos 16034440836670396)) two_above no_root_two f (thousand_back b) (near_two b h)

sign_ten : (f b : ℤ) → Within (2 ^ 15) b
    → sign_at Ten f (thousand_back b) ≡ int_cmp
    (pos 35184372088832000 *ℤ (pos 2 *ℤ f +ℤ thousand_back b) +ℤ pos 78674647736274620 *ℤ thousand_back b)
    (pos 0)
sign_ten f b h =
    sign-by_near (pos 5) (pos 78674647736274620) (pos 35184372088832000) (neg_ℤ (pos 185277025063855600))
    five_above no_root_five (pos 2 *ℤ f +ℤ thousand_back b) (thousand_back b) (near_five b h)

pub eight-at_most : (f b : ℤ) → Within (2 ^ 15) b → (f *ℤ pos 35184372088832) ≤ℤ (pos 49758216191607598 *ℤ b)
    → sign_at Eight f (thousand_back b) ≡ Greater → ⊥
eight-at_most f b h g e =
    let k : pos 0 <ℤ (pos 35184372088832000 *ℤ f +ℤ pos 49758216191607598 *ℤ thousand_back b) = greater_whole _ (sym (sign_eight f b h) ∙ e) in
    absurd (omega (arith, ints))

pub eight-below_next : (f b : ℤ) → Within (2 ^ 15) b
    → (pos 49758216191607598 *ℤ b) <ℤ (f *ℤ pos 35184372088832 +ℤ pos 35184372088832)
    → sign_at Eight (f +ℤ pos 1) (thousand_back b) ≡ Greater
eight-below_next f b h g = sign_eight (f +ℤ pos 1) b h
    ∙ whole_greater (pos 35184372088832000 *ℤ (f +ℤ pos 1) +ℤ pos 49758216191607598 *ℤ thousand_back b)
    (omega (arith, ints))

pub ten-at_most : (f b : ℤ) → Within (2 ^ 15) b → (f *ℤ pos 35184372088832) ≤ℤ (pos 56929509912553310 *ℤ b)
    → sign_at Ten f (thousand_back b) ≡ Greater → ⊥
ten-at_most f b h g e =
    let k : pos 0 <ℤ (pos 35184372088832000 *ℤ (pos 2 *ℤ f +ℤ thousand_back b) +ℤ pos 78674647736274620 *ℤ
    thousand_back b) = greater_whole _ (sym (sign_ten f b h) ∙ e) in
    absurd (omega (arith, ints))

pub ten-below_next : (f b : ℤ) → Within (2 ^ 15) b
    → (pos 56929509912553310 *ℤ b) <ℤ (f *ℤ pos 35184372088832 +ℤ pos 35184372088832)
    → sign_at Ten (f +ℤ pos 1) (thousand_back b) ≡ Greater
ten-below_next f b h g =
    sign_ten (f +ℤ pos 1) b h
    ∙ whole_greater (pos 35184372088832000 *ℤ (pos 2 *ℤ (f +ℤ pos 1) +ℤ thousand_back b) +ℤ pos
    78674647736274620 *ℤ thousand_back b) (omega (arith, ints))

-- a shift by 45 divides by 2^45 and rounds down
shift-divides : (x : ℤ) → shr_z x 35184372088832 ≡ int_div_euclid x (pos 35184372088832)
shift-divides (pos n) = refl
shift-divides (negsuc n) = refl

-- ---- the product as the code reads it: so many times b, and a shifted product more
module _ (b : ℤ) (h : Within (2 ^ 15) b) where
  -- the code's product: `whole` b, and `rest` b over 2^45 rounded down
  abbrev pub read_product : (whole rest : ℕ) → ℤ
  read_product whole rest =
      reading w64 (reading w64 (pos whole *ℤ reading w64 b) +ℤ reading w64 (shr_z (reading w64 (pos rest *ℤ reading w64 b)) 35184372088832))

  abbrev pub product : (whole rest : ℕ) → ℤ
  product whole rest = pos whole *ℤ b +ℤ int_div_euclid (pos rest *ℤ b) (pos 35184372088832)

  pub read_eight : read_product 1414 7514057999150 ≡ product 1414 7514057999150
  read_eight =
      let n = pos 7514057999150 *ℤ b in
      let low = div-at_most n 35184372088832 (omega arith) in
      let high = div-below_next n 35184372088832 (omega arith) in
      let inner : reading w64 (pos 7514057999150 *ℤ reading w64 b) ≡ n = omega (arith, ints) in
      rw (inner, shift-divides n) (at_quotient (int_div_euclid n (pos 35184372088832)) low high)
    where
      at_quotient : (q : ℤ) → (q *ℤ pos 35184372088832) ≤ℤ (pos 7514057999150 *ℤ b)
          → (pos 7514057999150 *ℤ b) <ℤ (q *ℤ pos 35184372088832 +ℤ pos 35184372088832)
          → reading w64 (reading w64 (pos 1414 *ℤ reading w64 b) +ℤ reading w64 q) ≡ pos 1414 *ℤ b +ℤ q
      at_quotient q low high = omega (arith, ints)

  pub read_ten : read_product 1618 1195872823134 ≡ product 1618 1195872823134
  read_ten =
      let n = pos 1195872823134 *ℤ b in
      let low = div-at_most n 35184372088832 (omega arith) in
      let high = div-below_next n 35184372088832 (omega arith) in
      let inner : reading w64 (pos 1195872823134 *ℤ reading w64 b) ≡ n = omega (arith, ints) in
      rw (inner, shift-divides n) (at_quotient (int_div_euclid n (pos 35184372088832)) low high)
    where
      at_quotient : (q : ℤ) → (q *ℤ pos 35184372088832) ≤ℤ (pos 1195872823134 *ℤ b)
          → (pos 1195872823134 *ℤ b) <ℤ (q *ℤ pos 35184372088832 +ℤ pos 35184372088832)
          → reading w64 (reading w64 (pos 1618 *ℤ reading w64 b) +ℤ reading w64 q) ≡ pos 1618 *ℤ b +ℤ q
      at_quotient q low high = omega (arith, ints)

  -- so it is rounded down
  pub eight-low : (product 1414 7514057999150 *ℤ pos 35184372088832) ≤ℤ (pos 49758216191607598 *ℤ b)
  eight-low = at_quotient (int_div_euclid (pos 7514057999150 *ℤ b) (pos 35184372088832))
      (div-at_most (pos 7514057999150 *ℤ b) 35184372088832 (omega arith))
    where
      at_quotient : (q : ℤ) → (q *ℤ pos 35184372088832) ≤ℤ (pos 7514057999150 *ℤ b)
          → ((pos 1414 *ℤ b +ℤ q) *ℤ pos 35184372088832) ≤ℤ (pos 49758216191607598 *ℤ b)
      at_quotient q low = omega (arith, ints)

  pub eight-high : (pos 49758216191607598 *ℤ b) <ℤ (product 1414 7514057999150 *ℤ pos 35184372088832 +ℤ pos 35184372088832)
  eight-high = at_quotient (int_div_euclid (pos 7514057999150 *ℤ b) (pos 35184372088832))
      (div-below_next (pos 7514057999150 *ℤ b) 35184372088832 (omega arith))
    where
      at_quotient : (q : ℤ) → (pos 7514057999150 *ℤ b) <ℤ (q *ℤ pos 35184372088832 +ℤ pos 35184372088832)
          → (pos 49758216191607598 *ℤ b) <ℤ ((pos 1414 *ℤ b +ℤ q) *ℤ pos 35184372088832 +ℤ pos 35184372088832)
      at_quotient q high = omega (arith, ints)

  pub ten-low : (product 1618 1195872823134 *ℤ pos 35184372088832) ≤ℤ (pos 56929509912553310 *ℤ b)
  ten-low = at_quotient (int_div_euclid (pos 1195872823134 *ℤ b) (pos 35184372088832))
      (div-at_most (pos 1195872823134 *ℤ b) 35184372088832 (omega arith))
    where
      at_quotient : (q : ℤ) → (q *ℤ pos 35184372088832) ≤ℤ (pos 1195872823134 *ℤ b)
          → ((pos 1618 *ℤ b +ℤ q) *ℤ pos 35184372088832) ≤ℤ (pos 56929509912553310 *ℤ b)
      at_quotient q low = omega (arith, ints)

  pub ten-high : (pos 56929509912553310 *ℤ b) <ℤ (product 1618 1195872823134 *ℤ pos 35184372088832 +ℤ pos 35184372088832)
  ten-high = at_quotient (int_div_euclid (pos 1195872823134 *ℤ b) (pos 35184372088832))
      (div-below_next (pos 1195872823134 *ℤ b) 35184372088832 (omega arith))
    where
      at_quotient : (q : ℤ) → (pos 1195872823134 *ℤ b) <ℤ (q *ℤ pos 35184372088832 +ℤ pos 35184372088832)
          → (pos 56929509912553310 *ℤ b) <ℤ ((pos 1618 *ℤ b +ℤ q) *ℤ pos 35184372088832 +ℤ pos 35184372088832)
      at_quotient q high = omega (arith, ints)

  pub eight-within : Within (2 ^ 42) (product 1414 7514057999150)
  eight-within = let low = eight-low in let high = eight-high in record
      { low = omega (arith, ints, low, high); high = omega (arith, ints, low, high) }

  pub ten-within : Within (2 ^ 42) (product 1618 1195872823134)
  ten-within = let low = ten-low in let high = ten-high in record { low = omega (arith, ints, low, high); high = omega (arith, ints, low, high) }
