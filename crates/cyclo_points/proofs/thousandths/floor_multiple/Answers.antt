use Rattle.std.specs.Int.{w128, int_div_euclid}
use Rattle.std.specs.declared.cmp.Ordering.TheVariants.{Greater}
use Rattle.std.proofs.Common.{arith, ℕ, ℤ, ◌≡◌, ◌<◌, ◌^◌, ◌*◌, pos, neg_ℤ, ◌*ℤ◌, ◌+ℤ◌, ◌≤ℤ◌, ◌<ℤ◌, FitsSigned, int_cmp, refl, sym, subst, ◌∙◌, ap}
use Rattle.std.proofs.lemmas.Grind.{common_steps}
use Rattle.std.proofs.lemmas.Int.{ints, to_z-of_z}
use Rattle.theory_ring.proofs.Ordered.{two_above, five_above, whole_greater, greater_whole}
use Rattle.theory_ring.proofs.Squares.{no_root_two, no_root_five}
use Rattle.cyclo_points.specs.declared.order.Order.TheVariants.{Eight, Ten}
use Rattle.cyclo_points.specs.Point.{Within}
use Rattle.cyclo_points.proofs.Sizes.{within_product}
use Rattle.cyclo_points.proofs.Reals.{in_either, reading, sign_at}
use Rattle.cyclo_points.proofs.Witnesses.{IsNear, sign-by_near}
use Rattle.cyclo_points.proofs.Floors.{div-at_most, div-below_next}
use Rattle.cyclo_points.proofs.thousandths.floor_multiple.Goals as goal

-- the square of 27354868640032294882193329 is 11632715905065315729901471 less than twice that of 2^84
near_two : (b : ℤ) → Within (1000 * 2 ^ 30) b
    → IsNear (pos 2) (pos 27354868640032294882193329) (pos 19342813113834066795298816)
    (neg_ℤ (pos 11632715905065315729901471)) (neg_ℤ b)
near_two b h =
    let n : Within (1000 * 2 ^ 30) (neg_ℤ b) = record { low = omega (arith, ints); high = omega (arith, ints) } in
    let g = within_product (1000 * 2 ^ 30) (1000 * 2 ^ 30) (neg_ℤ b) (neg_ℤ b) n n in
    record { p_pos = omega (arith, ints); q_pos = omega (arith, ints); square = refl; below = omega (arith, ints); above = omega (arith, ints) }

-- the square of 43251844998607351146509208 is 4070193047718629626222016 less than five times that of 2^84
near_five : (b : ℤ) → Within (1000 * 2 ^ 30) b
    → IsNear (pos 5) (pos 43251844998607351146509208) (pos 19342813113834066795298816)
    (neg_ℤ (pos 4070193047718629626222016)) (neg_ℤ b)
near_five b h =
    let n : Within (1000 * 2 ^ 30) (neg_ℤ b) = record { low = omega (arith, ints); high = omega (arith, ints) } in
    let g = within_product (1000 * 2 ^ 30) (1000 * 2 ^ 30) (neg_ℤ b) (neg_ℤ b) n n in
    record { p_pos = omega (arith, ints); q_pos = omega (arith, ints); square = refl; below = omega (arith, ints); above = omega (arith, ints) }

-- ---- the sign of f - bθ by the convergent
sign_eight : (f b : ℤ) → Within (1000 * 2 ^ 30) b
    → sign_at Eight f (neg_ℤ b) ≡ int_cmp (pos 19342813113834066795298816 *ℤ f +ℤ pos
    27354868640032294882193329 *ℤ neg_ℤ b) (pos 0)
sign_eight f b h = sign-by_near (pos 2) (pos 27354868640032294882193329) (pos 19342813113834066795298816)
    (neg_ℤ (pos 11632715905065315729901471)) two_above no_root_two f (neg_ℤ b) (near_two b h)

sign_ten : (f b : ℤ) → Within (1000 * 2 ^ 30) b
    → sign_at Ten f (neg_ℤ b) ≡ int_cmp (pos 19342813113834066795298816 *ℤ (pos 2 *ℤ f +ℤ neg_ℤ b) +ℤ pos
    43251844998607351146509208 *ℤ neg_ℤ b) (pos 0)
sign_ten f b h = sign-by_near (pos 5) (pos 43251844998607351146509208) (pos 19342813113834066795298816)
    (neg_ℤ (pos 4070193047718629626222016)) five_above no_root_five (pos 2 *ℤ f +ℤ neg_ℤ b) (neg_ℤ b)
    (near_five b h)

eight-at_most : (f b : ℤ) → Within (1000 * 2 ^ 30) b
    → (f *ℤ pos 19342813113834066795298816) ≤ℤ (pos 27354868640032294882193329 *ℤ b)
    → sign_at Eight f (neg_ℤ b) ≡ Greater → ⊥
eight-at_most f b h g e =
    let k : pos 0 <ℤ (pos 19342813113834066795298816 *ℤ f +ℤ pos 27354868640032294882193329 *ℤ neg_ℤ b)
    = greater_whole (pos 19342813113834066795298816 *ℤ f +ℤ pos 27354868640032294882193329 *ℤ neg_ℤ b)
    (sym (sign_eight f b h) ∙ e) in
    absurd (omega (arith, ints))

eight-below_next : (f b : ℤ) → Within (1000 * 2 ^ 30) b
    → (pos 27354868640032294882193329 *ℤ b) <ℤ
    (f *ℤ pos 19342813113834066795298816 +ℤ pos 19342813113834066795298816)
    → sign_at Eight (f +ℤ pos 1) (neg_ℤ b) ≡ Greater
eight-below_next f b h g = sign_eight (f +ℤ pos 1) b h
    ∙ whole_greater (pos 19342813113834066795298816 *ℤ (f +ℤ pos 1) +ℤ pos 27354868640032294882193329 *ℤ neg_ℤ
    b) (omega (arith, ints))

ten-at_most : (f b : ℤ) → Within (1000 * 2 ^ 30) b
    → (f *ℤ pos 19342813113834066795298816) ≤ℤ (pos 31297329056220708970904012 *ℤ b)
    → sign_at Ten f (neg_ℤ b) ≡ Greater → ⊥
ten-at_most f b h g e =
    let k : pos 0 <ℤ (pos 19342813113834066795298816 *ℤ (pos 2 *ℤ f +ℤ neg_ℤ b) +ℤ pos
    43251844998607351146509208 *ℤ neg_ℤ b) = greater_whole
    (pos 19342813113834066795298816 *ℤ (pos 2 *ℤ f +ℤ neg_ℤ b) +ℤ pos 43251844998607351146509208 *ℤ neg_ℤ
    b) (sym (sign_ten f b h) ∙ e) in
    absurd (omega (arith, ints))

ten-below_next : (f b : ℤ) → Within (1000 * 2 ^ 30) b
    → (pos 31297329056220708970904012 *ℤ b) <ℤ
    (f *ℤ pos 19342813113834066795298816 +ℤ pos 19342813113834066795298816)
    → sign_at Ten (f +ℤ pos 1) (neg_ℤ b) ≡ Greater
ten-below_next f b h g = sign_ten (f +ℤ pos 1) b h
    ∙ whole_greater (pos 19342813113834066795298816 *ℤ (pos 2 *ℤ (f +ℤ pos 1) +ℤ neg_ℤ b) +ℤ pos
    43251844998607351146509208 *ℤ neg_ℤ b) (omega (arith, ints))

-- ---- the quotient as the code reads it
read_eight : (b : ℤ) → Within (1000 * 2 ^ 30) b
    → reading w128 (pos 27354868640032294882193329 *ℤ reading w128 b) ≡ pos 27354868640032294882193329 *ℤ b
read_eight b h = omega (arith, ints)

read_ten : (b : ℤ) → Within (1000 * 2 ^ 30) b → reading w128 (pos 31297329056220708970904012 *ℤ reading w128 b) ≡ pos 31297329056220708970904012 *ℤ b
read_ten b h = omega (arith, ints)

-- x is the code's quotient of s, which is n, by d
quotient-at_most : (x s n : ℤ) (d : ℕ) → 0 < d → FitsSigned w128 x → x ≡ int_div_euclid s (pos d) → s ≡ n → (reading w128 x *ℤ pos d) ≤ℤ n
quotient-at_most x s n d h f e g = subst (λ y. (y *ℤ pos d) ≤ℤ n)
    (sym (to_z-of_z w128 x f ∙ e ∙ ap (λ s. int_div_euclid s (pos d)) g)) (div-at_most n d h)

quotient-below_next : (x s n : ℤ) (d : ℕ) → 0 < d → FitsSigned w128 x → x ≡ int_div_euclid s (pos d) → s ≡ n → n <ℤ (reading w128 x *ℤ pos d +ℤ pos d)
quotient-below_next x s n d h f e g = subst (λ y. n <ℤ (y *ℤ pos d +ℤ pos d))
    (sym (to_z-of_z w128 x f ∙ e ∙ ap (λ s. int_div_euclid s (pos d)) g)) (div-below_next n d h)

pub returns-in-Four-clause-at_most : goal.returns-in-Four-clause-at_most
returns-in-Four-clause-at_most c = in_either (λ o. sign_at o (pos 0) (neg_ℤ c.args.b) ≡ Greater → ⊥) c.args.order c.in-Four.is different different
  where
    different : int_cmp (pos 0) (pos 0) ≡ Greater → ⊥
    different e = cc e

pub returns-in-Four-clause-below_next : goal.returns-in-Four-clause-below_next
returns-in-Four-clause-below_next c = in_either (λ o. sign_at o (pos 1) (neg_ℤ c.args.b) ≡ Greater) c.args.order c.in-Four.is refl refl

pub returns-in-Eight-clause-at_most : goal.returns-in-Eight-clause-at_most
returns-in-Eight-clause-at_most c =
    let b = c.args.b in
    let x = c.div_euclid in
    let f : FitsSigned w128 x.result = record { sfits = x.type_inv } in
    λ h. eight-at_most (reading w128 x.result) b c.requires.b_within
    (quotient-at_most x.result _ (pos 27354868640032294882193329 *ℤ b) 19342813113834066795298816
    (omega arith) f x.ensures (read_eight b c.requires.b_within))
    (ap (λ o. sign_at o (reading w128 x.result) (neg_ℤ b)) (sym c.in-Eight.is) ∙ h)

pub returns-in-Eight-clause-below_next : goal.returns-in-Eight-clause-below_next
returns-in-Eight-clause-below_next c =
    let b = c.args.b in
    let x = c.div_euclid in
    let f : FitsSigned w128 x.result = record { sfits = x.type_inv } in
    ap (λ o. sign_at o (reading w128 x.result +ℤ pos 1) (neg_ℤ b)) c.in-Eight.is
    ∙ eight-below_next (reading w128 x.result) b c.requires.b_within
    (quotient-below_next x.result _ (pos 27354868640032294882193329 *ℤ b) 19342813113834066795298816
    (omega arith) f x.ensures (read_eight b c.requires.b_within))

pub returns-in-Ten-clause-at_most : goal.returns-in-Ten-clause-at_most
returns-in-Ten-clause-at_most c =
    let b = c.args.b in
    let x = c.div_euclid-in-Ten in
    let f : FitsSigned w128 x.result = record { sfits = x.type_inv } in
    λ h. ten-at_most (reading w128 x.result) b c.requires.b_within
    (quotient-at_most x.result _ (pos 31297329056220708970904012 *ℤ b) 19342813113834066795298816
    (omega arith) f x.ensures (read_ten b c.requires.b_within))
    (ap (λ o. sign_at o (reading w128 x.result) (neg_ℤ b)) (sym c.in-Ten.is) ∙ h)

pub returns-in-Ten-clause-below_next : goal.returns-in-Ten-clause-below_next
returns-in-Ten-clause-below_next c =
    let b = c.args.b in
    let x = c.div_euclid-in-Ten in
    let f : FitsSigned w128 x.result = record { sfits = x.type_inv } in
    ap (λ o. sign_at o (reading w128 x.result +ℤ pos 1) (neg_ℤ b)) c.in-Ten.is
    ∙ ten-below_next (reading w128 x.result) b c.requires.b_within
    (quotient-below_next x.result _ (pos 31297329056220708970904012 *ℤ b) 19342813113834066795298816
    (omega arith) f x.ensures (read_ten b c.requires.b_within))

pub returns-in-Four-clause-bounded : goal.returns-in-Four-clause-bounded
returns-in-Four-clause-bounded c = grind (arith, common_steps)

pub returns-in-Eight-clause-bounded : goal.returns-in-Eight-clause-bounded
returns-in-Eight-clause-bounded c = grind (arith, common_steps)

pub returns-in-Ten-clause-bounded : goal.returns-in-Ten-clause-bounded
returns-in-Ten-clause-bounded c = grind (arith, common_steps)
