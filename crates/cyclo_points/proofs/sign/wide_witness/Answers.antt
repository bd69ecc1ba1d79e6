use Rattle.std.specs.Int.{w128}
use Rattle.std.proofs.Common.{arith, ℕ, ℤ, ◌≡◌, ◌^◌, ◌*◌, pos, ◌*ℤ◌, ◌+ℤ◌, int_cmp, sym, ◌∙◌, ap, ap₂}
use Rattle.std.proofs.lemmas.Int.{ints}
use Rattle.theory_ring.proofs.Ordered.{two_above, five_above}
use Rattle.theory_ring.proofs.Squares.{no_root_two, no_root_five}
use Rattle.cyclo_points.specs.Point.{Within}
use Rattle.cyclo_points.proofs.Reals.{in_either, reading, sign_at}
use Rattle.cyclo_points.proofs.SignReadings.{product-is_square, squared_within, two_squares, five_squares}
use Rattle.cyclo_points.proofs.Witnesses.{sign-by_squares}
use Rattle.cyclo_points.proofs.sign.wide_witness.Goals as goal

-- ---- the two numbers that are squared, as the code reads them
read_part : (x : ℤ) → Within (2 ^ 61) x → reading w128 x ≡ x
read_part x h = omega (arith, ints)

read_double : (a b : ℤ) → Within (2 ^ 61) a → Within (2 ^ 61) b
    → reading w128 (reading w128 (pos 2 *ℤ reading w128 a) +ℤ reading w128 b) ≡ pos 2 *ℤ a +ℤ b
read_double a b f g = omega (arith, ints)

double_within : (a b : ℤ) → Within (2 ^ 61) a → Within (2 ^ 61) b → Within (3 * 2 ^ 61) (pos 2 *ℤ a +ℤ b)
double_within a b f g = record { low = omega (arith, ints); high = omega (arith, ints) }

-- ---- and the sizes of their squares
part_square : (b x : ℤ) → ((k : ℕ) → Within k (reading w128 b) → Within (k * k) x) → Within (2 ^ 61) b → Within (2 ^ 122) x
part_square b x f h = squared_within (2 ^ 61) _ b x (read_part b h) f h

double_square : (a b x : ℤ) → ((k : ℕ) → Within k (reading w128 (reading w128 (pos 2 *ℤ reading w128 a) +ℤ reading w128 b)) → Within (k * k) x)
    → Within (2 ^ 61) a → Within (2 ^ 61) b → Within (9 * 2 ^ 122) x
double_square a b x f g h = squared_within (3 * 2 ^ 61) _ (pos 2 *ℤ a +ℤ b) x (read_double a b g h) f (double_within a b g h)

pub overflow_mul-result : goal.overflow_mul-result
overflow_mul-result c = let y = part_square c.args.r.now.b c.signed_square-in-Eight.result
    c.signed_square-in-Eight.ensures.bounded c.requires.r_within.at_b in omega (arith, ints)

pub overflow_add-result : goal.overflow_add-result
overflow_add-result c =
    let x = part_square c.args.r.now.a c.signed_square.result c.signed_square.ensures.bounded c.requires.r_within.at_a in
    let y = part_square c.args.r.now.b c.signed_square-in-Eight.result c.signed_square-in-Eight.ensures.bounded c.requires.r_within.at_b in
    omega (arith, ints)

pub overflow_mul-result-in-Ten : goal.overflow_mul-result-in-Ten
overflow_mul-result-in-Ten c = let y = part_square c.args.r.now.b c.signed_square-in-Ten-2.result
    c.signed_square-in-Ten-2.ensures.bounded c.requires.r_within.at_b in omega (arith, ints)

pub overflow_add-result-in-Ten : goal.overflow_add-result-in-Ten
overflow_add-result-in-Ten c =
    let x = double_square c.args.r.now.a c.args.r.now.b c.signed_square-in-Ten.result
    c.signed_square-in-Ten.ensures.bounded c.requires.r_within.at_a c.requires.r_within.at_b in
    let y = part_square c.args.r.now.b c.signed_square-in-Ten-2.result c.signed_square-in-Ten-2.ensures.bounded c.requires.r_within.at_b in
    omega (arith, ints)

pub returns-in-Four : goal.returns-in-Four
returns-in-Four c =
    let r = c.args.r.now in
    let e = ap (λ x. int_cmp x (pos 0)) (sym (read_part r.a c.requires.r_within.at_a)) in
    in_either (λ o. sign_at o r.a r.b ≡ int_cmp (reading w128 r.a) (pos 0)) c.args.order c.in-Four.is e e

pub returns-in-Eight : goal.returns-in-Eight
returns-in-Eight c =
    let a = c.args.r.now.a in
    let b = c.args.r.now.b in
    let x = c.signed_square in
    let y = c.signed_square-in-Eight in
    ap (λ o. sign_at o a b) c.in-Eight.is
    ∙ sign-by_squares (pos 2) two_above no_root_two a b
    ∙ ap (λ s. int_cmp s (pos 0))
    (sym
    (two_squares x.result y.result (part_square a x.result x.ensures.bounded c.requires.r_within.at_a)
    (part_square b y.result y.ensures.bounded c.requires.r_within.at_b)
    ∙ ap₂ (λ s t. s +ℤ pos 2 *ℤ t) (x.ensures.value
    ∙ product-is_square _ a (read_part a c.requires.r_within.at_a))
    (y.ensures.value ∙ product-is_square _ b (read_part b c.requires.r_within.at_b))))

pub returns-in-Ten : goal.returns-in-Ten
returns-in-Ten c =
    let a = c.args.r.now.a in
    let b = c.args.r.now.b in
    let x = c.signed_square-in-Ten in
    let y = c.signed_square-in-Ten-2 in
    ap (λ o. sign_at o a b) c.in-Ten.is
    ∙ sign-by_squares (pos 5) five_above no_root_five (pos 2 *ℤ a +ℤ b) b
    ∙ ap (λ s. int_cmp s (pos 0))
    (sym
    (five_squares x.result y.result (double_square a b x.result x.ensures.bounded c.requires.r_within.at_a
    c.requires.r_within.at_b) (part_square b y.result y.ensures.bounded c.requires.r_within.at_b)
    ∙ ap₂ (λ s t. s +ℤ pos 5 *ℤ t) (x.ensures.value
    ∙ product-is_square _ (pos 2 *ℤ a +ℤ b) (read_double a b c.requires.r_within.at_a
    c.requires.r_within.at_b)) (y.ensures.value
    ∙ product-is_square _ b (read_part b c.requires.r_within.at_b))))
