-- How many figures a number has, and a text behind one figure or sign more.
use Rattle.std.proofs.Common.{◌≡◌, ℕ, ◌+◌, ◌-◌, ◌<◌, ◌≤◌, ◌^◌, ◌∙◌, ℤ, pos, negsuc, ◌<ℤ◌, unsigned_abs, List, [], ◌∷◌, ◌++◌, length, length-append, drop, take, set, refl, ap, arith, append_assoc}
use Rattle.std.proofs.lemmas.Int.{ints}
use Rattle.std.proofs.lemmas.List.{drop-set, length-set, take_at}
use Rattle.std.specs.Fmt.{decimal, signed_decimal}
use Rattle.tile_shape.specs.Text.{comma, slash}
use Rattle.std.proofs.lemmas.Fmt.{decimal_digit, length-decimal-le, decimal_nonempty}

-- one figure at least, and 20 at most
pub record IsSized (n : ℕ) : Type 0 where
  pub some : 1 ≤ length (decimal n)
  pub at_most : length (decimal n) ≤ 20

pub sized : (n : ℕ) → n < 2 ^ 64 → IsSized n
sized n h = record { some = decimal_nonempty n h; at_most = length-decimal-le 20 n (omega arith) (omega arith) h }

pub three_figures : (n : ℕ) → n < 1000 → length (decimal n) ≤ 3
three_figures n h = length-decimal-le 3 n (omega arith) (omega arith) (omega arith)

-- a byte before a text
pub byte_before : (byte start : ℕ) (buf : List ℕ) → 1 ≤ start → start ≤ length buf
    → drop (start - 1) (set buf (start - 1) byte) ≡ byte ∷ drop start buf
byte_before byte start buf some inside =
    let e : start - 1 + 1 ≡ start = omega arith in
    rw (drop-set buf (start - 1) byte (omega arith), e) refl

pub one_figure : (n end : ℕ) (buf : List ℕ) → n < 10 → 1 ≤ end → end ≤ length buf
    → drop (end - 1) (set buf (end - 1) (48 + n)) ≡ decimal n ++ drop end buf
one_figure n end buf small some inside =
    rw (byte_before (48 + n) end buf some inside, decimal_digit n small) refl

-- a text behind its sign
pub behind_sign : (z : ℤ) (start : ℕ) (buf text : List ℕ) → z <ℤ pos 0 → 1 ≤ start → start ≤ length buf
    → drop start buf ≡ decimal (unsigned_abs z) ++ text
    → drop (start - 1) (set buf (start - 1) 45) ≡ signed_decimal z ++ text
behind_sign (pos n) start buf text below some inside h = absurd (omega (arith, ints))
behind_sign (negsuc n) start buf text below some inside h =
    byte_before 45 start buf some inside ∙ ap (λ t. 45 ∷ t) h

-- a digit of an address and a comma, in four bytes
pub four_bytes : (child parent end : ℕ) (buf : List ℕ) → child < 10 → parent < 10 → 4 ≤ end → end ≤ length buf
    → drop (end - 4) (set (set (set (set buf (end - 1) 44) (end - 2) (48 + parent)) (end - 3) 47) (end - 4)
    (48 + child)) ≡ (decimal child ++ slash ∷ decimal parent) ++ comma ∷ drop end buf
four_bytes child parent end buf small other some inside =
    let b1 = set buf (end - 1) 44 in
    let b2 = set b1 (end - 2) (48 + parent) in
    let b3 = set b2 (end - 3) 47 in
    let l1 : length b1 ≡ length buf = length-set buf (end - 1) 44 in
    let l2 : length b2 ≡ length b1 = length-set b1 (end - 2) (48 + parent) in
    let l3 : length b3 ≡ length b2 = length-set b2 (end - 3) 47 in
    let e4 : end - 4 + 1 ≡ end - 3 = omega arith in
    let e3 : end - 3 + 1 ≡ end - 2 = omega arith in
    let e2 : end - 2 + 1 ≡ end - 1 = omega arith in
    let e1 : end - 1 + 1 ≡ end = omega arith in
    rw (
      drop-set b3 (end - 4) (48 + child) (omega arith),
      e4,
      drop-set b2 (end - 3) 47 (omega arith),
      e3,
      drop-set b1 (end - 2) (48 + parent) (omega arith),
      e2,
      drop-set buf (end - 1) 44 (omega arith),
      e1,
      decimal_digit child small,
      decimal_digit parent other,
    ) refl

-- two numbers, a comma behind each
pub two_numbers : (f s : ℤ) (old a1 a2 a3 a4 line : List ℕ) → a1 ≡ comma ∷ old → a2 ≡ signed_decimal s ++ a1 → a3 ≡ comma ∷ a2
    → a4 ≡ signed_decimal f ++ a3 → line ≡ a4 → line ≡ (signed_decimal f ++ comma ∷ (signed_decimal s ++ comma ∷ [])) ++ old
two_numbers f s old a1 a2 a3 a4 line e1 e2 e3 e4 e5 =
    let all : line ≡ signed_decimal f ++ comma ∷ (signed_decimal s ++ comma ∷ old) = cc in
    all ∙ simp append_assoc

-- what was put before a text
pub text_before : (after before text : List ℕ) (n : ℕ) → after ≡ text ++ before → n ≡ length after - length before → take n after ≡ text
text_before after before text n e size =
    let long : length after ≡ length text + length before = ap length e ∙ length-append text before in
    ap (λ t. take n t) e ∙ take_at text before n (omega arith)

-- a turn and four numbers, as they are read, the first two put as one text
pub motion_numbers : (turn : ℕ) (read3 read2 read1 read0 a3 a2 a1 a0 : ℤ) (old b3 c3 b2 p q new : List ℕ)
    → read3 ≡ a3 → read2 ≡ a2 → read1 ≡ a1 → read0 ≡ a0
    → b3 ≡ signed_decimal read3 ++ old → c3 ≡ comma ∷ b3 → b2 ≡ signed_decimal read2 ++ c3
    → p ≡ (signed_decimal read0 ++ comma ∷ (signed_decimal read1 ++ comma ∷ [])) ++ b2 → q ≡ 32 ∷ p → new ≡ decimal turn ++ q
    → new ≡ (decimal turn ++ 32 ∷ (signed_decimal a0 ++ comma ∷ (signed_decimal a1 ++ comma
    ∷ (signed_decimal a2 ++ comma ∷ signed_decimal a3)))) ++ old
motion_numbers turn read3 read2 read1 read0 a3 a2 a1 a0 old b3 c3 b2 p q new i3 i2 i1 i0 e1 e2 e3 e4 e5 e6 =
    let all : new ≡ decimal turn ++ 32 ∷ ((signed_decimal a0 ++ comma ∷ (signed_decimal a1 ++ comma ∷ []))
    ++ (signed_decimal a2 ++ comma ∷ (signed_decimal a3 ++ old))) = cc in
    all ∙ simp append_assoc
