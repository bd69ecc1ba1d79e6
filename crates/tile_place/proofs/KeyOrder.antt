-- Keys are ordered as the numbers of their tiles.
use Rattle.std.proofs.Common.{◌≡◌, ℕ, suc, ◌+◌, ◌*◌, ◌^◌, ◌<◌, ◌≤◌, ℤ, pos, ◌<ℤ◌, List, [], ◌∷◌, false, refl, sym, ap, ap₂, ◌∙◌, arith}
use Rattle.std.specs.Ordering.{MatchOrdering, ordering_then, ordering_reverse, nat_cmp, int_cmp, is_lt}
use Rattle.std.specs.declared.cmp.Ordering.{Ordering}
use Rattle.std.specs.declared.cmp.Ordering.TheVariants.{Less, Equal, Greater}
use Rattle.std.specs.Cmp.Lexicographic.{slice_cmp}
use Rattle.std.specs.Cmp.{nat_cmp_is, int_ranks}
use Rattle.std.proofs.lemmas.Cmp.{ranked, int_cmp_total, lists_total}
use Rattle.std.proofs.lemmas.Int.{ints}
use Rattle.std.proofs.lemmas.Map.Lookups.{exact_signed}
use Rattle.std.proofs.Math.Nat.{suc-mul, mul-le-mul_right}
use Rattle.cyclo_points.specs.Point.{Within, coefficient}
use Rattle.cyclo_points.specs.declared.motion.Motion.{Motion}
use Rattle.tile_place.specs.declared.order_key.OrderKey.{OrderKey}
use Rattle.tile_place.specs.contracts.order_key.OrderKeyOrd.TheImpl as key_ord
use Rattle.tile_place.specs.Keys.{order_numbers, raised_shift, packed_pair, key_of, FitsKey}

-- the order by which keys are sorted
abbrev pub key_cmp : OrderKey → OrderKey → Ordering
key_cmp = (key_ord.ghosts).cmp

-- ---- comparing numbers part by part
pub carried : {P Q R S T U : Type 0} (o : Ordering) → MatchOrdering o P Q R → (P → S) → (Q → T) → (R → U) → MatchOrdering o S T U
carried Less m f g h = f m
carried Equal m f g h = g m
carried Greater m f g h = h m

raised-cmp : (x y : ℤ) → Within (2 ^ 24) x → Within (2 ^ 24) y → int_cmp x y ≡ nat_cmp (raised_shift x) (raised_shift y)
raised-cmp x y v w = nat_cmp_is (raised_shift x) (raised_shift y) (int_cmp x y)
    (carried (int_cmp x y) (int_ranks x y) (below x y v w) (ap raised_shift) (below y x w v))
  where
    below : (a b : ℤ) → Within (2 ^ 24) a → Within (2 ^ 24) b → a <ℤ b → raised_shift a < raised_shift b
    below a b v w e = let l = v.low in let h = v.high in let m = w.low in let k = w.high in omega (arith, ints, l, h, m, k, e)

raised-below : (x : ℤ) → Within (2 ^ 24) x → raised_shift x < 2 ^ 26
raised-below x w = let l = w.low in let h = w.high in omega (arith, ints, l, h)

pub pos-cmp : (m n : ℕ) → int_cmp (pos m) (pos n) ≡ nat_cmp m n
pos-cmp m n = nat_cmp_is m n (int_cmp (pos m) (pos n))
    (carried (int_cmp (pos m) (pos n)) (int_ranks (pos m) (pos n)) (λ e. omega (arith, ints, e))
    (λ e. omega (arith, ints, e)) (λ e. omega (arith, ints, e)))

-- a number in two parts, the second below n
pub parts-before : (n p q r s : ℕ) → p < r → q < n → p * n + q < r * n + s
parts-before n p q r s e f =
    let l : suc p * n ≤ r * n = mul-le-mul_right n (omega (arith, e)) in
    let k : suc p * n ≡ p * n + n = suc-mul p n in
    omega (arith, f, l, k)

pub parts-cmp : (n a b c d : ℕ) → b < n → d < n → nat_cmp (a * n + b) (c * n + d) ≡ ordering_then (nat_cmp a c) (nat_cmp b d)
parts-cmp n a b c d v w = sym (nat_cmp_is (a * n + b) (c * n + d) (ordering_then (nat_cmp a c) (nat_cmp b d))
    (at (nat_cmp a c) (nat_cmp b d) (ranked a c (nat_cmp a c) refl) (ranked b d (nat_cmp b d) refl)))
  where
    at : (o p : Ordering) → MatchOrdering o (a < c) (a ≡ c) (c < a) → MatchOrdering p (b < d) (b ≡ d) (d < b)
        → MatchOrdering (ordering_then o p) (a * n + b < c * n + d) (a * n + b ≡ c * n + d) (c * n + d < a * n + b)
    at Less p e f = parts-before n a b c d e v
    at Greater p e f = parts-before n c d a b e w
    at Equal p e f =
        let same : a * n ≡ c * n = ap (λ k. k * n) e in
        carried p f (λ l. omega (arith, same, l)) (λ l. omega (arith, same, l)) (λ l. omega (arith, same, l))

pub then-assoc : (o p q : Ordering) → ordering_then (ordering_then o p) q ≡ ordering_then o (ordering_then p q)
then-assoc Less p q = refl
then-assoc Equal p q = refl
then-assoc Greater p q = refl

then-equal : (o : Ordering) → ordering_then o Equal ≡ o
then-equal Less = refl
then-equal Equal = refl
then-equal Greater = refl

both-equal : (o p : Ordering) → ordering_then o p ≡ Equal → (o ≡ Equal) × (p ≡ Equal)
both-equal Less p e = absurd (cc e)
both-equal Equal p e = (refl, e)
both-equal Greater p e = absurd (cc e)

-- ---- keys
pair-cmp : (a b c d : ℤ) → Within (2 ^ 24) a → Within (2 ^ 24) b → Within (2 ^ 24) c → Within (2 ^ 24) d
    → nat_cmp (packed_pair a b) (packed_pair c d) ≡ ordering_then (int_cmp a c) (int_cmp b d)
pair-cmp a b c d s t u v =
    parts-cmp (2 ^ 26) (raised_shift a) (raised_shift b) (raised_shift c) (raised_shift d) (raised-below b t) (raised-below d v)
    ∙ ap₂ ordering_then (sym (raised-cmp a c s u)) (sym (raised-cmp b d t v))

module _ (m n : Motion) (k l : ℕ) (fm : FitsKey m k) (fn : FitsKey n l) where
  abbrev cmp_at : ℕ → Ordering
  cmp_at i = int_cmp (coefficient m.shift i) (coefficient n.shift i)

  -- the two words are compared as the six numbers
  pub numbers-cmp : (i j : ℕ) → slice_cmp int_cmp (order_numbers m k) (order_numbers n l)
      ≡ ordering_then (nat_cmp (key_of m k i).high (key_of n l j).high) (nat_cmp (key_of m k i).low (key_of n l j).low)
  numbers-cmp i j = ap₂ spread (pos-cmp m.turn n.turn) (pos-cmp k l) ∙ sym (ap₂ ordering_then high low ∙ joined)
    where
      turns : Ordering
      turns = nat_cmp m.turn n.turn

      kinds : Ordering
      kinds = nat_cmp k l

      spread : Ordering → Ordering → Ordering
      spread o p = ordering_then (cmp_at 0) (ordering_then (cmp_at 1)
          (ordering_then (cmp_at 2) (ordering_then (cmp_at 3) (ordering_then o (ordering_then p Equal)))))

      high : nat_cmp (key_of m k i).high (key_of n l j).high ≡ ordering_then (cmp_at 0) (cmp_at 1)
      high = pair-cmp _ _ _ _ fm.within.at_0 fm.within.at_1 fn.within.at_0 fn.within.at_1

      low : nat_cmp (key_of m k i).low (key_of n l j).low ≡ ordering_then (ordering_then (ordering_then (cmp_at 2) (cmp_at 3)) turns) kinds
      low =
          parts-cmp (2 ^ 8) _ k _ l fm.kind_fits fn.kind_fits
          ∙ ap (λ o. ordering_then o kinds) (parts-cmp (2 ^ 4) _ m.turn _ n.turn fm.turn_fits fn.turn_fits
          ∙ ap (λ o. ordering_then o turns) (pair-cmp _ _ _ _ fm.within.at_2 fm.within.at_3 fn.within.at_2 fn.within.at_3))

      tail : ordering_then (ordering_then (ordering_then (cmp_at 2) (cmp_at 3)) turns) kinds ≡ ordering_then
          (cmp_at 2) (ordering_then (cmp_at 3) (ordering_then turns (ordering_then kinds Equal)))
      tail =
          then-assoc (ordering_then (cmp_at 2) (cmp_at 3)) turns kinds ∙ then-assoc (cmp_at 2) (cmp_at 3) (ordering_then turns kinds)
          ∙ ap (λ o. ordering_then (cmp_at 2) (ordering_then (cmp_at 3) (ordering_then turns o))) (sym (then-equal kinds))

      joined : ordering_then (ordering_then (cmp_at 0) (cmp_at 1))
          (ordering_then (ordering_then (ordering_then (cmp_at 2) (cmp_at 3)) turns) kinds) ≡ spread turns
          kinds
      joined = then-assoc (cmp_at 0) (cmp_at 1) _ ∙ ap (λ o. ordering_then (cmp_at 0) (ordering_then (cmp_at 1) o)) tail

exact : (xs ys : List ℤ) → slice_cmp int_cmp xs ys ≡ Equal → xs ≡ ys
exact [] [] e = refl
exact [] (y ∷ ys) e = absurd (cc e)
exact (x ∷ xs) [] e = absurd (cc e)
exact (x ∷ xs) (y ∷ ys) e =
    let parts = both-equal (int_cmp x y) (slice_cmp int_cmp xs ys) e in
    ap₂ (λ (z : ℤ) (zs : List ℤ). z ∷ zs) (exact_signed x y parts.0) (exact xs ys parts.1)

reversed : (o n : Ordering) → is_lt (ordering_then o n) ≡ false → (o ≡ Equal → ⊥) → ordering_reverse o ≡ Less
reversed Less n e h = absurd (cc e)
reversed Equal n e h = absurd (h refl)
reversed Greater n e h = refl

not_first : (o n : Ordering) → is_lt (ordering_then o n) ≡ false → o ≡ Less → ⊥
not_first Less n e h = cc e
not_first Equal n e h = cc h
not_first Greater n e h = cc h

-- the places of two tiles, and their keys
module _ (m n : Motion) (k l : ℕ) (a b : OrderKey) (fm : FitsKey m k) (fn : FitsKey n l)
    (ea : a ≡ key_of m k a.number) (eb : b ≡ key_of n l b.number) where
  -- keys that have the same words are of the same numbers
  pub level-numbers : a.high ≡ b.high → a.low ≡ b.low → order_numbers m k ≡ order_numbers n l
  level-numbers high low =
      exact (order_numbers m k) (order_numbers n l)
      (numbers-cmp m n k l fm fn a.number b.number ∙ ap₂ ordering_then (sym (nat_cmp_is _ _ Equal highs)) (sym (nat_cmp_is _ _ Equal lows)))
    where
      highs : (key_of m k a.number).high ≡ (key_of n l b.number).high
      highs = ap (λ (q : OrderKey). q.high) (sym ea) ∙ high ∙ ap (λ (q : OrderKey). q.high) eb

      lows : (key_of m k a.number).low ≡ (key_of n l b.number).low
      lows = ap (λ (q : OrderKey). q.low) (sym ea) ∙ low ∙ ap (λ (q : OrderKey). q.low) eb

  -- the first key isn't after the other
  module _ (up : is_lt (key_cmp b a) ≡ false) where
    abbrev o : Ordering
    o = slice_cmp int_cmp (order_numbers n l) (order_numbers m k)

    abbrev number : Ordering
    number = nat_cmp b.number a.number

    words : o ≡ ordering_then (nat_cmp b.high a.high) (nat_cmp b.low a.low)
    words =
        numbers-cmp n m l k fn fm b.number a.number
        ∙ ap₂ (λ (p q : OrderKey). ordering_then (nat_cmp p.high q.high) (nat_cmp p.low q.low)) (sym eb) (sym ea)

    not_less : is_lt (ordering_then o number) ≡ false
    not_less = ap is_lt (ap (λ p. ordering_then p number) words ∙ then-assoc (nat_cmp b.high a.high) (nat_cmp b.low a.low) number) ∙ up

    -- then the second tile doesn't come before the first
    pub not_after : slice_cmp int_cmp (order_numbers n l) (order_numbers m k) ≡ Less → ⊥
    not_after e = not_first o number not_less e

    -- and comes after it, where they are not numbered the same
    pub comes-first : (order_numbers m k ≡ order_numbers n l → ⊥) → slice_cmp int_cmp (order_numbers m k) (order_numbers n l) ≡ Less
    comes-first apart =
        (lists_total int_cmp_total).antisymm (order_numbers m k) (order_numbers n l)
        ∙ reversed o number not_less (λ e. apart (sym (exact (order_numbers n l) (order_numbers m k) e)))
