-- The three ordered rings meet their laws.
use Rattle.std.proofs.Common.{◌≡◌, List, [], ◌∷◌, ℤ, pos, ◌+ℤ◌, ◌*ℤ◌, ◌-ℤ◌, ◌<ℤ◌, ◌≤ℤ◌, nat_abs, neg_ℤ, refl, ap, ap₂, ◌∙◌, arith, int_cmp, Equal, Greater}
use Rattle.std.specs.Ordering.{ordering_reverse}
use Rattle.std.proofs.lemmas.Int.{ints}
use Rattle.theory_ring.specs.Ring.{Ops, Laws, integers}
use Rattle.theory_ring.specs.Surd.{Pair, root_two, golden}
use Rattle.theory_ring.specs.Sign.{surd_sign, Passes, OrderLaws, signed_integers, signed_root_two, signed_golden}
use Rattle.theory_ring.proofs.Normaliser.{Expr, var, con, neg, exprs, solve, ring, ◌⊕◌, ◌⊖◌, ◌⊗◌}
use Rattle.theory_ring.proofs.Integers.{integers_laws}
use Rattle.theory_ring.proofs.Squares.{mul_pos, mul_at_least, no_root_two, no_root_five}
use Rattle.theory_ring.proofs.SurdSign.{sign-above, above-of_sign, zero-of_sign, surd-neg, surd-add, surd-mul, surd-half}
use Rattle.theory_ring.proofs.Archimedes.{below_abs, passes_any}

abbrev pair : Expr → Expr → Pair Expr
pair x y = record { a = x; b = y }

abbrev X : Pair Expr
X = pair (var 0) (var 1)

abbrev Y : Pair Expr
Y = pair (var 2) (var 3)

abbrev Z : Pair Expr
Z = pair (var 4) (var 5)

-- ---- pairs over a ring are a ring, by coordinates
module _ (R : Ops) (L : Laws R) where
  abbrev these : Pair R.carrier → Pair R.carrier → Pair R.carrier → List R.carrier
  these r s t = r.a ∷ (r.b ∷ (s.a ∷ (s.b ∷ (t.a ∷ (t.b ∷ [])))))

  root_two_int_mul : (m n : ℤ) → (root_two R).int (m *ℤ n) ≡ (root_two R).mul ((root_two R).int m) ((root_two R).int n)
  root_two_int_mul m n =
      let u : R.carrier = R.int m in
      let v : R.carrier = R.int n in
      λ i. record {
        a = (L.int_mul m n ∙ ring R L (u ∷ (v ∷ [])) (var 0 ⊗ var 1)
            ((root_two exprs).mul (pair (var 0) (con (pos 0))) (pair (var 1) (con (pos 0)))).a refl) i;
        b = ring R L (u ∷ (v ∷ [])) (con (pos 0)) ((root_two exprs).mul (pair (var 0) (con (pos 0))) (pair (var 1) (con (pos 0)))).b refl i;
      }

  pub root_two_laws : Laws (root_two R)
  root_two_laws = record {
    add_assoc = λ (r : Pair R.carrier) (s : Pair R.carrier) (t : Pair R.carrier). λ i. record
        { a = L.add_assoc r.a s.a t.a i; b = L.add_assoc r.b s.b t.b i };
    add_comm = λ (r : Pair R.carrier) (s : Pair R.carrier). λ i. record { a = L.add_comm r.a s.a i; b = L.add_comm r.b s.b i };
    add_zero = λ (r : Pair R.carrier). λ i. record { a = L.add_zero r.a i; b = L.add_zero r.b i };
    add_neg = λ (r : Pair R.carrier). λ i. record { a = L.add_neg r.a i; b = L.add_neg r.b i };
    mul_assoc = λ (r : Pair R.carrier) (s : Pair R.carrier) (t : Pair R.carrier). λ i. record {
      a = ring R L (these r s t) ((root_two exprs).mul ((root_two exprs).mul X Y) Z).a ((root_two exprs).mul X ((root_two exprs).mul Y Z)).a refl i;
      b = ring R L (these r s t) ((root_two exprs).mul ((root_two exprs).mul X Y) Z).b ((root_two exprs).mul X ((root_two exprs).mul Y Z)).b refl i;
    };
    mul_comm = λ (r : Pair R.carrier) (s : Pair R.carrier). λ i. record {
      a = ring R L (these r s s) ((root_two exprs).mul X Y).a ((root_two exprs).mul Y X).a refl i;
      b = ring R L (these r s s) ((root_two exprs).mul X Y).b ((root_two exprs).mul Y X).b refl i;
    };
    mul_one = λ (r : Pair R.carrier). λ i. record {
      a = ring R L (these r r r) ((root_two exprs).mul X ((root_two exprs).int (pos 1))).a (var 0) refl i;
      b = ring R L (these r r r) ((root_two exprs).mul X ((root_two exprs).int (pos 1))).b (var 1) refl i;
    };
    mul_add = λ (r : Pair R.carrier) (s : Pair R.carrier) (t : Pair R.carrier). λ i. record {
      a = ring R L (these r s t) ((root_two exprs).mul X ((root_two exprs).add Y Z)).a
          ((root_two exprs).add ((root_two exprs).mul X Y) ((root_two exprs).mul X Z)).a refl i;
      b = ring R L (these r s t) ((root_two exprs).mul X ((root_two exprs).add Y Z)).b
          ((root_two exprs).add ((root_two exprs).mul X Y) ((root_two exprs).mul X Z)).b refl i;
    };
    int_add = λ m n. λ i. record { a = L.int_add m n i; b = ring R L [] (con (pos 0)) (con (pos 0) ⊕ con (pos 0)) refl i };
    int_mul = root_two_int_mul;
    int_neg = λ m. λ i. record { a = L.int_neg m i; b = ring R L [] (con (pos 0)) (neg (con (pos 0))) refl i };
  }

  golden_int_mul : (m n : ℤ) → (golden R).int (m *ℤ n) ≡ (golden R).mul ((golden R).int m) ((golden R).int n)
  golden_int_mul m n =
      let u : R.carrier = R.int m in
      let v : R.carrier = R.int n in
      λ i. record {
        a = (L.int_mul m n ∙ ring R L (u ∷ (v ∷ [])) (var 0 ⊗ var 1)
            ((golden exprs).mul (pair (var 0) (con (pos 0))) (pair (var 1) (con (pos 0)))).a refl) i;
        b = ring R L (u ∷ (v ∷ [])) (con (pos 0)) ((golden exprs).mul (pair (var 0) (con (pos 0))) (pair (var 1) (con (pos 0)))).b refl i;
      }

  pub golden_laws : Laws (golden R)
  golden_laws = record {
    add_assoc = λ (r : Pair R.carrier) (s : Pair R.carrier) (t : Pair R.carrier). λ i. record
        { a = L.add_assoc r.a s.a t.a i; b = L.add_assoc r.b s.b t.b i };
    add_comm = λ (r : Pair R.carrier) (s : Pair R.carrier). λ i. record { a = L.add_comm r.a s.a i; b = L.add_comm r.b s.b i };
    add_zero = λ (r : Pair R.carrier). λ i. record { a = L.add_zero r.a i; b = L.add_zero r.b i };
    add_neg = λ (r : Pair R.carrier). λ i. record { a = L.add_neg r.a i; b = L.add_neg r.b i };
    mul_assoc = λ (r : Pair R.carrier) (s : Pair R.carrier) (t : Pair R.carrier). λ i. record {
      a = ring R L (these r s t) ((golden exprs).mul ((golden exprs).mul X Y) Z).a ((golden exprs).mul X ((golden exprs).mul Y Z)).a refl i;
      b = ring R L (these r s t) ((golden exprs).mul ((golden exprs).mul X Y) Z).b ((golden exprs).mul X ((golden exprs).mul Y Z)).b refl i;
    };
    mul_comm = λ (r : Pair R.carrier) (s : Pair R.carrier). λ i. record {
      a = ring R L (these r s s) ((golden exprs).mul X Y).a ((golden exprs).mul Y X).a refl i;
      b = ring R L (these r s s) ((golden exprs).mul X Y).b ((golden exprs).mul Y X).b refl i;
    };
    mul_one = λ (r : Pair R.carrier). λ i. record {
      a = ring R L (these r r r) ((golden exprs).mul X ((golden exprs).int (pos 1))).a (var 0) refl i;
      b = ring R L (these r r r) ((golden exprs).mul X ((golden exprs).int (pos 1))).b (var 1) refl i;
    };
    mul_add = λ (r : Pair R.carrier) (s : Pair R.carrier) (t : Pair R.carrier). λ i. record {
      a = ring R L (these r s t) ((golden exprs).mul X ((golden exprs).add Y Z)).a
          ((golden exprs).add ((golden exprs).mul X Y) ((golden exprs).mul X Z)).a refl i;
      b = ring R L (these r s t) ((golden exprs).mul X ((golden exprs).add Y Z)).b
          ((golden exprs).add ((golden exprs).mul X Y) ((golden exprs).mul X Z)).b refl i;
    };
    int_add = λ m n. λ i. record { a = L.int_add m n i; b = ring R L [] (con (pos 0)) (con (pos 0) ⊕ con (pos 0)) refl i };
    int_mul = golden_int_mul;
    int_neg = λ m. λ i. record { a = L.int_neg m i; b = ring R L [] (con (pos 0)) (neg (con (pos 0))) refl i };
  }

-- ---- the orders
pub whole_greater : (x : ℤ) → pos 0 <ℤ x → int_cmp x (pos 0) ≡ Greater
whole_greater x h = grind (arith, ints)

pub greater_whole : (x : ℤ) → int_cmp x (pos 0) ≡ Greater → pos 0 <ℤ x
greater_whole x h = grind (arith, ints)

pub two_above : pos 0 <ℤ pos 2
two_above = omega (arith, ints)

pub five_above : pos 0 <ℤ pos 5
five_above = omega (arith, ints)

-- ---- multiples pass every number
integers_pass : (x y : ℤ) → pos 0 <ℤ x → Passes signed_integers x y
integers_pass x y h =
    let k : ℤ = pos (nat_abs y) +ℤ pos 1 in
    let p : pos 0 ≤ℤ ((x -ℤ pos 1) *ℤ k) = mul_at_least (x -ℤ pos 1) k (omega (arith, ints)) (omega (arith, ints)) in
    let e : (x -ℤ pos 1) *ℤ k ≡ k *ℤ x -ℤ k = solve integers integers_laws 2 (λ x k. ((x ⊖ con (pos 1)) ⊗ k, k ⊗ x ⊖ k)) refl x k in
    let a : y ≤ℤ pos (nat_abs y) = below_abs y in
    (k, omega (arith, ints), whole_greater (k *ℤ x -ℤ y) (omega (arith, ints)))

-- k (u + v√m) - (s + t√m), whose k comes as the pair (k, 0)
root_two_multiple : (k u v s t : ℤ) → (k *ℤ u +ℤ pos 2 *ℤ (pos 0 *ℤ v)) +ℤ neg_ℤ s ≡ k *ℤ u -ℤ s
root_two_multiple = solve integers integers_laws 5 (λ k u v s t. ((k ⊗ u ⊕ con (pos 2) ⊗ (con (pos 0) ⊗ v)) ⊕ neg s, k ⊗ u ⊖ s)) refl

whole_multiple : (k u v t : ℤ) → (k *ℤ v +ℤ pos 0 *ℤ u) +ℤ neg_ℤ t ≡ k *ℤ v -ℤ t
whole_multiple = solve integers integers_laws 4 (λ k u v t. ((k ⊗ v ⊕ con (pos 0) ⊗ u) ⊕ neg t, k ⊗ v ⊖ t)) refl

root_two_passes : (x y : Pair ℤ) → surd_sign (pos 2) x.a x.b ≡ Greater → Passes signed_root_two x y
root_two_passes x y p =
    let f = passes_any (pos 2) (omega (arith, ints)) x.a x.b y.a y.b no_root_two (above-of_sign (pos 2) two_above no_root_two x.a x.b p) in (
      f.0,
      f.1,
      ap₂ (surd_sign (pos 2)) (root_two_multiple f.0 x.a x.b y.a y.b) (whole_multiple f.0 x.a x.b y.b)
          ∙ sign-above (pos 2) two_above no_root_two _ _ f.2,
    )

golden_first : (k a b c d : ℤ) → pos 2 *ℤ ((k *ℤ a +ℤ pos 0 *ℤ b) +ℤ neg_ℤ c) +ℤ ((k *ℤ b +ℤ pos 0 *ℤ a +ℤ pos 0 *ℤ b) +ℤ neg_ℤ d)
    ≡ k *ℤ (pos 2 *ℤ a +ℤ b) -ℤ (pos 2 *ℤ c +ℤ d)
golden_first = solve integers integers_laws 5 (λ k a b c d. (
  con (pos 2) ⊗ ((k ⊗ a ⊕ con (pos 0) ⊗ b) ⊕ neg c) ⊕ ((k ⊗ b ⊕ con (pos 0) ⊗ a ⊕ con (pos 0) ⊗ b) ⊕ neg d),
  k ⊗ (con (pos 2) ⊗ a ⊕ b) ⊖ (con (pos 2) ⊗ c ⊕ d),
)) refl

golden_second : (k a b d : ℤ) → (k *ℤ b +ℤ pos 0 *ℤ a +ℤ pos 0 *ℤ b) +ℤ neg_ℤ d ≡ k *ℤ b -ℤ d
golden_second = solve integers integers_laws 4 (λ k a b d. ((k ⊗ b ⊕ con (pos 0) ⊗ a ⊕ con (pos 0) ⊗ b) ⊕ neg d, k ⊗ b ⊖ d)) refl

golden_passes : (x y : Pair ℤ) → surd_sign (pos 5) (pos 2 *ℤ x.a +ℤ x.b) x.b ≡ Greater → Passes signed_golden x y
golden_passes x y p =
    let f = passes_any (pos 5) (omega (arith, ints)) (pos 2 *ℤ x.a +ℤ x.b) x.b (pos 2 *ℤ y.a +ℤ y.b) y.b
    no_root_five (above-of_sign (pos 5) five_above no_root_five (pos 2 *ℤ x.a +ℤ x.b) x.b p) in (
      f.0,
      f.1,
      ap₂ (surd_sign (pos 5)) (golden_first f.0 x.a x.b y.a y.b) (golden_second f.0 x.a x.b y.b)
          ∙ sign-above (pos 5) five_above no_root_five _ _ f.2,
    )

pub integers_order : OrderLaws signed_integers
integers_order = record {
  zero_equal = refl;
  one_greater = refl;
  equal_zero = λ x h. equal_zero_whole x h;
  sign-neg = λ x. neg_whole x;
  sign-add = λ x y p q. whole_greater (x +ℤ y) (let f = greater_whole x p in let g = greater_whole y q in omega (arith, ints));
  sign-mul = λ x y p q. whole_greater (x *ℤ y) (mul_pos x y (greater_whole x p) (greater_whole y q));
  passes = λ x y p. integers_pass x y (greater_whole x p);
}
  where
    equal_zero_whole : (x : ℤ) → int_cmp x (pos 0) ≡ Equal → x ≡ pos 0
    equal_zero_whole x h = grind (arith, ints)

    neg_whole : (x : ℤ) → int_cmp (neg_ℤ x) (pos 0) ≡ ordering_reverse (int_cmp x (pos 0))
    neg_whole x = grind (arith, ints)

pub pair_path : (r s : Pair ℤ) → r.a ≡ s.a → r.b ≡ s.b → r ≡ s
pair_path r s e f = λ i. record { a = e i; b = f i }

pub root_two_order : OrderLaws signed_root_two
root_two_order = record {
  zero_equal = refl;
  one_greater = refl;
  equal_zero = λ (x : Pair ℤ) h. (let z = zero-of_sign (pos 2) two_above no_root_two x.a x.b h in pair_path x
      (record { a = pos 0; b = pos 0 }) z.0 z.1);
  sign-neg = λ (x : Pair ℤ). surd-neg (pos 2) two_above no_root_two x.a x.b;
  sign-add = λ (x : Pair ℤ) (y : Pair ℤ) p q. surd-add (pos 2) two_above no_root_two x.a x.b y.a y.b p q;
  sign-mul = λ (x : Pair ℤ) (y : Pair ℤ) p q. surd-mul (pos 2) two_above no_root_two x.a x.b y.a y.b p q;
  passes = λ (x : Pair ℤ) (y : Pair ℤ) p. root_two_passes x y p;
}

pub golden_order : OrderLaws signed_golden
golden_order = record {
  zero_equal = refl;
  one_greater = refl;
  equal_zero = λ (x : Pair ℤ) h. (let z = zero-of_sign (pos 5) five_above no_root_five (pos 2 *ℤ x.a +ℤ x.b) x.b h in
      let e = z.0 in let f = z.1 in
      pair_path x (record { a = pos 0; b = pos 0 }) (omega (arith, ints)) f);
  sign-neg = λ (x : Pair ℤ). (ap (λ u. surd_sign (pos 5) u (neg_ℤ x.b)) (neg_twice x.a x.b)
      ∙ surd-neg (pos 5) five_above no_root_five (pos 2 *ℤ x.a +ℤ x.b) x.b);
  sign-add = λ (x : Pair ℤ) (y : Pair ℤ) p q. (ap (λ u. surd_sign (pos 5) u (x.b +ℤ y.b)) (add_twice x.a x.b y.a y.b)
      ∙ surd-add (pos 5) five_above no_root_five (pos 2 *ℤ x.a +ℤ x.b) x.b (pos 2 *ℤ y.a +ℤ y.b) y.b p q);
  sign-mul = λ (x : Pair ℤ) (y : Pair ℤ) p q. mul_golden x.a x.b y.a y.b p q;
  passes = λ (x : Pair ℤ) (y : Pair ℤ) p. golden_passes x y p;
}
  where
    neg_twice : (a b : ℤ) → pos 2 *ℤ neg_ℤ a +ℤ neg_ℤ b ≡ neg_ℤ (pos 2 *ℤ a +ℤ b)
    neg_twice a b = omega (arith, ints)

    add_twice : (a b c d : ℤ) → pos 2 *ℤ (a +ℤ c) +ℤ (b +ℤ d) ≡ (pos 2 *ℤ a +ℤ b) +ℤ (pos 2 *ℤ c +ℤ d)
    add_twice a b c d = omega (arith, ints)

    mul_golden : (a b c d : ℤ) → surd_sign (pos 5) (pos 2 *ℤ a +ℤ b) b ≡ Greater → surd_sign (pos 5) (pos 2 *ℤ c +ℤ d) d ≡ Greater
        → surd_sign (pos 5) (pos 2 *ℤ (a *ℤ c +ℤ b *ℤ d) +ℤ (a *ℤ d +ℤ b *ℤ c +ℤ b *ℤ d)) (a *ℤ d +ℤ b *ℤ c +ℤ b *ℤ d) ≡ Greater
    mul_golden a b c d p q =
        surd-half (pos 5) five_above no_root_five (pos 2 *ℤ (a *ℤ c +ℤ b *ℤ d) +ℤ (a *ℤ d +ℤ b *ℤ c +ℤ b *ℤ d)) (a *ℤ d +ℤ b *ℤ c +ℤ b *ℤ d)
        (ap₂ (surd_sign (pos 5))
        (solve integers integers_laws 4 (λ a b c d. (
          con (pos 2) ⊗ (con (pos 2) ⊗ (a ⊗ c ⊕ b ⊗ d) ⊕ (a ⊗ d ⊕ b ⊗ c ⊕ b ⊗ d)),
          (con (pos 2) ⊗ a ⊕ b) ⊗ (con (pos 2) ⊗ c ⊕ d) ⊕ con (pos 5) ⊗ (b ⊗ d),
        )) refl a b c d)
        (solve integers integers_laws 4 (λ a b c d. (
          con (pos 2) ⊗ (a ⊗ d ⊕ b ⊗ c ⊕ b ⊗ d),
          (con (pos 2) ⊗ a ⊕ b) ⊗ d ⊕ b ⊗ (con (pos 2) ⊗ c ⊕ d),
        )) refl a b c d)
        ∙ surd-mul (pos 5) five_above no_root_five (pos 2 *ℤ a +ℤ b) b (pos 2 *ℤ c +ℤ d) d p q)

-- θ is positive
pub root_two_positive : signed_root_two.sign (record { a = pos 0; b = pos 1 }) ≡ Greater
root_two_positive = refl

pub golden_positive : signed_golden.sign (record { a = pos 0; b = pos 1 }) ≡ Greater
golden_positive = refl
