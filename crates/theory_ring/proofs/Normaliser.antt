-- A normaliser of polynomials, and its soundness over every commutative ring: an identity of polynomials is proved by `refl`, which computes
-- both sides to sums of terms. Its uses, for a ring R with laws L and a list xs of values of its variables:
--   ring R L xs e f refl                 the expressions e and f have one value at xs. Take them from the definitions themselves, whose
--                                        operations are a parameter: `difference exprs (var 0) (var 1)` has the value `difference R x y`.
--   solve R L 3 (λ a b c. (a ⊗ (b ⊕ c), a ⊗ b ⊕ a ⊗ c)) refl x y z      the same with both sides written out, for three values.
--   ring_by R L xs e f m l r h refl      e ≡ f from h : l ≡ r, where e is f + m (l - r) as a polynomial; ring_by2 takes two equations.
--   ring_from R L xs e f ms hs refl      the same from a list ms of such (m, l, r), with their proofs hs.
-- An equation of records is proved field by field, `λ i. record { a = ring .. refl i; b = ring .. refl i }`. Over the whole numbers give
-- nonlinear facts by `let` (a product of positives, an identity by `solve`) and end with one `omega (arith, ints)`, to which each product is
-- an unknown. Work with variables of the ring and not with coordinates: the cost grows with the square of the number of terms.
use Rattle.std.proofs.Common.{◌≡◌, ℕ, zero, suc, ℤ, pos, negsuc, ◌+ℤ◌, ◌*ℤ◌, neg_ℤ, Bool, true, false, leb, eqb, List, [], ◌∷◌, refl, sym, ap, ap₂, ◌∙◌, subst, eqb→eq, T}
use Rattle.theory_ring.specs.Ring.{Ops, Laws}

-- ---- polynomials as they are written
pub data Expr : Type 0 where
  var : ℕ → Expr
  con : ℤ → Expr
  add : Expr → Expr → Expr
  mul : Expr → Expr → Expr
  neg : Expr → Expr

-- expressions as the operations of a ring that need meet no law
abbrev pub exprs : Ops
exprs = record { carrier = Expr; add = add; mul = mul; neg = neg; int = con }

-- the value of variable number n
abbrev pub at : (R : Ops) → List R.carrier → ℕ → R.carrier
at R [] n = R.int (pos 0)
at R (x ∷ xs) zero = x
at R (x ∷ xs) (suc n) = at R xs n

abbrev pub eval : (R : Ops) → List R.carrier → Expr → R.carrier
eval R xs (var n) = at R xs n
eval R xs (con k) = R.int k
eval R xs (add a b) = R.add (eval R xs a) (eval R xs b)
eval R xs (mul a b) = R.mul (eval R xs a) (eval R xs b)
eval R xs (neg a) = R.neg (eval R xs a)

-- ---- normal forms: a list of terms, each a coefficient and a sorted list of variables
pub data Term : Type 0 where
  term : ℤ → List ℕ → Term

abbrev ins : ℕ → List ℕ → List ℕ
ins v [] = v ∷ []
ins v (w ∷ m) = elim (leb v w) [ true ↦ v ∷ (w ∷ m) | false ↦ w ∷ ins v m ]

abbrev join : List ℕ → List ℕ → List ℕ
join [] n = n
join (v ∷ m) n = ins v (join m n)

abbrev same : List ℕ → List ℕ → Bool
same [] [] = true
same [] (w ∷ n) = false
same (v ∷ m) [] = false
same (v ∷ m) (w ∷ n) = elim (eqb v w) [ true ↦ same m n | false ↦ false ]

abbrev before : List ℕ → List ℕ → Bool
before [] n = true
before (v ∷ m) [] = false
before (v ∷ m) (w ∷ n) = elim (eqb v w) [ true ↦ before m n | false ↦ leb v w ]

abbrev put : ℤ → List ℕ → List Term → List Term
put c m [] = term c m ∷ []
put c m (term d n ∷ p) =
    elim (same m n) [
      | true ↦ term (c +ℤ d) n ∷ p
      | false ↦ elim (before m n) [ true ↦ term c m ∷ (term d n ∷ p) | false ↦ term d n ∷ put c m p ]
    ]

abbrev plus : List Term → List Term → List Term
plus [] q = q
plus (term c m ∷ p) q = put c m (plus p q)

-- c m times p, put into q
abbrev scale : ℤ → List ℕ → List Term → List Term → List Term
scale c m [] q = q
scale c m (term d n ∷ p) q = put (c *ℤ d) (join m n) (scale c m p q)

abbrev times : List Term → List Term → List Term
times [] q = []
times (term c m ∷ p) q = scale c m q (times p q)

abbrev negate : List Term → List Term
negate [] = []
negate (term c m ∷ p) = term (neg_ℤ c) m ∷ negate p

abbrev norm : Expr → List Term
norm (var n) = term (pos 1) (n ∷ []) ∷ []
norm (con k) = term k [] ∷ []
norm (add a b) = plus (norm a) (norm b)
norm (mul a b) = times (norm a) (norm b)
norm (neg a) = negate (norm a)

abbrev is_zero : List Term → Bool
is_zero [] = true
is_zero (term (pos zero) m ∷ p) = is_zero p
is_zero (term (pos (suc n)) m ∷ p) = false
is_zero (term (negsuc n) m ∷ p) = false

-- whether the two are equal as polynomials
abbrev pub agree : Expr → Expr → Bool
agree a b = is_zero (norm (add a (neg b)))

-- ---- soundness
same_at : (v w : ℕ) (m n : List ℕ) → (same m n ≡ true → m ≡ n) → (b : Bool) → eqb v w ≡ b
    → elim b [ true ↦ same m n | false ↦ false ] ≡ true → (v ∷ m) ≡ (w ∷ n)
same_at v w m n rest true h k = ap₂ (λ x (y : List ℕ). x ∷ y) (eqb→eq v w (subst T (sym h) tt)) (rest k)
same_at v w m n rest false h k = absurd (cc k)

same→eq : (m n : List ℕ) → same m n ≡ true → m ≡ n
same→eq [] [] e = refl
same→eq [] (w ∷ n) e = absurd (cc e)
same→eq (v ∷ m) [] e = absurd (cc e)
same→eq (v ∷ m) (w ∷ n) e = same_at v w m n (same→eq m n) (eqb v w) refl e

module _ (R : Ops) (L : Laws R) where
  left_comm : (a b c : R.carrier) → R.add a (R.add b c) ≡ R.add b (R.add a c)
  left_comm a b c = sym (L.add_assoc a b c) ∙ ap (λ x. R.add x c) (L.add_comm a b) ∙ L.add_assoc b a c

  mul_left_comm : (a b c : R.carrier) → R.mul a (R.mul b c) ≡ R.mul b (R.mul a c)
  mul_left_comm a b c = sym (L.mul_assoc a b c) ∙ ap (λ x. R.mul x c) (L.mul_comm a b) ∙ L.mul_assoc b a c

  zero_add : (a : R.carrier) → R.add (R.int (pos 0)) a ≡ a
  zero_add a = L.add_comm _ a ∙ L.add_zero a

  one_mul : (a : R.carrier) → R.mul (R.int (pos 1)) a ≡ a
  one_mul a = L.mul_comm _ a ∙ L.mul_one a

  add_mul : (a b c : R.carrier) → R.mul (R.add a b) c ≡ R.add (R.mul a c) (R.mul b c)
  add_mul a b c = L.mul_comm _ c ∙ L.mul_add c a b ∙ ap₂ R.add (L.mul_comm c a) (L.mul_comm c b)

  -- what is its own double is 0
  double_zero : (x : R.carrier) → R.add x x ≡ x → x ≡ R.int (pos 0)
  double_zero x e =
      sym (L.add_zero x) ∙ ap (R.add x) (sym (L.add_neg x)) ∙ sym (L.add_assoc x x (R.neg x))
      ∙ ap (λ y. R.add y (R.neg x)) e ∙ L.add_neg x

  zero_mul : (a : R.carrier) → R.mul (R.int (pos 0)) a ≡ R.int (pos 0)
  zero_mul a =
      double_zero _ (sym (add_mul _ _ a) ∙ ap (λ x. R.mul x a) (L.add_zero (R.int (pos 0))))

  mul_zero : (a : R.carrier) → R.mul a (R.int (pos 0)) ≡ R.int (pos 0)
  mul_zero a = L.mul_comm a _ ∙ zero_mul a

  neg_unique : (a b : R.carrier) → R.add a b ≡ R.int (pos 0) → b ≡ R.neg a
  neg_unique a b e =
      sym (L.add_zero b) ∙ ap (R.add b) (sym (L.add_neg a)) ∙ sym (L.add_assoc b a (R.neg a))
      ∙ ap (λ x. R.add x (R.neg a)) (L.add_comm b a ∙ e) ∙ zero_add (R.neg a)

  neg_mul : (a b : R.carrier) → R.mul (R.neg a) b ≡ R.neg (R.mul a b)
  neg_mul a b =
      neg_unique (R.mul a b) _ (sym (add_mul a (R.neg a) b) ∙ ap (λ x. R.mul x b) (L.add_neg a) ∙ zero_mul b)

  neg_add : (a b : R.carrier) → R.neg (R.add a b) ≡ R.add (R.neg a) (R.neg b)
  neg_add a b =
      sym (neg_unique (R.add a b) _
      (L.add_assoc a b _ ∙ ap (R.add a) (left_comm b (R.neg a) (R.neg b) ∙ ap (R.add (R.neg a)) (L.add_neg b) ∙ L.add_zero (R.neg a)) ∙ L.add_neg a))

  neg_zero : R.neg (R.int (pos 0)) ≡ R.int (pos 0)
  neg_zero = sym (neg_unique _ _ (L.add_zero (R.int (pos 0))))

  -- from a - b ≡ 0
  pub equal_of_diff : (a b : R.carrier) → R.add a (R.neg b) ≡ R.int (pos 0) → a ≡ b
  equal_of_diff a b e =
      sym (L.add_zero a) ∙ ap (R.add a) (sym (L.add_neg b) ∙ L.add_comm b (R.neg b)) ∙ sym (L.add_assoc a (R.neg b) b)
      ∙ ap (λ x. R.add x b) e ∙ zero_add b

  module _ (xs : List R.carrier) where
    abbrev mono : List ℕ → R.carrier
    mono [] = R.int (pos 1)
    mono (v ∷ m) = R.mul (at R xs v) (mono m)

    abbrev val : List Term → R.carrier
    val [] = R.int (pos 0)
    val (term c m ∷ p) = R.add (R.mul (R.int c) (mono m)) (val p)

    mono-ins : (v : ℕ) (m : List ℕ) → mono (ins v m) ≡ R.mul (at R xs v) (mono m)
    mono-ins v [] = refl
    mono-ins v (w ∷ m) =
        elim (leb v w) as (λ b. mono (elim b [ true ↦ v ∷ (w ∷ m) | false ↦ w ∷ ins v m ]) ≡ R.mul (at R xs v) (R.mul (at R xs w) (mono m))) [
          | true ↦ refl
          | false ↦ ap (R.mul (at R xs w)) (mono-ins v m) ∙ mul_left_comm _ _ _
        ]

    mono-join : (m n : List ℕ) → mono (join m n) ≡ R.mul (mono m) (mono n)
    mono-join [] n = sym (one_mul (mono n))
    mono-join (v ∷ m) n =
        mono-ins v (join m n) ∙ ap (R.mul (at R xs v)) (mono-join m n) ∙ sym (L.mul_assoc _ _ _)

    val-put : (c : ℤ) (m : List ℕ) (p : List Term) → val (put c m p) ≡ R.add (R.mul (R.int c) (mono m)) (val p)
    val-put c m [] = refl
    val-put c m (term d n ∷ p) = at_same (val-put c m p) (same m n) refl
      where
        at_same : val (put c m p) ≡ R.add (R.mul (R.int c) (mono m)) (val p) → (b : Bool) → same m n ≡ b → val (elim b [
          | true ↦ term (c +ℤ d) n ∷ p
          | false ↦ elim (before m n) [ true ↦ term c m ∷ (term d n ∷ p) | false ↦ term d n ∷ put c m p ]
        ])
            ≡ R.add (R.mul (R.int c) (mono m)) (R.add (R.mul (R.int d) (mono n)) (val p))
        at_same rest true h =
            ap (λ x. R.add x (val p)) (ap (λ x. R.mul x (mono n)) (L.int_add c d) ∙ add_mul _ _ _
            ∙ ap (λ k. R.add (R.mul (R.int c) (mono k)) (R.mul (R.int d) (mono n))) (sym (same→eq m n h)))
            ∙ L.add_assoc _ _ _
        at_same rest false h =
            elim (before m n) as (λ b. val (elim b [
              | true ↦ term c m ∷ (term d n ∷ p)
              | false ↦ term d n
                  ∷ put c m p
            ]) ≡ R.add (R.mul (R.int c) (mono m)) (R.add (R.mul (R.int d) (mono n)) (val p))) [
              | true ↦ refl
              | false ↦ ap (R.add (R.mul (R.int d) (mono n))) rest ∙ left_comm _ _ _
            ]

    val-plus : (p q : List Term) → val (plus p q) ≡ R.add (val p) (val q)
    val-plus [] q = sym (zero_add (val q))
    val-plus (term c m ∷ p) q =
        val-put c m (plus p q) ∙ ap (R.add (R.mul (R.int c) (mono m))) (val-plus p q) ∙ sym (L.add_assoc _ _ _)

    four : (a b c d : R.carrier) → R.mul (R.mul a b) (R.mul c d) ≡ R.mul (R.mul a c) (R.mul b d)
    four a b c d = L.mul_assoc a b _ ∙ ap (R.mul a) (mul_left_comm b c d) ∙ sym (L.mul_assoc a c _)

    val-scale : (c : ℤ) (m : List ℕ) (p q : List Term) → val (scale c m p q) ≡ R.add (R.mul (R.mul (R.int c) (mono m)) (val p)) (val q)
    val-scale c m [] q = sym (ap (λ x. R.add x (val q)) (mul_zero _) ∙ zero_add (val q))
    val-scale c m (term d n ∷ p) q =
        val-put (c *ℤ d) (join m n) (scale c m p q)
        ∙ ap₂ R.add (ap₂ R.mul (L.int_mul c d) (mono-join m n) ∙ four _ _ _ _) (val-scale c m p q)
        ∙ sym (L.add_assoc _ _ _)
        ∙ ap (λ x. R.add x (val q)) (sym (L.mul_add _ _ _))

    val-times : (p q : List Term) → val (times p q) ≡ R.mul (val p) (val q)
    val-times [] q = sym (zero_mul (val q))
    val-times (term c m ∷ p) q =
        val-scale c m q (times p q) ∙ ap (R.add _) (val-times p q) ∙ sym (add_mul _ _ _)

    val-negate : (p : List Term) → val (negate p) ≡ R.neg (val p)
    val-negate [] = sym neg_zero
    val-negate (term c m ∷ p) =
        ap₂ R.add (ap (λ x. R.mul x (mono m)) (L.int_neg c) ∙ neg_mul _ _) (val-negate p) ∙ sym (neg_add _ _)

    val-norm : (e : Expr) → val (norm e) ≡ eval R xs e
    val-norm (var n) = L.add_zero _ ∙ one_mul _ ∙ L.mul_one _
    val-norm (con k) = L.add_zero _ ∙ L.mul_one _
    val-norm (add a b) = val-plus (norm a) (norm b) ∙ ap₂ R.add (val-norm a) (val-norm b)
    val-norm (mul a b) = val-times (norm a) (norm b) ∙ ap₂ R.mul (val-norm a) (val-norm b)
    val-norm (neg a) = val-negate (norm a) ∙ ap R.neg (val-norm a)

    val-is_zero : (p : List Term) → is_zero p ≡ true → val p ≡ R.int (pos 0)
    val-is_zero [] e = refl
    val-is_zero (term (pos zero) m ∷ p) e = ap₂ R.add (zero_mul (mono m)) (val-is_zero p e) ∙ L.add_zero _
    val-is_zero (term (pos (suc n)) m ∷ p) e = absurd (cc e)
    val-is_zero (term (negsuc n) m ∷ p) e = absurd (cc e)

    -- two polynomials that agree have one value
    pub ring : (a b : Expr) → agree a b ≡ true → eval R xs a ≡ eval R xs b
    ring a b e =
        equal_of_diff (eval R xs a) (eval R xs b) (sym (val-norm (add a (neg b))) ∙ val-is_zero (norm (add a (neg b))) e)

-- ---- from equations that are known: e is f, up to m times l - r, and l is r
module _ (R : Ops) (L : Laws R) (xs : List R.carrier) where
  pub ring_by : (e f m l r : Expr) → eval R xs l ≡ eval R xs r → agree e (add f (mul m (add l (neg r)))) ≡ true → eval R xs e ≡ eval R xs f
  ring_by e f m l r h k =
      ring R L xs e (add f (mul m (add l (neg r)))) k
      ∙ ap (λ z. R.add (eval R xs f) (R.mul (eval R xs m) (R.add z (R.neg (eval R xs r))))) h
      ∙ ring R L (eval R xs f ∷ (eval R xs m ∷ (eval R xs r ∷ []))) (add (var 0) (mul (var 1) (add (var 2) (neg (var 2))))) (var 0) refl

  pub ring_by2 : (e f m l r m' l' r' : Expr) → eval R xs l ≡ eval R xs r → eval R xs l' ≡ eval R xs r'
      → agree e (add (add f (mul m' (add l' (neg r')))) (mul m (add l (neg r)))) ≡ true → eval R xs e ≡ eval R xs f
  ring_by2 e f m l r m' l' r' h h' k =
      ring_by e (add f (mul m' (add l' (neg r')))) m l r h k
      ∙ ap (λ z. R.add (eval R xs f) (R.mul (eval R xs m') (R.add z (R.neg (eval R xs r'))))) h'
      ∙ ring R L (eval R xs f ∷ (eval R xs m' ∷ (eval R xs r' ∷ []))) (add (var 0) (mul (var 1) (add (var 2) (neg (var 2))))) (var 0) refl

-- ---- the same from any number of known equations: each (m, l, r) stands for m times l - r
abbrev pub combine : Expr → List (Expr × Expr × Expr) → Expr
combine f [] = f
combine f (k ∷ ks) = add (combine f ks) (mul k.0 (add k.1 (neg k.2)))

module _ (R : Ops) (L : Laws R) (xs : List R.carrier) where
  abbrev pub Known : List (Expr × Expr × Expr) → Type 0
  Known [] = Unit {0}
  Known (k ∷ ks) = (eval R xs k.1 ≡ eval R xs k.2) × Known ks

  combined : (f : Expr) (ks : List (Expr × Expr × Expr)) → Known ks → eval R xs (combine f ks) ≡ eval R xs f
  combined f [] h = refl
  combined f (k ∷ ks) h =
      ap (λ z. R.add (eval R xs (combine f ks)) (R.mul (eval R xs k.0) (R.add z (R.neg (eval R xs k.2))))) h.0
      ∙ ring R L (eval R xs (combine f ks) ∷ (eval R xs k.0 ∷ (eval R xs k.2 ∷ [])))
      (add (var 0) (mul (var 1) (add (var 2) (neg (var 2))))) (var 0) refl
      ∙ combined f ks h.1

  pub ring_from : (e f : Expr) (ks : List (Expr × Expr × Expr)) → Known ks → agree e (combine f ks) ≡ true → eval R xs e ≡ eval R xs f
  ring_from e f ks h k = ring R L xs e (combine f ks) k ∙ combined f ks h

-- ---- the form for use: `solve R L n (λ x y ... . (left, right)) refl a b ...`
abbrev pub Build : ℕ → Type 0
Build zero = Expr × Expr
Build (suc n) = Expr → Build n

abbrev pub built : (n k : ℕ) → Build n → Expr × Expr
built zero k f = f
built (suc n) k f = built n (suc k) (f (var k))

abbrev pub Curry : (A : Type 0) (n : ℕ) → (List A → Type 0) → Type 0
Curry A zero P = P []
Curry A (suc n) P = (x : A) → Curry A n (λ xs. P (x ∷ xs))

pub curry : (A : Type 0) (n : ℕ) (P : List A → Type 0) → ((xs : List A) → P xs) → Curry A n P
curry A zero P f = f []
curry A (suc n) P f = λ x. curry A n (λ xs. P (x ∷ xs)) (λ xs. f (x ∷ xs))

pub solve : (R : Ops) (L : Laws R) (n : ℕ) (f : Build n) → agree (built n 0 f).0 (built n 0 f).1 ≡ true
    → Curry R.carrier n (λ xs. eval R xs (built n 0 f).0 ≡ eval R xs (built n 0 f).1)
solve R L n f e = curry R.carrier n _ (λ xs. ring R L xs (built n 0 f).0 (built n 0 f).1 e)

infixl 6 ◌⊕◌
infixl 6 ◌⊖◌
infixl 7 ◌⊗◌
abbrev pub ◌⊕◌ : Expr → Expr → Expr
a ⊕ b = add a b

abbrev pub ◌⊖◌ : Expr → Expr → Expr
a ⊖ b = add a (neg b)

abbrev pub ◌⊗◌ : Expr → Expr → Expr
a ⊗ b = mul a b
