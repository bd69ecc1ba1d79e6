-- Members of lists, distinct lists, and how many pass a test.
use Rattle.std.proofs.Common.{◌≡◌, ◌⊎◌, inl, inr, ℕ, suc, List, [], ◌∷◌, ◌++◌, map, flat_map, length, ◌≤◌, refl, sym, ap, ◌∙◌, subst, Bool, true, false, cond, pos, arith}
use Rattle.std.specs.List.{AllByRecursion, filter}
use Rattle.std.proofs.lemmas.Int.{ints}
use Rattle.theory_addresses.specs.Search.{IsAmong}
use Rattle.theory_addresses.proofs.Lists.{IsAmong-map, IsAmong-flat_map}
use Rattle.theory_addresses.proofs.Ranges.{among-append, InPiece, among-flat_map}
use Rattle.theory_addresses.proofs.Filters.{IsAmong-filter}
use Rattle.theory_dissection.specs.Sums.{number_of}
use Rattle.theory_windows.specs.Distinct.{AreDistinct}

pub among-map : {A B : Type 0} (f : A → B) (y : B) (xs : List A) → IsAmong y (map f xs) → (x : A) × IsAmong x xs × (y ≡ f x)
among-map f y [] i = elim i [ ]
among-map f y (x ∷ xs) (inl e) = (x, inl refl, e)
among-map f y (x ∷ xs) (inr i) = let m = among-map f y xs i in (m.0, inr m.1, m.2)

-- what an element of one of several lists comes from
pub record ComesFrom {A B C : Type 0} (f : A → B) (g : B → List C) (y : C) (xs : List A) : Type 0 where
  pub source : A
  pub among : IsAmong source xs
  pub of_source : IsAmong y (g (f source))

pub comes-from : {A B C : Type 0} (f : A → B) (g : B → List C) (y : C) (xs : List A) → IsAmong y (flat_map g (map f xs)) → ComesFrom f g y xs
comes-from f g y xs i =
    let p : InPiece g y (map f xs) = among-flat_map g y (map f xs) i in
    let m = among-map f p.piece xs p.among in
    record { source = m.0; among = m.1; of_source = subst (λ z. IsAmong y (g z)) m.2 p.inside }

pub goes-to : {A B C : Type 0} (f : A → B) (g : B → List C) (y : C) (x : A) (xs : List A) → IsAmong x xs
    → IsAmong y (g (f x)) → IsAmong y (flat_map g (map f xs))
goes-to f g y x xs i j = IsAmong-flat_map g (f x) y (map f xs) (IsAmong-map f x xs i) j

-- ---- what holds of each
pub AllByRecursion-both : {A : Type 0} (Q T : A → Type 0) (xs : List A) → AllByRecursion Q xs
    → AllByRecursion T xs → AllByRecursion (λ x. Q x × T x) xs
AllByRecursion-both Q T [] h k = tt
AllByRecursion-both Q T (x ∷ xs) h k = ((h.0, k.0), AllByRecursion-both Q T xs h.1 k.1)

pub AllByRecursion-more : {A : Type 0} (Q : A → Type 0) (xs : List A) (y : A) → AllByRecursion Q xs → Q y → AllByRecursion Q (xs ++ y ∷ [])
AllByRecursion-more Q [] y h k = (k, tt)
AllByRecursion-more Q (x ∷ xs) y h k = (h.0, AllByRecursion-more Q xs y h.1 k)

-- ---- distinct lists
pub distinct-append : {A : Type 0} (xs ys : List A) → AreDistinct xs → AreDistinct ys
    → ((x : A) → IsAmong x xs → IsAmong x ys → ⊥) → AreDistinct (xs ++ ys)
distinct-append [] ys h k apart = k
distinct-append (x ∷ xs) ys h k apart = (
  λ i. at_case (among-append x xs ys i),
  distinct-append xs ys h.1 k (λ z i j. apart z (inr i) j),
)
  where
    at_case : IsAmong x xs ⊎ IsAmong x ys → ⊥
    at_case (inl i) = absurd (h.0 i)
    at_case (inr i) = apart x (inl refl) i

pub distinct-filter : {A : Type 0} (p : A → Bool) (xs : List A) → AreDistinct xs → AreDistinct (filter p xs)
distinct-filter p [] d = tt
distinct-filter p (x ∷ xs) d = at_test (p x) (distinct-filter p xs d.1)
  where
    at_test : (b : Bool) → AreDistinct (filter p xs) → AreDistinct (cond b (x ∷ filter p xs) (filter p xs))
    at_test true k = (λ i. absurd (d.0 (IsAmong-filter p x xs i).0), k)
    at_test false k = k

-- ---- how many pass
pub same_whole : (m n : ℕ) → pos m ≡ pos n → m ≡ n
same_whole m n e = omega (arith, ints)

none : {A : Type 0} (test : A → Bool) (xs : List A) → ((x : A) → IsAmong x xs → test x ≡ true → ⊥) → number_of test xs ≡ 0
none test [] h = refl
none test (x ∷ xs) h = at_test (test x) refl (none test xs (λ y i. h y (inr i)))
  where
    at_test : (b : Bool) → test x ≡ b → number_of test xs ≡ 0 → cond b (suc (number_of test xs)) (number_of test xs) ≡ 0
    at_test true e k = absurd (h x (inl refl) e)
    at_test false e k = k

-- one that passes, and no other
pub number-one : {A : Type 0} (test : A → Bool) (y : A) (xs : List A) → AreDistinct xs → IsAmong y xs
    → test y ≡ true → ((x : A) → IsAmong x xs → test x ≡ true → x ≡ y) → number_of test xs ≡ 1
number-one test y [] d i h only = elim i [ ]
number-one test y (x ∷ xs) d (inl e) h only =
    ap (λ b. cond b (suc (number_of test xs)) (number_of test xs)) (ap test (sym e) ∙ h)
    ∙ ap suc (none test xs (λ z i t. absurd (d.0 (subst (λ u. IsAmong u xs) (only z (inr i) t ∙ e) i))))
number-one test y (x ∷ xs) d (inr i) h only = at_test (test x) refl (number-one test y xs d.1 i h (λ z j t. only z (inr j) t))
  where
    at_test : (b : Bool) → test x ≡ b → number_of test xs ≡ 1 → cond b (suc (number_of test xs)) (number_of test xs) ≡ 1
    at_test true e k = absurd (d.0 (subst (λ u. IsAmong u xs) (sym (only x (inl refl) e)) i))
    at_test false e k = k

-- where the number is 1, one passes
pub some-passes : {A : Type 0} (test : A → Bool) (xs : List A) → number_of test xs ≡ 1 → (x : A) × IsAmong x xs × (test x ≡ true)
some-passes test [] e = absurd (omega arith)
some-passes {A} test (x ∷ xs) e = at_test (test x) refl e (some-passes test xs)
  where
    at_test : (b : Bool) → test x ≡ b → cond b (suc (number_of test xs)) (number_of test xs) ≡ 1
        → (number_of test xs ≡ 1 → (y : A) × IsAmong y xs × (test y ≡ true))
        → (y : A) × IsAmong y (x ∷ xs) × (test y ≡ true)
    at_test true h k more = (x, inl refl, h)
    at_test false h k more = let m = more k in (m.0, inr m.1, m.2)

-- where one passes, the number isn't 0
pub some-counted : {A : Type 0} (test : A → Bool) (x : A) (xs : List A) → IsAmong x xs → test x ≡ true → number_of test xs ≡ 0 → ⊥
some-counted test x [] i h e = elim i [ ]
some-counted test x (y ∷ ys) (inl f) h e = one (sym (ap (λ b. cond b (suc (number_of test ys)) (number_of test ys)) (ap test (sym f) ∙ h)) ∙ e)
  where
    one : {n : ℕ} → suc n ≡ 0 → ⊥
    one k = omega arith
some-counted test x (y ∷ ys) (inr i) h e = some-counted test x ys i h (fewer (test y) e)
  where
    fewer : (b : Bool) → cond b (suc (number_of test ys)) (number_of test ys) ≡ 0 → number_of test ys ≡ 0
    fewer true k = omega arith
    fewer false k = k

-- ---- distinct members of a list are no more than it has
-- a list without one of its members
record Without {A : Type 0} (x : A) (ys : List A) : Type 0 where
  rest : List A
  shorter : suc (length rest) ≡ length ys
  others : (y : A) → IsAmong y ys → (y ≡ x) ⊎ IsAmong y rest

without : {A : Type 0} (x : A) (ys : List A) → IsAmong x ys → Without x ys
without x [] i = elim i [ ]
without {A} x (y ∷ ys) (inl e) = record { rest = ys; shorter = refl; others = λ z i. at_case z i }
  where
    at_case : (z : A) → IsAmong z (y ∷ ys) → (z ≡ x) ⊎ IsAmong z ys
    at_case z (inl f) = inl (f ∙ sym e)
    at_case z (inr j) = inr j
without {A} x (y ∷ ys) (inr i) = later (without x ys i)
  where
    later : Without x ys → Without x (y ∷ ys)
    later w = record { rest = y ∷ w.rest; shorter = ap suc w.shorter; others = λ z j. at_case z j }
      where
        at_case : (z : A) → IsAmong z (y ∷ ys) → (z ≡ x) ⊎ IsAmong z (y ∷ w.rest)
        at_case z (inl f) = inr (inl f)
        at_case z (inr j) = moved (w.others z j)
          where
            moved : (z ≡ x) ⊎ IsAmong z w.rest → (z ≡ x) ⊎ IsAmong z (y ∷ w.rest)
            moved (inl g) = inl g
            moved (inr k) = inr (inr k)

pub no-more : {A : Type 0} (xs ys : List A) → AreDistinct xs → ((x : A) → IsAmong x xs → IsAmong x ys) → length xs ≤ length ys
no-more [] ys d h = omega arith
no-more {A} (x ∷ xs) ys d h =
    let w : Without x ys = without x ys (h x (inl refl)) in
    longer w (no-more xs w.rest d.1 (λ z i. kept w z i (w.others z (h z (inr i)))))
  where
    kept : (w : Without x ys) (z : A) → IsAmong z xs → (z ≡ x) ⊎ IsAmong z w.rest → IsAmong z w.rest
    kept w z i (inl e) = absurd (d.0 (subst (λ u. IsAmong u xs) e i))
    kept w z i (inr j) = j

    longer : (w : Without x ys) → length xs ≤ length w.rest → suc (length xs) ≤ length ys
    longer w k = let e = w.shorter in omega arith
