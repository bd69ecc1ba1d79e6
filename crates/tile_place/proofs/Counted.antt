-- Members of a list that pass a test, by how many there are.
use Rattle.std.proofs.Common.{◌≡◌, ◌⊎◌, inl, inr, ℕ, suc, Bool, true, false, cond, List, [], ◌∷◌, map, refl, sym, ap, ◌∙◌}
use Rattle.theory_addresses.specs.Search.{IsAmong}
use Rattle.theory_dissection.specs.Sums.{number_of}

-- where there are some, there is one
pub one_of : {A : Type 0} (test : A → Bool) (xs : List A) (n : ℕ) → number_of test xs ≡ suc n → (x : A) × IsAmong x xs × (test x ≡ true)
one_of test [] n e = absurd (cc e)
one_of {A} test (x ∷ xs) n e = at_test (test x) refl e (one_of test xs n)
  where
    at_test : (b : Bool) → test x ≡ b → cond b (suc (number_of test xs)) (number_of test xs) ≡ suc n
        → (number_of test xs ≡ suc n → (y : A) × IsAmong y xs × (test y ≡ true))
        → (y : A) × IsAmong y (x ∷ xs) × (test y ≡ true)
    at_test true h f rest = (x, inl refl, h)
    at_test false h f rest = let y = rest f in (y.0, inr y.1, y.2)

-- where there is one, there are some
pub some_of_one : {A : Type 0} (test : A → Bool) (x : A) (xs : List A) → IsAmong x xs → test x ≡ true → (n : ℕ) × (number_of test xs ≡ suc n)
some_of_one test x [] i h = elim i [ ]
some_of_one test x (y ∷ ys) (inl e) h = (number_of test ys, ap (λ b. cond b (suc (number_of test ys)) (number_of test ys)) (ap test (sym e) ∙ h))
some_of_one test x (y ∷ ys) (inr i) h = let rest = some_of_one test x ys i h in at_test (test y) rest
  where
    at_test : (b : Bool) → (n : ℕ) × (number_of test ys ≡ suc n) → (n : ℕ) × (cond b (suc (number_of test ys)) (number_of test ys) ≡ suc n)
    at_test true rest = (number_of test ys, refl)
    at_test false rest = rest

-- where there is one alone, two that pass are one
pub one_alone : {A : Type 0} (test : A → Bool) (xs : List A) → number_of test xs ≡ 1 → (x y : A)
    → IsAmong x xs → test x ≡ true → IsAmong y xs → test y ≡ true → x ≡ y
one_alone test [] e x y i h j k = elim i [ ]
one_alone {A} test (z ∷ zs) e x y i h j k = at_test (test z) refl e i j (λ f a b. one_alone test zs f x y a h b k)
  where
    none : (n : ℕ) → suc n ≡ 1 → n ≡ 0
    none n f = cc f

    at_test : (b : Bool) → test z ≡ b → cond b (suc (number_of test zs)) (number_of test zs) ≡ 1 → (x ≡ z) ⊎ IsAmong x zs → (y ≡ z) ⊎ IsAmong y zs
        → (number_of test zs ≡ 1 → IsAmong x zs → IsAmong y zs → x ≡ y) → x ≡ y
    at_test true q f (inl a) (inl b) rest = a ∙ sym b
    at_test true q f (inr a) b rest = let s = some_of_one test x zs a h in absurd (cc (sym s.1 ∙ none (number_of test zs) f))
    at_test true q f (inl a) (inr b) rest = let s = some_of_one test y zs b k in absurd (cc (sym s.1 ∙ none (number_of test zs) f))
    at_test false q f (inl a) b rest = absurd (cc (sym q ∙ ap test (sym a) ∙ h))
    at_test false q f (inr a) (inl b) rest = absurd (cc (sym q ∙ ap test (sym b) ∙ k))
    at_test false q f (inr a) (inr b) rest = rest f a b

-- a member of the images is the image of a member
pub among-map : {A B : Type 0} (f : A → B) (y : B) (xs : List A) → IsAmong y (map f xs) → (x : A) × IsAmong x xs × (f x ≡ y)
among-map f y [] i = elim i [ ]
among-map f y (x ∷ xs) (inl e) = (x, inl refl, sym e)
among-map f y (x ∷ xs) (inr i) = let h = among-map f y xs i in (h.0, inr h.1, h.2)
