-- What a filter keeps; and elements each of which alone passes a test of its own, apart from the others, are the whole list where they are as many.
use Rattle.std.proofs.Common.{◌≡◌, ◌⊎◌, inl, inr, Bool, true, false, not, cond, List, [], ◌∷◌, length, refl, sym, ap, ◌∙◌, subst, arith}
use Rattle.std.specs.List.{filter, AllByRecursion}
use Rattle.std.proofs.lemmas.Bool.{cond_both, cases_Bool}
use Rattle.std.proofs.lemmas.List.Filters.{length-filter_both}
use Rattle.theory_addresses.specs.Search.{IsAmong}
use Rattle.theory_addresses.proofs.Lists.{AllByRecursion-among, AllByRecursion-from}

-- what passes is kept
pub IsAmong-kept : {A : Type 0} (t : A → Bool) (x : A) (xs : List A) → IsAmong x xs → t x ≡ true → IsAmong x (filter t xs)
IsAmong-kept t x [] i h = elim i [ ]
IsAmong-kept t x (y ∷ ys) (inl e) h = subst (λ b. IsAmong x (cond b (y ∷ filter t ys) (filter t ys))) (sym (ap t (sym e) ∙ h)) (inl e)
IsAmong-kept {A} t x (y ∷ ys) (inr i) h =
    let rest = IsAmong-kept t x ys i h in
    cond_both (t y) (y ∷ filter t ys) (filter t ys) (λ (l : List A). IsAmong x l) (λ e. inr rest) (λ e. rest)

-- and nothing else
pub IsAmong-filter : {A : Type 0} (t : A → Bool) (x : A) (xs : List A) → IsAmong x (filter t xs) → IsAmong x xs × (t x ≡ true)
IsAmong-filter t x [] i = elim i [ ]
IsAmong-filter {A} t x (y ∷ ys) i = at_test (t y) refl i (IsAmong-filter t x ys)
  where
    at_test : (b : Bool) → t y ≡ b → IsAmong x (cond b (y ∷ filter t ys) (filter t ys))
        → (IsAmong x (filter t ys) → IsAmong x ys × (t x ≡ true)) → IsAmong x (y ∷ ys) × (t x ≡ true)
    at_test true e (inl f) rest = (inl f, ap t f ∙ e)
    at_test true e (inr j) rest = let r = rest j in (inr r.0, r.1)
    at_test false e j rest = let r = rest j in (inr r.0, r.1)

pub IsAmong-one : {A : Type 0} (x y : A) → IsAmong x (y ∷ []) → x ≡ y
IsAmong-one x y (inl e) = e
IsAmong-one x y (inr i) = elim i [ ]

-- where a filter keeps one element, it is each that passes
pub only_kept : {A : Type 0} (t : A → Bool) (x y : A) (xs : List A) → filter t xs ≡ y ∷ [] → IsAmong x xs → t x ≡ true → x ≡ y
only_kept {A} t x y xs e i h = IsAmong-one x y (subst (λ (l : List A). IsAmong x l) e (IsAmong-kept t x xs i h))

-- and it passes
pub kept_one : {A : Type 0} (t : A → Bool) (y : A) (xs : List A) → filter t xs ≡ y ∷ [] → IsAmong y xs × (t y ≡ true)
kept_one {A} t y xs e = IsAmong-filter t y xs (subst (λ (l : List A). IsAmong y l) (sym e) (inl refl))

-- a filter after a weaker one
pub filter-after : {A : Type 0} (p q : A → Bool) → ((x : A) → q x ≡ true → p x ≡ true) → (xs : List A) → filter q (filter p xs) ≡ filter q xs
filter-after p q h [] = refl
filter-after {A} p q h (x ∷ xs) = at_tests (p x) (q x) refl refl (filter-after p q h xs)
  where
    at_tests : (b c : Bool) → p x ≡ b → q x ≡ c → filter q (filter p xs) ≡ filter q xs
        → filter q (cond b (x ∷ filter p xs) (filter p xs)) ≡ cond c (x ∷ filter q xs) (filter q xs)
    at_tests true true e f r = ap (λ (d : Bool). cond d (x ∷ filter q (filter p xs)) (filter q (filter p xs))) f ∙ ap (λ (l : List A). x ∷ l) r
    at_tests true false e f r = ap (λ (d : Bool). cond d (x ∷ filter q (filter p xs)) (filter q (filter p xs))) f ∙ r
    at_tests false true e f r = absurd (cc (h x f, e))
    at_tests false false e f r = r

-- what passes the test of one passes that of none after it
abbrev pub AreApart : {A : Type 0} → (A → A → Bool) → List A → Type 0
AreApart t [] = Unit {0}
AreApart {A} t (s ∷ ss) = AllByRecursion (λ u. (x : A) → t s x ≡ true → t u x ≡ false) ss × AreApart t ss

-- Where the first of these keeps itself alone, each other keeps itself alone also among what the first leaves
pub others_taken : {A : Type 0} (t : A → A → Bool) (s : A) (ss xs : List A) → AllByRecursion (λ u. filter (t u) xs ≡ u ∷ []) ss → AreApart t (s ∷ ss)
    → AllByRecursion (λ u. filter (t u) (filter (λ y. not (t s y)) xs) ≡ u ∷ []) ss
others_taken {A} t s ss xs h apart = AllByRecursion-from (λ u. filter (t u) (filter (λ y. not (t s y)) xs) ≡ u ∷ []) ss (λ u j.
    filter-after (λ y. not (t s y)) (t u) (weaker u (AllByRecursion-among (λ v. (y : A) → t s y ≡ true → t v y ≡ false) u ss j apart.0)) xs
    ∙ AllByRecursion-among (λ v. filter (t v) xs ≡ v ∷ []) u ss j h)
  where
    weaker : (u : A) → ((y : A) → t s y ≡ true → t u y ≡ false) → (y : A) → t u y ≡ true → not (t s y) ≡ true
    weaker u f y g = at_case (cases_Bool (t s y))
      where
        at_case : (t s y ≡ true) ⊎ (t s y ≡ false) → not (t s y) ≡ true
        at_case (inl k) = absurd (cc (f y k, g))
        at_case (inr k) = ap not k

-- and what it leaves is one less
pub others-length : {A : Type 0} (t : A → A → Bool) (s : A) (ss xs : List A) → filter (t s) xs ≡ s ∷ []
    → length xs ≡ length (s ∷ ss) → length (filter (λ y. not (t s y)) xs) ≡ length ss
others-length t s ss xs h e =
    let both = length-filter_both (t s) (λ y. not (t s y)) (λ y. refl) xs in
    let one : length (filter (t s) xs) ≡ 1 = ap length h in
    omega arith

no_members : {A : Type 0} (xs : List A) (x : A) → length xs ≡ 0 → IsAmong x xs → ⊥
no_members [] x e i = elim i [ ]
no_members (y ∷ ys) x e i = omega arith

-- Each of as many as there are is the only one that passes a test of its own, and the tests are apart: then they are all
pub all_taken : {A : Type 0} (t : A → A → Bool) (ss xs : List A) → AllByRecursion (λ s. filter (t s) xs ≡ s ∷ []) ss → AreApart t ss
    → length xs ≡ length ss → (x : A) → IsAmong x xs → IsAmong x ss
all_taken t [] xs h apart e x i = absurd (no_members xs x e i)
all_taken {A} t (s ∷ ss) xs h apart e x i = at_test (cases_Bool (t s x))
    (λ j. all_taken t ss others (others_taken t s ss xs h.1 apart) apart.1 (others-length t s ss xs h.0 e) x
    j)
  where
    others : List A
    others = filter (λ y. not (t s y)) xs

    at_test : (t s x ≡ true) ⊎ (t s x ≡ false) → (IsAmong x others → IsAmong x ss) → IsAmong x (s ∷ ss)
    at_test (inl k) rest = inl (only_kept (t s) x s xs h.0 i k)
    at_test (inr k) rest = inr (rest (IsAmong-kept (λ y. not (t s y)) x xs i (ap not k)))
