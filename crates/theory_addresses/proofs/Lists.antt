-- Members of lists, and what holds of each.
use Rattle.std.proofs.Common.{◌≡◌, inl, inr, ℕ, zero, suc, ◌+◌, ◌<◌, List, [], ◌∷◌, ◌++◌, length, map, reverse, get_or, slice_get, Some, refl, sym, ap, ap₂, ◌∙◌, subst, arith, zero-add, add-zero}
use Rattle.std.specs.List.{flat_map, enumerate_from, AllByRecursion}
use Rattle.std.proofs.lemmas.List.{map-append, reverse-append}
use Rattle.theory_addresses.specs.Search.{IsAmong}

pub AllByRecursion-among : {A : Type 0} (Q : A → Type 0) (x : A) (xs : List A) → IsAmong x xs → AllByRecursion Q xs → Q x
AllByRecursion-among Q x [] i h = elim i [ ]
AllByRecursion-among Q x (y ∷ ys) (inl e) h = subst Q (sym e) h.0
AllByRecursion-among Q x (y ∷ ys) (inr i) h = AllByRecursion-among Q x ys i h.1

pub AllByRecursion-from : {A : Type 0} (Q : A → Type 0) (xs : List A) → ((x : A) → IsAmong x xs → Q x) → AllByRecursion Q xs
AllByRecursion-from Q [] h = tt
AllByRecursion-from Q (x ∷ xs) h = (h x (inl refl), AllByRecursion-from Q xs (λ y i. h y (inr i)))

pub AllByRecursion-each : {A : Type 0} (Q T : A → Type 0) (xs : List A) → ((x : A) → Q x → T x) → AllByRecursion Q xs → AllByRecursion T xs
AllByRecursion-each Q T [] f h = tt
AllByRecursion-each Q T (x ∷ xs) f h = (f x h.0, AllByRecursion-each Q T xs f h.1)

pub AllByRecursion-map : {A B : Type 0} (Q : B → Type 0) (f : A → B) (xs : List A) → AllByRecursion (λ x. Q (f x)) xs → AllByRecursion Q (map f xs)
AllByRecursion-map Q f [] h = tt
AllByRecursion-map Q f (x ∷ xs) h = (h.0, AllByRecursion-map Q f xs h.1)

pub AllByRecursion-append : {A : Type 0} (Q : A → Type 0) (xs ys : List A) → AllByRecursion Q xs → AllByRecursion Q ys → AllByRecursion Q (xs ++ ys)
AllByRecursion-append Q [] ys h k = k
AllByRecursion-append Q (x ∷ xs) ys h k = (h.0, AllByRecursion-append Q xs ys h.1 k)

pub AllByRecursion-flat_map : {A B : Type 0} (Q : B → Type 0) (f : A → List B) (xs : List A)
    → AllByRecursion (λ x. AllByRecursion Q (f x)) xs → AllByRecursion Q (flat_map f xs)
AllByRecursion-flat_map Q f [] h = tt
AllByRecursion-flat_map Q f (x ∷ xs) h = AllByRecursion-append Q (f x) (flat_map f xs) h.0 (AllByRecursion-flat_map Q f xs h.1)

pub IsAmong-map : {A B : Type 0} (f : A → B) (x : A) (xs : List A) → IsAmong x xs → IsAmong (f x) (map f xs)
IsAmong-map f x [] i = elim i [ ]
IsAmong-map f x (y ∷ ys) (inl e) = inl (ap f e)
IsAmong-map f x (y ∷ ys) (inr i) = inr (IsAmong-map f x ys i)

pub IsAmong-append_left : {A : Type 0} (x : A) (xs ys : List A) → IsAmong x xs → IsAmong x (xs ++ ys)
IsAmong-append_left x [] ys i = elim i [ ]
IsAmong-append_left x (z ∷ xs) ys (inl e) = inl e
IsAmong-append_left x (z ∷ xs) ys (inr i) = inr (IsAmong-append_left x xs ys i)

pub IsAmong-append_right : {A : Type 0} (x : A) (xs ys : List A) → IsAmong x ys → IsAmong x (xs ++ ys)
IsAmong-append_right x [] ys i = i
IsAmong-append_right x (z ∷ xs) ys i = inr (IsAmong-append_right x xs ys i)

pub IsAmong-flat_map : {A B : Type 0} (f : A → List B) (x : A) (y : B) (xs : List A) → IsAmong x xs → IsAmong y (f x) → IsAmong y (flat_map f xs)
IsAmong-flat_map f x y [] i j = elim i [ ]
IsAmong-flat_map f x y (z ∷ xs) (inl e) j = IsAmong-append_left y (f z) (flat_map f xs) (subst (λ u. IsAmong y (f u)) e j)
IsAmong-flat_map f x y (z ∷ xs) (inr i) j = IsAmong-append_right y (f z) (flat_map f xs) (IsAmong-flat_map f x y xs i j)

-- what is read within a list is a member
pub get_or-among : {A : Type 0} (xs : List A) (i : ℕ) (d : A) → i < length xs → IsAmong (get_or xs i d) xs
get_or-among [] i d h = absurd (omega arith)
get_or-among (x ∷ xs) zero d h = inl refl
get_or-among (x ∷ xs) (suc i) d h = inr (get_or-among xs i d (omega arith))

-- functions that agree have the same images
pub map-ext : {A B : Type 0} (f g : A → B) (xs : List A) → ((x : A) → f x ≡ g x) → map f xs ≡ map g xs
map-ext f g [] h = refl
map-ext f g (x ∷ xs) h = ap₂ (λ u v. u ∷ v) (h x) (map-ext f g xs h)

-- the images in the other order
pub map-reverse : {A B : Type 0} (f : A → B) (xs : List A) → map f (reverse xs) ≡ reverse (map f xs)
map-reverse f [] = refl
map-reverse f (x ∷ xs) =
    ap (map f) (reverse-append (x ∷ []) xs) ∙ map-append f (reverse xs) (x ∷ [])
    ∙ ap (λ l. l ++ f x ∷ []) (map-reverse f xs) ∙ sym (reverse-append (f x ∷ []) (map f xs))

-- the number of what stands in a numbered list is within the list
enumerated-from : {A : Type 0} (n : ℕ) (xs : List A) (c : ℕ × A) → IsAmong c (enumerate_from n xs) → c.0 < n + length xs
enumerated-from n [] c i = elim i [ ]
enumerated-from n (x ∷ xs) c (inl e) = let first : c.0 ≡ n = ap (λ d. d.0) e in omega arith
enumerated-from n (x ∷ xs) c (inr i) = let rest = enumerated-from (n + 1) xs c i in omega arith

pub enumerated-at : {A : Type 0} (xs : List A) (c : ℕ × A) → IsAmong c (enumerate_from 0 xs) → c.0 < length xs
enumerated-at xs c i = let h = enumerated-from 0 xs c i in omega arith

-- what stands at a place in a list stands beside its number
enumerated : {A : Type 0} (d : A) (n : ℕ) (xs : List A) → AllByRecursion (λ c. (m : ℕ) × (c.0 ≡ n + m) × (get_or xs m d ≡ c.1)) (enumerate_from n xs)
enumerated d n [] = tt
enumerated d n (x ∷ xs) = (
  (0, sym (add-zero n), refl),
  AllByRecursion-each _ _ (enumerate_from (n + 1) xs) (λ c h. (suc h.0, h.1 ∙ next h.0, h.2)) (enumerated d (n + 1) xs),
)
  where
    next : (m : ℕ) → (n + 1) + m ≡ n + suc m
    next m = omega arith

pub get_or-enumerated : {A : Type 0} (d : A) (xs : List A) (c : ℕ × A) → IsAmong c (enumerate_from 0 xs) → get_or xs c.0 d ≡ c.1
get_or-enumerated d xs c i =
    let h : (m : ℕ) × (c.0 ≡ 0 + m) × (get_or xs m d ≡ c.1) = AllByRecursion-among
    (λ c. (m : ℕ) × (c.0 ≡ 0 + m) × (get_or xs m d ≡ c.1)) c (enumerate_from 0 xs) i
    (enumerated d 0 xs) in
    ap (λ j. get_or xs j d) (h.1 ∙ zero-add h.0) ∙ h.2

pub IsAmong-enumerated : {A : Type 0} (n i : ℕ) (x : A) (xs : List A) → slice_get xs i ≡ Some x → IsAmong (n + i, x) (enumerate_from n xs)
IsAmong-enumerated n i x [] e = absurd (cc e)
IsAmong-enumerated n zero x (y ∷ ys) e = inl (λ k. (add-zero n k, same k))
  where
    same : x ≡ y
    same = cc
IsAmong-enumerated n (suc i) x (y ∷ ys) e = inr (subst (λ m. IsAmong (m, x) (enumerate_from (n + 1) ys)) next (IsAmong-enumerated (n + 1) i x ys e))
  where
    next : (n + 1) + i ≡ n + suc i
    next = omega arith
