-- Members of lists by their places: ranges, lists in a row, and lists of images.
use Rattle.std.proofs.Common.{◌≡◌, ◌⊎◌, inl, inr, ℕ, zero, suc, ◌<◌, ◌≤◌, List, [], ◌∷◌, ◌++◌, length, map, get_or, slice_get, Some, None, refl, sym, ap, subst, ◌∙◌, arith}
use Rattle.std.specs.List.{flat_map}
use Rattle.std.proofs.lemmas.Bool.{cases_lt}
use Rattle.std.proofs.lemmas.List.{length-append, get_or_push, get_or_append_left, map-append}
use Rattle.theory_addresses.proofs.Searches.{below_or_at}
use Rattle.std.proofs.lemmas.Option.{slice_get_within, slice_get_past}
use Rattle.theory_addresses.specs.Search.{IsAmong, below}

-- ---- places
pub among-place : {A : Type 0} (x : A) (xs : List A) → IsAmong x xs → (k : ℕ) × (slice_get xs k ≡ Some x)
among-place x [] i = elim i [ ]
among-place x (y ∷ ys) (inl e) = (0, ap Some (sym e))
among-place x (y ∷ ys) (inr i) = let r = among-place x ys i in (suc r.0, r.1)

pub place-among : {A : Type 0} (x : A) (xs : List A) (k : ℕ) → slice_get xs k ≡ Some x → IsAmong x xs
place-among x [] k e = absurd cc
place-among x (y ∷ ys) zero e = inl cc
place-among x (y ∷ ys) (suc k) e = inr (place-among x ys k e)

pub get_or-past : {A : Type 0} (xs : List A) (k : ℕ) (d : A) → length xs ≤ k → get_or xs k d ≡ d
get_or-past [] k d h = refl
get_or-past (x ∷ xs) zero d h = absurd (omega arith)
get_or-past (x ∷ xs) (suc k) d h = get_or-past xs k d (omega arith)

pub slice_get-append_left : {A : Type 0} (xs ys : List A) (k : ℕ) → k < length xs → slice_get (xs ++ ys) k ≡ slice_get xs k
slice_get-append_left [] ys k h = absurd (omega arith)
slice_get-append_left (x ∷ xs) ys zero h = refl
slice_get-append_left (x ∷ xs) ys (suc k) h = slice_get-append_left xs ys k (omega arith)

pub slice_get-append_last : {A : Type 0} (xs : List A) (y : A) → slice_get (xs ++ y ∷ []) (length xs) ≡ Some y
slice_get-append_last [] y = refl
slice_get-append_last (x ∷ xs) y = slice_get-append_last xs y

-- ---- lists in a row
pub among-append : {A : Type 0} (x : A) (xs ys : List A) → IsAmong x (xs ++ ys) → IsAmong x xs ⊎ IsAmong x ys
among-append x [] ys i = inr i
among-append x (z ∷ xs) ys (inl e) = inl (inl e)
among-append x (z ∷ xs) ys (inr i) = elim (among-append x xs ys i) [ inl j ↦ inl (inr j) | inr j ↦ inr j ]

pub record InPiece {A B : Type 0} (f : A → List B) (y : B) (xs : List A) : Type 0 where
  pub piece : A
  pub among : IsAmong piece xs
  pub inside : IsAmong y (f piece)

pub among-flat_map : {A B : Type 0} (f : A → List B) (y : B) (xs : List A) → IsAmong y (flat_map f xs) → InPiece f y xs
among-flat_map f y [] i = elim i [ ]
among-flat_map f y (x ∷ xs) i = elim (among-append y (f x) (flat_map f xs) i) [
  | inl j ↦ record { piece = x; among = inl refl; inside = j }
  | inr j ↦ let r = among-flat_map f y xs j in record { piece = r.piece; among = inr r.among; inside = r.inside }
]

-- ---- images
pub slice_get-image : {A B : Type 0} (f : A → B) (x : A) (xs : List A) (k : ℕ) → slice_get xs k ≡ Some x → slice_get (map f xs) k ≡ Some (f x)
slice_get-image f x [] k e = absurd cc
slice_get-image {A} f x (y ∷ ys) zero e = let same : y ≡ x = cc in ap (λ z. Some (f z)) same
slice_get-image f x (y ∷ ys) (suc k) e = slice_get-image f x ys k e

pub record ImageAt {A B : Type 0} (f : A → B) (y : B) (xs : List A) (k : ℕ) : Type 0 where
  pub source : A
  pub at : slice_get xs k ≡ Some source
  pub image : f source ≡ y

pub image-at : {A B : Type 0} (f : A → B) (y : B) (xs : List A) (k : ℕ) → slice_get (map f xs) k ≡ Some y → ImageAt f y xs k
image-at f y [] k e = absurd cc
image-at f y (x ∷ xs) zero e = record { source = x; at = refl; image = cc }
image-at f y (x ∷ xs) (suc k) e = let r = image-at f y xs k e in record { source = r.source; at = r.at; image = r.image }

-- ---- ranges
pub length-below : {A : Type 0} (f : ℕ → A) (n : ℕ) → length (below f n) ≡ n
length-below f zero = refl
length-below f (suc n) = let rest = length-below f n in let both = length-append (below f n) (f n ∷ []) in omega arith

pub map-below : {A B : Type 0} (f : A → B) (g : ℕ → A) (n : ℕ) → map f (below g n) ≡ below (λ i. f (g i)) n
map-below f g zero = refl
map-below f g (suc n) = map-append f (below g n) (g n ∷ []) ∙ ap (λ xs. xs ++ f (g n) ∷ []) (map-below f g n)

pub slice_get-below : {A : Type 0} (f : ℕ → A) (n k : ℕ) → k < n → slice_get (below f n) k ≡ Some (f k)
slice_get-below f zero k h = absurd (omega arith)
slice_get-below {A} f (suc n) k h = elim (cases_lt k n) [
  | inl lt ↦ slice_get-append_left (below f n) (f n ∷ []) k (rw (length-below f n) lt) ∙ slice_get-below f n k lt
  | inr ge ↦ let last : k ≡ n = omega arith in
      ap (slice_get (below f n ++ f n ∷ [])) (last ∙ sym (length-below f n))
      ∙ slice_get-append_last (below f n) (f n) ∙ ap (λ (j : ℕ). Some (f j)) (sym last)
]

pub slice_get-below_past : {A : Type 0} (f : ℕ → A) (n k : ℕ) → n ≤ k → slice_get (below f n) k ≡ None
slice_get-below_past f n k h = slice_get_past (below f n) k (rw (length-below f n) h)

pub record BelowAt {A : Type 0} (f : ℕ → A) (n k : ℕ) (x : A) : Type 0 where
  pub in_range : k < n
  pub is : x ≡ f k

pub below-at : {A : Type 0} (f : ℕ → A) (n k : ℕ) (x : A) → slice_get (below f n) k ≡ Some x → BelowAt f n k x
below-at f n k x e =
    let lt : k < n = rw (length-below f n) at (slice_get_within (below f n) k x e) in
    let here = slice_get-below f n k lt in
    record { in_range = lt; is = cc }

pub IsAmong-below : {A : Type 0} (f : ℕ → A) (n k : ℕ) → k < n → IsAmong (f k) (below f n)
IsAmong-below f n k h = place-among (f k) (below f n) k (slice_get-below f n k h)

pub record InRange {A : Type 0} (f : ℕ → A) (n : ℕ) (x : A) : Type 0 where
  pub number : ℕ
  pub in_range : number < n
  pub is : x ≡ f number

pub among-below : {A : Type 0} (f : ℕ → A) (n : ℕ) (x : A) → IsAmong x (below f n) → InRange f n x
among-below f n x i =
    let place = among-place x (below f n) i in
    let here = below-at f n place.0 x place.1 in
    record { number = place.0; in_range = here.in_range; is = here.is }

pub get_or-below : {A : Type 0} (f : ℕ → A) (n i : ℕ) (d : A) → i < n → get_or (below f n) i d ≡ f i
get_or-below f zero i d l = absurd (omega arith)
get_or-below f (suc n) i d l =
    elim (below_or_at i n l) [
      | inl q ↦ get_or_append_left (below f n) (f n ∷ []) d i (subst (λ k. i < k) (sym (length-below f n)) q) ∙ get_or-below f n i d q
      | inr q ↦ get_or_push (below f n) (f n) d i (length-below f n ∙ sym q) ∙ ap f (sym q)
    ]
