-- A polygon's count, edge by edge.
use Rattle.std.proofs.Common.{◌≡◌, ℕ, zero, suc, ◌+◌, ◌<◌, ◌≤◌, List, [], ◌∷◌, map, drop, get_or, length, ℤ, pos, ◌+ℤ◌, refl, sym, ap, ◌∙◌, arith}
use Rattle.std.proofs.lemmas.Int.{ints}
use Rattle.theory_ring.specs.Sign.{Signed}
use Rattle.theory_plane.specs.Plane.{PlanePoint, TestPoint}
use Rattle.theory_plane.specs.Crossing.{crossing, count_from, count}

drop-past : {A : Type 0} (i : ℕ) (xs : List A) → length xs ≤ i → drop i xs ≡ []
drop-past zero [] h = refl
drop-past (suc i) [] h = refl
drop-past zero (x ∷ xs) h = absurd (omega arith)
drop-past (suc i) (x ∷ xs) h = drop-past i xs (omega arith)

drop-next : {A : Type 0} (d : A) (i : ℕ) (xs : List A) → i < length xs → drop i xs ≡ get_or xs i d ∷ drop (suc i) xs
drop-next d i [] h = absurd (omega arith)
drop-next d zero (x ∷ xs) h = refl
drop-next d (suc i) (x ∷ xs) h = drop-next d i xs (omega arith)

one_more : (i : ℕ) → suc i ≡ i + 1
one_more i = omega arith

regroup : (x y z w : ℤ) → x +ℤ (y +ℤ z) ≡ w → (x +ℤ y) +ℤ z ≡ w
regroup x y z w e = omega (arith, ints)

zero_plus : (x : ℤ) → pos 0 +ℤ x ≡ x
zero_plus x = omega (arith, ints)

module _ {A : Type 0} (S : Signed) (p : TestPoint S.ops.carrier) (f : A → PlanePoint S.ops.carrier) (d : A) where
  pub count-begun : (xs : List A) → 3 ≤ length xs
      → pos 0 +ℤ count_from S p (f (get_or xs 0 d)) (f (get_or xs 0 d)) (map f (drop 1 xs)) ≡ count S
      (map f xs) p
  count-begun [] h = absurd (omega arith)
  count-begun (x ∷ xs) h = zero_plus _

  next : (xs : List A) (i : ℕ) (first cur : PlanePoint S.ops.carrier) (t whole : ℤ) → i < length xs
      → t +ℤ count_from S p first cur (map f (drop i xs)) ≡ whole
      → (t +ℤ crossing S cur (f (get_or xs i d)) p) +ℤ count_from S p first (f (get_or xs i d)) (map f (drop (i + 1) xs)) ≡ whole
  next xs i first cur t whole h e =
      ap (λ j. (t +ℤ crossing S cur (f (get_or xs i d)) p) +ℤ count_from S p first (f (get_or xs i d)) (map f (drop j xs))) (sym (one_more i))
      ∙ regroup t _ _ whole (sym (ap (λ ys. t +ℤ count_from S p first cur (map f ys)) (drop-next d i xs h)) ∙ e)

  ended : (xs : List A) (i : ℕ) (first cur : PlanePoint S.ops.carrier) (t whole : ℤ) → length xs ≤ i
      → t +ℤ count_from S p first cur (map f (drop i xs)) ≡ whole
      → t +ℤ crossing S cur first p ≡ whole
  ended xs i first cur t whole h e = sym (ap (λ ys. t +ℤ count_from S p first cur (map f ys)) (drop-past i xs h)) ∙ e

  -- one more edge is counted: n is t and its crossing r
  pub count-next : (xs : List A) (i : ℕ) (first cur : PlanePoint S.ops.carrier) (t n r whole : ℤ) → n ≡ t +ℤ r
      → r ≡ crossing S cur (f (get_or xs i d)) p → i < length xs
      → t +ℤ count_from S p first cur (map f (drop i xs)) ≡ whole → n +ℤ count_from S p first (f (get_or xs i d)) (map f (drop (i + 1) xs)) ≡ whole
  count-next xs i first cur t n r whole e k h l =
      ap (λ m. m +ℤ count_from S p first (f (get_or xs i d)) (map f (drop (i + 1) xs))) (e ∙ ap (λ m. t +ℤ m) k) ∙ next xs i first cur t whole h l

  -- the last edge leads back to the first vertex
  pub count-ended : (xs : List A) (i : ℕ) (first cur : PlanePoint S.ops.carrier) (t n r whole : ℤ)
      → n ≡ t +ℤ r → r ≡ crossing S cur first p → length xs ≤ i
      → t +ℤ count_from S p first cur (map f (drop i xs)) ≡ whole → n ≡ whole
  count-ended xs i first cur t n r whole e k h l = e ∙ ap (λ m. t +ℤ m) k ∙ ended xs i first cur t whole h l
