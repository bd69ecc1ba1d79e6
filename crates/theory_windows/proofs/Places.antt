-- Lists by their places: distinct ones, the edges of a polygon, and the fan of a polygon of images.
use Rattle.std.proofs.Common.{◌≡◌, inl, inr, ℕ, suc, ◌<◌, List, [], ◌∷◌, length, map, get_or, slice_get, Some, true, refl, sym, ap, subst, arith}
use Rattle.std.specs.List.{AllByRecursion}
use Rattle.theory_ring.specs.Sign.{Signed}
use Rattle.theory_plane.specs.Plane.{PlanePoint}
use Rattle.theory_plane.specs.Triangle.{fan_from, turns_left}
use Rattle.theory_addresses.specs.Search.{IsAmong}
use Rattle.theory_addresses.proofs.Lists.{IsAmong-map}
use Rattle.theory_addresses.proofs.Ranges.{among-place}
use Rattle.theory_windows.specs.Distinct.{AreDistinct}
use Rattle.theory_windows.specs.Outlines.{edges_from, edges}
use Rattle.theory_windows.proofs.Members.{among-map}

-- a list is distinct where each element has one place
pub distinct-places : {A : Type 0} (xs : List A) → ((i j : ℕ) (x : A) → slice_get xs i ≡ Some x → slice_get xs j ≡ Some x → i ≡ j) → AreDistinct xs
distinct-places [] h = tt
distinct-places (x ∷ xs) h = (
  λ i. let k = among-place x xs i in apart k.0 (h 0 (suc k.0) x refl k.1),
  distinct-places xs (λ i j y e f. before i j (h (suc i) (suc j) y e f)),
)
  where
    apart : (k : ℕ) → 0 ≡ suc k → ⊥
    apart k e = omega arith

    before : (i j : ℕ) → suc i ≡ suc j → i ≡ j
    before i j e = omega arith

-- so is the list of its images, where they differ
pub distinct-map : {A B : Type 0} (f : A → B) (xs : List A)
    → ((x y : A) → IsAmong x xs → IsAmong y xs → f x ≡ f y → x ≡ y) → AreDistinct xs → AreDistinct (map f xs)
distinct-map f [] h d = tt
distinct-map f (x ∷ xs) h d = (
  λ i. let m = among-map f (f x) xs i in absurd (d.0 (subst (λ u. IsAmong u xs) (sym (h x m.0 (inl refl) (inr m.1) m.2)) m.1)),
  distinct-map f xs (λ y z i j. h y z (inr i) (inr j)) d.1,
)

pub distinct-unmap : {A B : Type 0} (f : A → B) (xs : List A) → AreDistinct (map f xs) → AreDistinct xs
distinct-unmap f [] d = tt
distinct-unmap f (x ∷ xs) d = (λ i. absurd (d.0 (IsAmong-map f x xs i)), distinct-unmap f xs d.1)

length-edges_from : {A : Type 0} (first cur : A) (vs : List A) → length (edges_from first cur vs) ≡ suc (length vs)
length-edges_from first cur [] = refl
length-edges_from first cur (v ∷ vs) = ap suc (length-edges_from first v vs)

-- a polygon has as many edges as vertices
pub length-edges : {A : Type 0} (vs : List A) → length (edges vs) ≡ length vs
length-edges [] = refl
length-edges (v ∷ vs) = length-edges_from v v vs

-- what turns left by its number does so in the list of the fan
pub fan-each : (S : Signed) {A : Type 0} (put : A → PlanePoint S.ops.carrier) (o first cur : A) (vs : List A)
    → ((i : ℕ) → i < length vs → turns_left S (record { a = put first; b = put (get_or (cur ∷ vs) i o); c = put (get_or vs i o) }) ≡ true)
    → AllByRecursion (λ t. turns_left S t ≡ true) (fan_from (put first) (put cur) (map put vs))
fan-each S put o first cur [] h = tt
fan-each S put o first cur (v ∷ vs) h = (h 0 (omega arith), fan-each S put o first v vs (λ i l. h (suc i) (omega arith)))
