-- Lists without repetitions.
use Rattle.std.proofs.Common.{◌≡◌, inl, inr, ℕ, zero, suc, List, [], ◌∷◌, map, slice_get, Some, refl, sym, ap, subst}
use Rattle.theory_addresses.specs.Search.{IsAmong}
use Rattle.theory_addresses.proofs.Lists.{IsAmong-map}
use Rattle.theory_addresses.proofs.Ranges.{place-among}
use Rattle.theory_windows.specs.Distinct.{AreDistinct}
use Rattle.theory_windows.proofs.Members.{among-map}

pub some_one : {A : Type 0} {x y : A} → Some x ≡ Some y → x ≡ y
some_one e = cc (e)

-- each element has one place
pub distinct-place : {A : Type 0} (xs : List A) → AreDistinct xs → (i j : ℕ) (x : A) → slice_get xs i ≡ Some x → slice_get xs j ≡ Some x → i ≡ j
distinct-place [] d i j x e f = absurd cc
distinct-place (y ∷ ys) d zero zero x e f = refl
distinct-place (y ∷ ys) d zero (suc j) x e f = absurd (d.0 (subst (λ z. IsAmong z ys) (sym (some_one e)) (place-among x ys j f)))
distinct-place (y ∷ ys) d (suc i) zero x e f = absurd (d.0 (subst (λ z. IsAmong z ys) (sym (some_one f)) (place-among x ys i e)))
distinct-place (y ∷ ys) d (suc i) (suc j) x e f = ap suc (distinct-place ys d.1 i j x e f)

-- where g tells apart what f does, the images by g are distinct if those by f are
pub distinct-by : {A B C : Type 0} (f : A → B) (g : A → C) (xs : List A)
    → ((x y : A) → IsAmong x xs → IsAmong y xs → g x ≡ g y → f x ≡ f y) → AreDistinct (map f xs)
    → AreDistinct (map g xs)
distinct-by f g [] h d = tt
distinct-by f g (x ∷ xs) h d = (
  λ i. let m = among-map g (g x) xs i in absurd
      (d.0 (subst (λ u. IsAmong u (map f xs)) (sym (h x m.0 (inl refl) (inr m.1) m.2))
      (IsAmong-map f m.0 xs m.1))),
  distinct-by f g xs (λ y z i j. h y z (inr i) (inr j)) d.1,
)
