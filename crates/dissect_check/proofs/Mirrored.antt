-- A list compared with another one reversed and mapped, place by place.
use Rattle.std.proofs.Common.{◌≡◌, ◌≢◌, ℕ, ◌-◌, ◌<◌, Bool, true, false, List, map, reverse, length, get_or, refl, sym, ap, ◌∙◌, arith}
use Rattle.std.specs.Prelude.{nat_eq}
use Rattle.std.specs.Cmp.Lexicographic.{pointwise, same_text, other_text}
use Rattle.std.proofs.lemmas.List.{same_lists, get_or-map, get_or-reverse, length-map, length-reverse, get_or_default}

differ : (xs ys : List ℕ) → xs ≢ ys → false ≡ pointwise nat_eq xs ys
differ xs ys h = by_case (pointwise nat_eq xs ys) refl
  where
    by_case : (b : Bool) → b ≡ pointwise nat_eq xs ys → false ≡ b
    by_case true e = absurd (h (same_text xs ys e))
    by_case false e = refl

agree : (xs ys : List ℕ) → xs ≡ ys → true ≡ pointwise nat_eq xs ys
agree xs ys h = by_case (pointwise nat_eq xs ys) refl
  where
    by_case : (b : Bool) → b ≡ pointwise nat_eq xs ys → true ≡ b
    by_case true e = refl
    by_case false e = absurd (other_text xs ys e h)

module _ (f : ℕ → ℕ) (xs ys : List ℕ) where
  mirrored-length : length (map f (reverse xs)) ≡ length xs
  mirrored-length = length-map (reverse xs) f ∙ length-reverse xs

  mirrored-at : (i : ℕ) → i < length xs → get_or (map f (reverse xs)) i 0 ≡ f (get_or xs (length xs - 1 - i) 0)
  mirrored-at i l = get_or-map f (reverse xs) i 0 0 (omega (arith, length-reverse xs)) ∙ ap f (get_or-reverse xs i 0 l)

  -- lists of two lengths differ
  pub lengths_differ : length ys ≢ length xs → false ≡ pointwise nat_eq ys (map f (reverse xs))
  lengths_differ h = differ ys (map f (reverse xs)) (λ e. h (ap length e ∙ mirrored-length))

  -- one place differs
  pub place_differs : (i : ℕ) → i < length xs → get_or ys i 0 ≢ f (get_or xs (length xs - 1 - i) 0) → false ≡ pointwise nat_eq ys (map f (reverse xs))
  place_differs i l h = differ ys (map f (reverse xs)) (λ e. h (ap (λ (zs : List ℕ). get_or zs i 0) e ∙ mirrored-at i l))

  -- each place agrees
  pub places_agree : length ys ≡ length xs → ((i : ℕ) → i < length xs
      → get_or ys i 0 ≡ f (get_or xs (length xs - 1 - i) 0)) → true ≡ pointwise nat_eq ys (map f (reverse xs))
  places_agree l h =
      agree ys (map f (reverse xs)) (same_lists ys (map f (reverse xs)) (l ∙ sym mirrored-length) (λ i d q.
      get_or_default ys i d 0 q ∙ h i (omega arith) ∙ sym (mirrored-at i (omega arith))
      ∙ get_or_default (map f (reverse xs)) i 0 d (omega (arith, mirrored-length))))
