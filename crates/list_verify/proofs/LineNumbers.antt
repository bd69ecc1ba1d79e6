-- The numbers of lines that are apart, each with an address of its own.
use Rattle.std.proofs.Common.{◌≡◌, ℕ, zero, suc, ◌<◌, List, [], ◌∷◌, ◌++◌, length, drop, get_or, slice_get, Some, refl, sym, ap, ◌∙◌, arith}
use Rattle.std.proofs.lemmas.Option.{slice_get_within}
use Rattle.std.proofs.lemmas.List.{append_cancel_right}
use Rattle.theory_addresses.specs.Address.{Address, depth}
use Rattle.theory_frames.specs.Frame.{lifted_in}
use Rattle.listing_text.specs.declared.entry.Entry as program
use Rattle.tile_shape.specs.Views.{address_of}
use Rattle.list_verify.specs.FoundLines.{no_line}
use Rattle.list_verify.specs.LineIndex.{NoneAgain}

-- ---- addresses of one depth
-- that have one name are one
pub one-address : (f a b : Address) (n : ℕ) → depth a ≡ n → depth b ≡ n → lifted_in f a ≡ lifted_in f b → a ≡ b
one-address f a b n da db e = λ i. record { kind = (e i).kind; digits = digits i }
  where
    digits : a.digits ≡ b.digits
    digits = append_cancel_right a.digits b.digits (drop n f.digits)
        (ap (λ k. a.digits ++ drop k f.digits) (sym da) ∙ ap (λ (x : Address). x.digits) e ∙ ap (λ k. b.digits ++ drop k f.digits) db)

-- ---- which of two lines is first
first_or : (i j : ℕ) (P : Type 0) → (i < j → P) → (j < i → P) → (i ≡ j → P) → P
first_or zero zero P f g h = h refl
first_or zero (suc j) P f g h = f (omega arith)
first_or (suc i) zero P f g h = g (omega arith)
first_or (suc i) (suc j) P f g h = first_or i j P (λ l. f (omega (arith, l))) (λ l. g (omega (arith, l))) (λ e. h (ap suc e))

-- lines apart have one number an address
pub one-number : (lines : List program.Entry) → NoneAgain lines (length lines)
    → (i j : ℕ) (d e : program.Entry) → slice_get lines i ≡ Some d → slice_get lines j ≡ Some e
    → address_of d.address ≡ address_of e.address → i ≡ j
one-number lines apart i j d e at there same = first_or i j (i ≡ j)
    (λ l. absurd (apart j e (slice_get_within lines j e there) there i l (d, at, same)))
    (λ l. absurd (apart i d (slice_get_within lines i d at) at j l (e, there, sym same)))
    (λ h. h)

-- what is in a list stands at a number
pub at-number : (lines : List program.Entry) (i : ℕ) → i < length lines → slice_get lines i ≡ Some (get_or lines i no_line)
at-number [] i l = absurd (omega arith)
at-number (x ∷ xs) zero l = refl
at-number (x ∷ xs) (suc i) l = at-number xs i (omega arith)
