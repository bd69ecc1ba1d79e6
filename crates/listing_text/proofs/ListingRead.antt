-- The entries read so far, before what the lines left are.
use Rattle.std.proofs.Common.{◌≡◌, ℕ, suc, ◌+◌, ◌<◌, ◌≤◌, Bool, true, false, cond, List, [], ◌∷◌, ◌++◌, map, length, length-append, nat_eq, nat_le, Ok, Err, Result, refl, sym, ap, ◌∙◌, append_assoc, arith}
use Rattle.std.proofs.lemmas.Bool.Decides.{nat_tests}
use Rattle.std.proofs.lemmas.List.{map-append}
use Rattle.std.specs.List.{onto_first}
use Rattle.cyclo_points.specs.Text.{newline}
use Rattle.theory_addresses.specs.Address.{Address}
use Rattle.tile_shape.specs.AddressIn.{address_of_text}
use Rattle.tile_shape.specs.declared.address_fault.AddressFault.{AddressFault}
use Rattle.listing_text.specs.declared.entry.Entry as program
use Rattle.listing_text.specs.declared.listing_fault.ListingFault.{ListingFault}
use Rattle.listing_text.specs.declared.listing_fault.ListingFault.TheVariants.{TooLong, BadKind, NoMemory}
use Rattle.listing_text.specs.Limits.{most_lines}
use Rattle.listing_text.specs.Lines.{lines_in}
use Rattle.listing_text.specs.Listing.{Entry, entry_at, entry_of_words, entry_in, entries_before, first_then, entries_from, listing_in}
use Rattle.listing_text.specs.Views.{entry_of, IsPut, OrWantsMemory}
use Rattle.listing_text.specs.Words.{Listed, listed_in}

pub or_cause : (P : ListingFault → Type 0) (f : ListingFault) → P f → OrWantsMemory P f
or_cause P NoMemory h = tt
or_cause P f h = h

-- a cause that follows from another
pub or_weaker : (P Q : ListingFault → Type 0) (f : ListingFault) → ((g : ListingFault) → P g → Q g) → OrWantsMemory P f → OrWantsMemory Q f
or_weaker P Q NoMemory k h = tt
or_weaker P Q f k h = k f h

-- a text that isn't empty has a line
pub some_line : (text : List ℕ) → 0 < length text → 0 < length (lines_in text)
some_line [] h = h
some_line (b ∷ bs) h = by_test (nat_eq b newline)
  where
    of_first : (ls : List (List ℕ)) → 0 < length (onto_first b ls)
    of_first [] = omega arith
    of_first (l ∷ ls) = omega arith

    by_test : (t : Bool) → 0 < length (cond t ([] ∷ lines_in bs) (onto_first b (lines_in bs)))
    by_test true = omega arith
    by_test false = of_first (lines_in bs)

before_nothing : (r : Result (List Entry) ListingFault) → r ≡ entries_before [] r
before_nothing (Ok others) = refl
before_nothing (Err fault) = refl

before_twice : (es fs : List Entry) (r : Result (List Entry) ListingFault) → entries_before es (entries_before fs r) ≡ entries_before (es ++ fs) r
before_twice es fs (Ok others) = ap (λ xs. Ok xs) (sym (append_assoc es fs others))
before_twice es fs (Err fault) = refl

module _ (children : List (List ℕ)) where
  -- a line of a listing is never too long
  entry_fits : (number : ℕ) (listed : Listed) (r : Result Address AddressFault) → entry_at number listed r ≡ Err TooLong → ⊥
  entry_fits number listed (Err fault) e = cc e
  entry_fits number listed (Ok a) e = by_test (nat_eq a.kind listed.kind) e
    where
      by_test : (t : Bool) → cond {A = Result Entry ListingFault} t
          (Ok (record { motion = listed.motion; address = a })) (Err (BadKind number)) ≡ Err TooLong → ⊥
      by_test true e = cc e
      by_test false e = cc e

  line_fits : (number : ℕ) (r : Result Listed ℕ) → entry_of_words children number r ≡ Err TooLong → ⊥
  line_fits number (Err place) e = cc e
  line_fits number (Ok listed) e = entry_fits number listed (address_of_text children listed.address) e

  first_fits : (first : Result Entry ListingFault) (others : Result (List Entry) ListingFault)
      → (first ≡ Err TooLong → ⊥) → (others ≡ Err TooLong → ⊥) → first_then first others ≡ Err TooLong → ⊥
  first_fits (Err fault) others h k e = let same : fault ≡ TooLong = cc in h (ap (λ f. Err f) same)
  first_fits (Ok entry) (Ok entries) h k e = cc e
  first_fits (Ok entry) (Err fault) h k e = k e

  lines_fit : (number : ℕ) (lines : List (List ℕ)) → entries_from children number lines ≡ Err TooLong → ⊥
  lines_fit number [] e = cc e
  lines_fit number (line ∷ lines) e =
      first_fits (entry_in children number line) (entries_from children (number + 1) lines)
      (line_fits number (listed_in line)) (lines_fit (number + 1) lines) e

  -- ---- by how many lines there are
  at_most : (n : ℕ) → n ≤ most_lines → nat_le n most_lines ≡ true
  at_most n h = grind (arith, nat_tests)

  too_many : (n : ℕ) → most_lines < n → nat_le n most_lines ≡ false
  too_many n h = grind (arith, nat_tests)

  pub listed_short : (text : List ℕ) → length (lines_in text) ≤ most_lines → listing_in children text ≡ entries_from children 1 (lines_in text)
  listed_short text h = ap (λ b. cond b (entries_from children 1 (lines_in text)) (Err TooLong)) (at_most (length (lines_in text)) h)

  pub listed_long : (text : List ℕ) → most_lines < length (lines_in text) → listing_in children text ≡ Err TooLong
  listed_long text h = ap (λ b. cond b (entries_from children 1 (lines_in text)) (Err TooLong)) (too_many (length (lines_in text)) h)

  pub only_long : (text : List ℕ) → listing_in children text ≡ Err TooLong → most_lines < length (lines_in text)
  only_long text e = by_test (nat_le (length (lines_in text)) most_lines) refl e
    where
      past : (n : ℕ) → nat_le n most_lines ≡ false → most_lines < n
      past n h = grind (arith, nat_tests)

      by_test : (t : Bool) → nat_le (length (lines_in text)) most_lines ≡ t
          → cond t (entries_from children 1 (lines_in text)) (Err TooLong) ≡ Err TooLong
          → most_lines < length (lines_in text)
      by_test true h e = absurd (lines_fit 1 (lines_in text) e)
      by_test false h e = past (length (lines_in text)) h

  -- ---- line by line
  pub none_read : (text : List ℕ) → entries_from children 1 (lines_in text) ≡ entries_before [] (entries_from children 1 (lines_in text))
  none_read text = before_nothing (entries_from children 1 (lines_in text))

  module _ (all : Result (List Entry) ListingFault) (before after : List program.Entry)
      (rest line behind : List ℕ) (cut : lines_in rest ≡ line ∷ lines_in behind)
      (so_far : all ≡ entries_before (map entry_of before) (entries_from children (length before + 1) (lines_in rest))) where
    opened : all ≡ entries_before (map entry_of before)
        (first_then (entry_in children (length before + 1) line)
        (entries_from children (length before + 1 + 1) (lines_in behind)))
    opened = so_far ∙ ap (λ ls. entries_before (map entry_of before) (entries_from children (length before + 1) ls)) cut

    pub line_refused : (fault : ListingFault) → entry_in children (length before + 1) line ≡ Err fault → all ≡ Err fault
    line_refused fault e = opened ∙ ap (λ r. entries_before (map entry_of before)
        (first_then r (entries_from children (length before + 1 + 1) (lines_in behind)))) e

    one_more : (put : IsPut children line before after) → length after ≡ length before + 1
    one_more put = ap length put.behind ∙ length_push before put.entry
      where
        length_push : (xs : List program.Entry) (x : program.Entry) → length (xs ++ x ∷ []) ≡ length xs + 1
        length_push xs x = omega (arith, length-append xs (x ∷ []))

    pub counted_on : (total : ℕ) → IsPut children line before after
        → length before + length (lines_in rest) ≡ total → length after + length (lines_in behind) ≡ total
    counted_on total put e = let f = one_more put in let g : length (lines_in rest) ≡ suc
        (length (lines_in behind)) = ap length cut in omega (arith, e, f, g)

    pub line_read : IsPut children line before after
        → all ≡ entries_before (map entry_of after)
        (entries_from children (length after + 1) (lines_in behind))
    line_read put =
        opened
        ∙ ap (λ r. entries_before (map entry_of before) (first_then r (entries_from children (length before + 1 + 1) (lines_in behind)))) put.read
        ∙ before_twice (map entry_of before) (entry_of put.entry ∷ []) (entries_from children (length before + 1 + 1) (lines_in behind))
        ∙ ap (λ es. entries_before es (entries_from children (length before + 1 + 1) (lines_in behind)))
        (sym (ap (map entry_of) put.behind ∙ map-append entry_of before (put.entry ∷ [])))
        ∙ ap (λ n. entries_before (map entry_of after) (entries_from children (n + 1) (lines_in behind))) (sym (one_more put))
