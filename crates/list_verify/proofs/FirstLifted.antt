-- Lines, the first of which are lifted, and the greatest depth of lines.
use Rattle.std.proofs.Common.{◌≡◌, ◌⊎◌, inl, inr, ℕ, zero, suc, ◌+◌, ◌<◌, ◌≤◌, max, List, [], ◌∷◌, drop, map, length, get_or, slice_get, slice_set, Some, refl, sym, ap, ◌∙◌, subst, arith}
use Rattle.theory_addresses.specs.Address.{Address, depth}
use Rattle.theory_addresses.proofs.Ranges.{slice_get-image}
use Rattle.listing_text.specs.declared.entry.Entry as program
use Rattle.listing_text.specs.Listing.{Entry}
use Rattle.listing_text.specs.Views.{entry_of}
use Rattle.rule_model.specs.Tiling.{Tiling}
use Rattle.list_verify.specs.FoundLines.{entries_of}
use Rattle.list_verify.specs.Lifted.{entry_lifted, first_lifted, deepest_entry}
use Rattle.list_verify.proofs.Chains.{below_or, slice_get-at}

-- ---- the greatest depth
pub deepest-max : (t : Tiling) (m d : ℕ) (entries : List Entry) → deepest_entry t (max m d) entries ≡ max d (deepest_entry t m entries)
deepest-max t m d [] = swapped m d
  where
    swapped : (a b : ℕ) → max a b ≡ max b a
    swapped a b = omega arith
deepest-max t m d (e ∷ entries) = ap (max (depth e.address)) (deepest-max t m d entries) ∙ past (depth e.address) d (deepest_entry t m entries)
  where
    past : (a b c : ℕ) → max a (max b c) ≡ max b (max a c)
    past a b c = omega arith

-- ---- lines lifted one after another
-- those behind are as they were
pub first-behind : (f : Address) (n : ℕ) (entries : List Entry) (i : ℕ) → n ≤ i → slice_get (first_lifted f n entries) i ≡ slice_get entries i
first-behind f zero entries i h = refl
first-behind f (suc n) [] i h = refl
first-behind f (suc n) (e ∷ es) zero h = absurd (omega arith)
first-behind f (suc n) (e ∷ es) (suc i) h = first-behind f n es i (omega arith)

next-lifted : (f : Address) (n : ℕ) (entries : List Entry) (e : Entry) → slice_get entries n ≡ Some e
    → slice_set (first_lifted f n entries) n (entry_lifted f e) ≡ first_lifted f (suc n) entries
next-lifted f n [] e at = absurd (cc at)
next-lifted f zero (x ∷ xs) e at = ap (λ (y : Entry). entry_lifted f y ∷ xs) (sym (inside at))
  where
    inside : {a b : Entry} → Some a ≡ Some b → a ≡ b
    inside e = cc (e)
next-lifted f (suc n) (x ∷ xs) e at = ap (λ (ys : List Entry). entry_lifted f x ∷ ys) (next-lifted f n xs e at)

pub one-more-lifted : (f : Address) (n : ℕ) (entries : List Entry) (e : Entry) → slice_get entries n ≡ Some e
    → slice_set (first_lifted f n entries) n (entry_lifted f e) ≡ first_lifted f (n + 1) entries
one-more-lifted f n entries e at = next-lifted f n entries e at ∙ ap (λ k. first_lifted f k entries) next
  where
    next : suc n ≡ n + 1
    next = omega arith

pub all-lifted : (f : Address) (n : ℕ) (entries : List Entry) → length entries ≤ n → first_lifted f n entries ≡ map (entry_lifted f) entries
all-lifted f zero [] h = refl
all-lifted f zero (e ∷ es) h = absurd (omega arith)
all-lifted f (suc n) [] h = refl
all-lifted f (suc n) (e ∷ es) h = ap (λ (ys : List Entry). entry_lifted f e ∷ ys) (all-lifted f n es (omega arith))

pub entries-set : (lines : List program.Entry) (i : ℕ) (x : program.Entry)
    → entries_of (slice_set lines i x) ≡ slice_set (entries_of lines) i (entry_of x)
entries-set [] i x = refl
entries-set (y ∷ ys) zero x = refl
entries-set (y ∷ ys) (suc i) x = ap (λ (es : List Entry). entry_of y ∷ es) (entries-set ys i x)

-- the line that comes next is as it was
pub line-as-was : (f : Address) (n : ℕ) (old now : List program.Entry) (d : program.Entry)
    → entries_of now ≡ first_lifted f n (entries_of old) → n < length now
    → slice_get (entries_of old) n ≡ Some (entry_of (get_or now n d))
line-as-was f n old now d same below =
    sym (first-behind f n (entries_of old) n (omega arith)) ∙ ap (λ (es : List Entry). slice_get es n) (sym same)
    ∙ slice_get-image entry_of (get_or now n d) now n (slice_get-at now n (get_or now n d) d below refl)

pub same-line : (f : Address) (n : ℕ) (old now : List program.Entry) (d : program.Entry)
    → entries_of now ≡ first_lifted f n (entries_of old) → n < length now → n < length old
    → entry_of (get_or old n d) ≡ entry_of (get_or now n d)
same-line f n old now d same below within =
    inside (sym (slice_get-image entry_of (get_or old n d) old n
    (slice_get-at old n (get_or old n d) d within refl)) ∙ line-as-was f n old now d same below)
  where
    inside : {a b : Entry} → Some a ≡ Some b → a ≡ b
    inside e = cc (e)

-- what holds of the lines before holds with this one
pub one-more-so : (Q : Entry → Type 0) (entries : List Entry) (n : ℕ) (x : Entry)
    → slice_get entries n ≡ Some x → Q x → ((j : ℕ) (e : Entry) → j < n → slice_get entries j ≡ Some e → Q e)
    → (j : ℕ) (e : Entry) → j < n + 1 → slice_get entries j ≡ Some e → Q e
one-more-so Q entries n x at own before j e below there = by_number (below_or j n (omega arith))
  where
    inside : {a b : Entry} → Some a ≡ Some b → a ≡ b
    inside e = cc (e)

    by_number : (j ≡ n) ⊎ (j < n) → Q e
    by_number (inl s) = subst Q (inside (sym at ∙ ap (slice_get entries) (sym s) ∙ there)) own
    by_number (inr l) = before j e l there

-- a list from a number on
drop-suc : (xs : List program.Entry) (n : ℕ) (d : program.Entry) → n < length xs → drop n xs ≡ get_or xs n d ∷ drop (suc n) xs
drop-suc [] n d h = absurd (omega arith)
drop-suc (x ∷ xs) zero d h = refl
drop-suc (x ∷ xs) (suc n) d h = drop-suc xs n d (omega arith)

pub drop-next : (xs : List program.Entry) (n : ℕ) (d : program.Entry) → n < length xs → drop n xs ≡ get_or xs n d ∷ drop (n + 1) xs
drop-next xs n d h = drop-suc xs n d h ∙ ap (λ k. get_or xs n d ∷ drop k xs) next
  where
    next : suc n ≡ n + 1
    next = omega arith
