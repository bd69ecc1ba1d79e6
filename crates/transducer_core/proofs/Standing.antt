-- Blocks, one behind the other.
use Rattle.std.proofs.Common.{◌≡◌, ℕ, zero, suc, ◌+◌, ◌<◌, ◌≤◌, List, [], ◌∷◌, ◌++◌, length, map, take, drop, Some, refl, sym, ap, ◌∙◌, arith, append_assoc, length-append, get_or}
use Rattle.std.proofs.lemmas.Option.{slice_get-map, slice_get_read, get_or_from_slice_get, slice_get_within}
use Rattle.std.proofs.lemmas.List.{take_more}
use Rattle.std.proofs.Math.Seq.{drop-append_seam, take-append_seam}
use Rattle.std.specs.List.{slice_get, concat, flat_map, AllByRecursion}
use Rattle.theory_addresses.proofs.Lists.{AllByRecursion-among}
use Rattle.theory_addresses.proofs.Ranges.{place-among}
use Rattle.transducer_core.specs.Merged.{BlockStands, IsMerged, AreSpread}
use Rattle.transducer_core.specs.Once.{AreOnce}
use Rattle.transducer_core.specs.Merging.{AllStand}

pub concat-append : (xs ys : List (List ℕ)) → concat (xs ++ ys) ≡ concat xs ++ concat ys
concat-append [] ys = refl
concat-append (x ∷ xs) ys = ap (λ l. x ++ l) (concat-append xs ys) ∙ sym (append_assoc x (concat xs) (concat ys))

pub append-none : {A : Type 0} (xs : List A) → xs ++ [] ≡ xs
append-none [] = refl
append-none (x ∷ xs) = ap (λ l. x ∷ l) (append-none xs)

-- ---- lists of vectors
pub mapped_at : {A B : Type 0} (f : A → B) (xs : List A) (i : ℕ) (v : A) → i < length xs → v ≡ get_or xs i v → slice_get (map f xs) i ≡ Some (f v)
mapped_at f xs i v h is = rw (slice_get-map f xs i, slice_get_read xs (length xs) i v refl h is) refl

pub read_at : {A : Type 0} (xs : List A) (i : ℕ) (v : A) → i < length xs → v ≡ get_or xs i v → slice_get xs i ≡ Some v
read_at xs i v h is = slice_get_read xs (length xs) i v refl h is

pub take_at : {A : Type 0} (l : List A) (i : ℕ) (b : A) → slice_get l i ≡ Some b → take (i + 1) l ≡ take i l ++ b ∷ []
take_at l i b e = rw (get_or_from_slice_get l i b b e) at (take_more l i b (slice_get_within l i b e))

-- a block of those in a row
pub stands_at : (l : List (List ℕ)) (i : ℕ) (b : List ℕ) → slice_get l i ≡ Some b → BlockStands (concat l) (length (concat (take i l))) b
stands_at [] i b e = absurd cc
stands_at (x ∷ l) zero b e = let same : x ≡ b = cc in record { front = []; rest = concat l; words_are = rw same refl; start_is = refl }
stands_at (x ∷ l) (suc i) b e =
    let r = stands_at l i b e in
    record {
      front = x ++ r.front;
      rest = r.rest;
      words_are = ap (λ w. x ++ w) r.words_are ∙ sym (append_assoc x r.front (b ++ r.rest));
      start_is = omega (arith, length-append x (concat (take i l)), length-append x r.front, r.start_is);
    }

pub room_at : (l : List (List ℕ)) (i : ℕ) (b : List ℕ) → slice_get l i ≡ Some b → length (concat (take i l)) + length b ≤ length (concat l)
room_at l i b e =
    let r = stands_at l i b e in
    omega (arith, r.start_is, ap length r.words_are, length-append r.front (b ++ r.rest), length-append b r.rest)

pub block_read : (words : List ℕ) (s n : ℕ) (block : List ℕ) → BlockStands words s block → n ≡ length block → take n (drop s words) ≡ block
block_read words s n block h size = rw (h.words_are, h.start_is, size, drop-append_seam h.front (block ++ h.rest)) (take-append_seam block h.rest)

-- more behind them change nothing
pub Stands-more : (words more : List ℕ) (s : ℕ) (b : List ℕ) → BlockStands words s b → BlockStands (words ++ more) s b
Stands-more words more s b h = record {
  front = h.front;
  rest = h.rest ++ more;
  words_are = ap (λ w. w ++ more) h.words_are ∙ append_assoc h.front (b ++ h.rest) more ∙ ap (λ w. h.front ++ w) (append_assoc b h.rest more);
  start_is = h.start_is;
}

pub AllStand-more : (words more ss : List ℕ) (bs : List (List ℕ)) → AllStand words ss bs → AllStand (words ++ more) ss bs
AllStand-more words more [] [] h = tt
AllStand-more words more [] (b ∷ bs) h = elim h [ ]
AllStand-more words more (s ∷ ss) [] h = elim h [ ]
AllStand-more words more (s ∷ ss) (b ∷ bs) h = (Stands-more words more s b h.0, AllStand-more words more ss bs h.1)

pub AllStand-push : (words ss : List ℕ) (bs : List (List ℕ)) (s : ℕ) (b : List ℕ) → AllStand words ss bs
    → BlockStands words s b → AllStand words (ss ++ s ∷ []) (bs ++ b ∷ [])
AllStand-push words [] [] s b h here = (here, tt)
AllStand-push words [] (c ∷ bs) s b h here = elim h [ ]
AllStand-push words (r ∷ ss) [] s b h here = elim h [ ]
AllStand-push words (r ∷ ss) (c ∷ bs) s b h here = (h.0, AllStand-push words ss bs s b h.1 here)

pub AllStand-at : (words ss : List ℕ) (bs : List (List ℕ)) (c : ℕ) (b : List ℕ) → AllStand words ss bs
    → slice_get bs c ≡ Some b → (s : ℕ) × (slice_get ss c ≡ Some s) × BlockStands words s b
AllStand-at words [] [] c b h e = absurd cc
AllStand-at words [] (d ∷ bs) c b h e = elim h [ ]
AllStand-at words (s ∷ ss) [] c b h e = elim h [ ]
AllStand-at words (s ∷ ss) (d ∷ bs) zero b h e = let same : d ≡ b = cc in (s, refl, rw (← same) h.0)
AllStand-at words (s ∷ ss) (d ∷ bs) (suc c) b h e = AllStand-at words ss bs c b h.1 e

pub AllStand-length : (words ss : List ℕ) (bs : List (List ℕ)) → AllStand words ss bs → length ss ≡ length bs
AllStand-length words [] [] h = refl
AllStand-length words [] (b ∷ bs) h = elim h [ ]
AllStand-length words (s ∷ ss) [] h = elim h [ ]
AllStand-length words (s ∷ ss) (b ∷ bs) h = ap suc (AllStand-length words ss bs h.1)

-- the same for rows of blocks
abbrev pub RowsStand : List ℕ → List (List ℕ) → List (List (List ℕ)) → Type 0
RowsStand words [] [] = Unit {0}
RowsStand words [] (b ∷ bs) = ⊥
RowsStand words (s ∷ ss) [] = ⊥
RowsStand words (s ∷ ss) (b ∷ bs) = AllStand words s b × RowsStand words ss bs

pub RowsStand-more : (words more : List ℕ) (ss : List (List ℕ)) (bs : List (List (List ℕ))) → RowsStand words ss bs → RowsStand (words ++ more) ss bs
RowsStand-more words more [] [] h = tt
RowsStand-more words more [] (b ∷ bs) h = elim h [ ]
RowsStand-more words more (s ∷ ss) [] h = elim h [ ]
RowsStand-more words more (s ∷ ss) (b ∷ bs) h = (AllStand-more words more s b h.0, RowsStand-more words more ss bs h.1)

pub RowsStand-push : (words : List ℕ) (ss : List (List ℕ)) (bs : List (List (List ℕ))) (s : List ℕ)
    (b : List (List ℕ)) → RowsStand words ss bs → AllStand words s b
    → RowsStand words (ss ++ s ∷ []) (bs ++ b ∷ [])
RowsStand-push words [] [] s b h here = (here, tt)
RowsStand-push words [] (c ∷ bs) s b h here = elim h [ ]
RowsStand-push words (r ∷ ss) [] s b h here = elim h [ ]
RowsStand-push words (r ∷ ss) (c ∷ bs) s b h here = (h.0, RowsStand-push words ss bs s b h.1 here)

pub RowsStand-at : (words : List ℕ) (ss : List (List ℕ)) (bs : List (List (List ℕ))) (k : ℕ)
    (row : List (List ℕ)) → RowsStand words ss bs → slice_get bs k ≡ Some row
    → (s : List ℕ) × (slice_get ss k ≡ Some s) × AllStand words s row
RowsStand-at words [] [] k row h e = absurd cc
RowsStand-at words [] (d ∷ bs) k row h e = elim h [ ]
RowsStand-at words (s ∷ ss) [] k row h e = elim h [ ]
RowsStand-at words (s ∷ ss) (d ∷ bs) zero row h e = let same : d ≡ row = cc in (s, refl, rw (← same) h.0)
RowsStand-at words (s ∷ ss) (d ∷ bs) (suc k) row h e = RowsStand-at words ss bs k row h.1 e

-- ---- what holds of a row of those that hold it of each
pub of_row : {A : Type 0} (P : A → Type 0) (xs : List A) (i : ℕ) (x : A) → slice_get xs i ≡ Some x → AllByRecursion P xs → P x
of_row P xs i x at all = AllByRecursion-among P x xs (place-among x xs i at) all

pub flat_map-append : (xs ys : List (List (List ℕ)))
    → flat_map (λ (row : List (List ℕ)). row) (xs ++ ys) ≡ flat_map (λ (row : List (List ℕ)). row) xs
    ++ flat_map (λ (row : List (List ℕ)). row) ys
flat_map-append [] ys = refl
flat_map-append (x ∷ xs) ys =
    ap (λ l. x ++ l) (flat_map-append xs ys) ∙ sym
    (append_assoc x (flat_map (λ (row : List (List ℕ)). row) xs)
    (flat_map (λ (row : List (List ℕ)). row) ys))

-- where each block of each row begins, from the places of the rows' blocks
pub merged_of : (rows : List (List (List ℕ))) (starts : List (List ℕ)) (flat words : List ℕ) (kept : List (List ℕ)) (count : ℕ)
    → RowsStand words starts rows → AreSpread starts flat
    → AreOnce (flat_map (λ (row : List (List ℕ)). row) rows) kept → words ≡ concat kept
    → count ≡ length kept → IsMerged rows flat words count
merged_of rows starts flat words kept count stand spread once words_are count_is = record {
  begins = λ k c row block is there.
      let line = RowsStand-at words starts rows k row stand is in
      let one = AllStand-at words line.0 row c block line.2 there in
      record { start = one.0; start_at = spread k c line.0 one.0 line.1 one.1; stands = one.2 };
  once_each = record { kept = kept; once = once; words_are = words_are; count_is = count_is };
}
