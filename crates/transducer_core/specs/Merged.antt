-- Blocks of numbers, one after another in one list, equal ones only once.
use Rattle.std.specs.Prelude.{◌≡◌, ℕ, ◌+◌, ◌*◌, ◌<◌, List, ◌++◌, Some, length, slice_get}
use Rattle.std.specs.List.{flat_map, concat}
use Rattle.transducer_core.specs.Once.{AreOnce}

-- the list has the block, from this place on
pub record BlockStands (words : List ℕ) (start : ℕ) (block : List ℕ) : Type 0 where
  pub front : List ℕ
  pub rest : List ℕ
  pub words_are : words ≡ front ++ (block ++ rest)
  pub start_is : start ≡ length front

-- the list is this number of distinct blocks, one after another
pub record IsOnceEach (blocks : List (List ℕ)) (words : List ℕ) (count : ℕ) : Type 0 where
  pub kept : List (List ℕ)
  pub once : AreOnce blocks kept
  pub words_are : words ≡ concat kept
  pub count_is : count ≡ length kept

-- block c of row k begins at the place that is written at 256 k + c
pub record BeginsAt (words starts : List ℕ) (k c : ℕ) (block : List ℕ) : Type 0 where
  pub start : ℕ
  pub start_at : slice_get starts (256 * k + c) ≡ Some start
  pub stands : BlockStands words start block

-- so do all
abbrev pub AllBegin : List (List (List ℕ)) → List ℕ → List ℕ → Type 0
AllBegin rows starts words = (k c : ℕ) (row : List (List ℕ)) (block : List ℕ) → slice_get rows k ≡ Some row
    → slice_get row c ≡ Some block → BeginsAt words starts k c block

-- and equal ones are kept once
pub record IsMerged (rows : List (List (List ℕ))) (starts words : List ℕ) (count : ℕ) : Type 0 where
  pub begins : AllBegin rows starts words
  pub once_each : IsOnceEach (flat_map (λ (row : List (List ℕ)). row) rows) words count

-- number c of row k is at 256 k + c in the list
abbrev pub AreSpread : {A : Type 0} → List (List A) → List A → Type 0
AreSpread {A} rows flat = (k c : ℕ) (row : List A) (x : A) → slice_get rows k ≡ Some row
    → slice_get row c ≡ Some x → slice_get flat (256 * k + c) ≡ Some x

-- the last cell of a row
abbrev pub last_cell : ℕ → ℕ
last_cell k = 256 * k + 255

-- what fills up a row of last cells: no row of a kind ends there
abbrev pub no_row : ℕ
no_row = 131072

-- the list has 256 numbers for each row, and fills up each row with what is no row's
pub record AreFilled (rows : List (List ℕ)) (flat : List ℕ) : Type 0 where
  pub size : length flat ≡ 256 * length rows
  pub no_other : (k c x : ℕ) → c < 256 → slice_get flat (256 * k + c) ≡ Some x → (x ≡ no_row → ⊥)
      → (row : List ℕ) × (slice_get rows k ≡ Some row) × (slice_get row c ≡ Some x)

-- the word at a place of a block, found by the start of the block, which is written at a cell
pub record HasEntry (starts words : List ℕ) (cell place word : ℕ) : Type 0 where
  pub start : ℕ
  pub start_at : slice_get starts cell ≡ Some start
  pub word_at : slice_get words (start + place) ≡ Some word
