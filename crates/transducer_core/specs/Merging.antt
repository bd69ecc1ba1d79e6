-- Lists one after another, and blocks while they are merged.
use Rattle.std.specs.Prelude.{◌≡◌, ◌+◌, ◌*◌, ◌≤◌, ℕ, List, [], ◌∷◌, ◌++◌, length}
use Rattle.std.specs.List.{concat, AllByRecursion}
use Rattle.transducer_core.specs.Merged.{BlockStands}
use Rattle.transducer_core.specs.Once.{AreOnce}

-- the ends of lists that follow one another, from this place on
abbrev pub block_ends : ℕ → List (List ℕ) → List ℕ
block_ends from [] = []
block_ends from (b ∷ bs) = (from + length b) ∷ block_ends (from + length b) bs

-- the words are these lists, one after another, and the end of each is kept
pub record AreBlocksKept (kept : List (List ℕ)) (words ends : List ℕ) : Type 0 where
  pub words_are : words ≡ concat kept
  pub ends_are : ends ≡ block_ends 0 kept

-- and one more block after them, whose end is not written
pub record StandsLast (kept : List (List ℕ)) (block words ends : List ℕ) (last : ℕ) : Type 0 where
  pub words_are : words ≡ concat kept ++ block
  pub ends_are : ends ≡ block_ends 0 kept
  pub last_is : last ≡ length (concat kept)

-- the block is kept, if it was not before, and is at its place
pub record IsBlockPlaced (kept : List (List ℕ)) (block words ends : List ℕ) (start : ℕ) : Type 0 where
  pub more : List (List ℕ)
  pub kept_are : AreBlocksKept (kept ++ more) words ends
  pub stands : BlockStands words start block
  pub few : length more ≤ 1
  pub short : length (concat more) ≤ length block
  pub once : (all : List (List ℕ)) → AreOnce all kept → AreOnce (all ++ block ∷ []) (kept ++ more)

-- each block is at its place
abbrev pub AllStand : List ℕ → List ℕ → List (List ℕ) → Type 0
AllStand words [] [] = Unit {0}
AllStand words [] (b ∷ bs) = ⊥
AllStand words (s ∷ ss) [] = ⊥
AllStand words (s ∷ ss) (b ∷ bs) = BlockStands words s b × AllStand words ss bs

-- so are the blocks of a row, and their places are appended to the others
pub record ArePlaced (kept row : List (List ℕ)) (words ends before after : List ℕ) : Type 0 where
  pub places : List ℕ
  pub places_are : after ≡ before ++ places
  pub stand : AllStand words places row
  pub more : List (List ℕ)
  pub kept_are : AreBlocksKept (kept ++ more) words ends
  pub few : length more ≤ length row
  pub short : length (concat more) ≤ 16 * length row
  pub once : (all : List (List ℕ)) → AreOnce all kept → AreOnce (all ++ row) (kept ++ more)

-- blocks are short, and there are few rows, each of few blocks
abbrev pub AreShort : List (List ℕ) → Type 0
AreShort = AllByRecursion (λ (b : List ℕ). length b ≤ 16)

pub record AreSmall (rows : List (List (List ℕ))) : Type 0 where
  pub few : length rows ≤ 16
  pub few_in_each : AllByRecursion (λ (row : List (List ℕ)). length row ≤ 16) rows
  pub short : AllByRecursion AreShort rows
