-- What a contract sees of a stream of words.
use Rattle.std.specs.Prelude.{ℕ}

-- its seed, and how many outputs were taken
pub record Stream : Type 0 where
  pub start : ℕ
  pub taken : ℕ
