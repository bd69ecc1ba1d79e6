-- What a line of a script asks for. A name is known by its number: 0 is `a`, and 25 is `z`.
use Rattle.std.specs.Prelude.{ℕ, List}

pub data Statement : Type 0 where
  -- nothing: the line is empty or a comment
  Nothing : Statement
  -- to bind a name to the address of this text
  Let : ℕ → List ℕ → Statement
  -- to print the address of a name
  Show : ℕ → Statement
  -- to print where the tile of a name lies
  Place : ℕ → Statement
  -- to cross this edge of the tile of a name, and to bind the last name to the tile across
  Across : ℕ → ℕ → ℕ → Statement
  -- to print the level from which on the addresses of two names agree
  Common : ℕ → ℕ → Statement
  -- to print by which edges the tiles of two names lie on each other
  Pair : ℕ → ℕ → Statement
