-- Growth: the digits that a stream of outputs gives at the coarse end.
use Rattle.std.specs.Prelude.{ℕ, zero, suc, ◌+◌, ◌%◌, List, [], ◌∷◌, ◌++◌, length, get_or}
use Rattle.theory_addresses.specs.Address.{Step, Address, top_kind}

-- a value for a kind without uses; an accepted rule has no such kind
abbrev pub no_step : Step
no_step = record { child = 0; parent = 0 }

-- the digit that an output chooses on a kind: the use with this number, modulo the number of the kind's uses
abbrev pub chosen : List Step → ℕ → Step
chosen uses word = get_or uses (word % length uses) no_step

-- this number of digits from number j on, on a kind on top; each digit's parent is the kind that the next
-- digit starts from
abbrev pub grown_from : (ℕ → List Step) → (ℕ → ℕ) → ℕ → ℕ → ℕ → List Step
grown_from uses word j top zero = []
grown_from uses word j top (suc n) =
    chosen (uses top) (word j) ∷ grown_from uses word (j + 1) (chosen (uses top) (word j)).parent n

-- the base's address with this number of grown digits
abbrev pub grown_by : (ℕ → List Step) → (ℕ → ℕ) → ℕ → Address → Address
grown_by uses word n base = record {
  kind = base.kind;
  digits = base.digits ++ grown_from uses word 0 (top_kind base) n;
}
