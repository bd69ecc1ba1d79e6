-- The limit of a rule file.
use Rattle.std.specs.Prelude.{ℕ}

-- the greatest length of a rule file, in bytes: a mebibyte
abbrev pub longest_file : ℕ
longest_file = 1048576
