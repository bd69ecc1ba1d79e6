-- The limits of addresses.
use Rattle.std.specs.Prelude.{ℕ}

-- how many bytes the longest text of an address has: a kind of 3 figures, a colon, and 64 digits of 7 bytes
-- with 63 commas between them
abbrev pub longest_text : ℕ
longest_text = 515
