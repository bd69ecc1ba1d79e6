use Rattle.std.proofs.Common.{◌≡◌, drop}
use Rattle.call_words.specs.FormatWords.{is_among}
use Rattle.call_words.proofs.format_words.is_among.Given as goal

-- the format is none of those before
abbrev pub invariant-loop-other : goal.invariant-loop-other
invariant-loop-other l = is_among l.format (drop l.other-index l.formats) ≡ is_among l.format l.formats
