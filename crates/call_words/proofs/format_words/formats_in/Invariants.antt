use lib.Utf8.{scalars, encodes}
use Rattle.std.proofs.Common.{◌≡◌, ℕ, List, true, [], length}
use Rattle.call_words.specs.FormatWords.{formats_behind}
use Rattle.tile_shape.specs.Text.{comma}
use Rattle.tile_shape.specs.Words.{texts_between}
use Rattle.call_words.proofs.format_words.formats_in.Given as goal

-- behind the formats read, the rest, which is text, names what the text names
abbrev pub invariant-loop-piece : goal.invariant-loop-piece
invariant-loop-piece l = record {
  is_text : (x : List ℕ) × ((scalars x ≡ true) × (encodes x ≡ l.rest));
  same : formats_behind l.formats.items (texts_between comma l.rest) ≡ formats_behind [] (texts_between comma l.fn.text);
}

-- the rest gets shorter
abbrev pub decreases-loop-piece : goal.decreases-loop-piece
decreases-loop-piece l = length l.rest
