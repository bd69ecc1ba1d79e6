use Rattle.std.proofs.Common.{◌≡◌, ◌≤◌, drop}
use Rattle.tile_shape.specs.Decimal.{number_up_to}
use Rattle.tile_shape.specs.Words.{first_by, texts_between}
use Rattle.listing_text.proofs.NumberOn.{number_on}
use Rattle.listing_text.proofs.number.number_before.Given as goal

-- reading on from here gives what is before the mark
abbrev pub invariant-loop-place : goal.invariant-loop-place
invariant-loop-place l = record {
  small : l.number ≤ l.most;
  same : number_on l.mark l.most l.place l.number (drop l.place l.text) ≡ first_by (number_up_to l.most) (texts_between l.mark l.text);
}
