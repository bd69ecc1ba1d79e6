use Rattle.std.proofs.Common.{◌≡◌, ◌+◌, ◌≤◌, map, length}
use Rattle.std.specs.List.{All}
use Rattle.tile_shape.specs.Accepted.{IsAcceptedAddress}
use Rattle.tile_shape.specs.Views.{address_of}
use Rattle.listing_text.specs.Limits.{most_lines}
use Rattle.listing_text.specs.Lines.{lines_in}
use Rattle.listing_text.specs.Listing.{entries_before, entries_from}
use Rattle.listing_text.specs.Views.{entry_of}
use Rattle.listing_text.proofs.reading.read_listing.Given as goal

abbrev pub invariant-loop-rest : goal.invariant-loop-rest
invariant-loop-rest l = record {
  few : length l.entries.items ≤ most_lines;
  counted : length l.entries.items + length (lines_in l.rest) ≡ length (lines_in l.listing);
  accepted : All (λ entry. IsAcceptedAddress l.uses (address_of entry.address)) l.entries.items;
  so_far : entries_from l.uses 1 (lines_in l.listing) ≡ entries_before (map entry_of l.entries.items)
      (entries_from l.uses (length l.entries.items + 1) (lines_in l.rest));
}

abbrev pub decreases-loop-rest : goal.decreases-loop-rest
decreases-loop-rest l = length l.rest
