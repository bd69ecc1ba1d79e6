use Rattle.std.proofs.Common.{◌≡◌, ◌<◌, ℕ, List, length, slice_get, Some}
use Rattle.std.specs.List.{All}
use Rattle.theory_addresses.specs.Address.{Fits}
use Rattle.theory_frames.specs.Frame.{IsTileOf}
use Rattle.theory_walks.specs.Frames.{whole}
use Rattle.listing_text.specs.Listing.{Entry}
use Rattle.tile_shape.specs.Views.{address_of}
use Rattle.list_verify.specs.FoundLines.{entries_of}
use Rattle.list_verify.specs.Lifted.{first_lifted}
use Rattle.list_verify.proofs.lifted_lines.lift_each.Given as goal

abbrev pub invariant-loop-line : goal.invariant-loop-line
invariant-loop-line l =
    (length l.lines ≡ length l.fn.lines)
    × (entries_of l.lines ≡ first_lifted (whole l.frame) l.line (entries_of l.fn.lines))
    × ((kinds : List (List ℕ)) → All (λ line. Fits kinds (address_of line.address)) l.fn.lines
    → (j : ℕ) (e : Entry) → j < l.line → slice_get (entries_of l.fn.lines) j ≡ Some e → IsTileOf kinds (whole l.frame) e.address)
