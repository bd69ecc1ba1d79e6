use Rattle.std.proofs.Common.{◌≡◌, ℕ, ◌<◌, ◌≤◌, length}
use Rattle.tile_shape.specs.Views.{address_of}
use Rattle.list_verify.specs.LineIndex.{bucket_of, buckets_of, last_in, HasAddress}
use Rattle.list_verify.proofs.Chains.{links}
use Rattle.list_verify.proofs.line_index.LineIndex.find_from.Given as goal

abbrev pub invariant-loop-at : goal.invariant-loop-at
invariant-loop-at l =
    (n : ℕ) × (n ≤ length l.self.before.items) × (l.at ≡ last_in (buckets_of l.self.buckets l.lines)
    (bucket_of l.self.buckets (address_of l.address)) n)
    × ((i : ℕ) → n ≤ i → i < length l.self.before.items → ¬ HasAddress l.lines i (address_of l.address))

abbrev pub decreases-loop-at : goal.decreases-loop-at
decreases-loop-at l = links l.at
