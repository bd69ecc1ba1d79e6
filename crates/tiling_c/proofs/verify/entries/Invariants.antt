use Rattle.std.proofs.Common.{◌≡◌, ℕ, ◌<◌, All, take}
use Rattle.theory_addresses.specs.Address.{Fits}
use Rattle.rule_model.specs.Tiling.{tiling_of, children}
use Rattle.tile_shape.specs.Views.{address_of}
use Rattle.list_verify.specs.FoundLines.{entries_of}
use Rattle.tiling_c.specs.Arrays.{plain_tile_at, plain_address_at}
use Rattle.tiling_c.specs.Verify.{entries_given, IsEntry}
use Rattle.tiling_c.proofs.verify.entries.Given as goal

-- the entries so far
abbrev pub invariant-loop-index : goal.invariant-loop-index
invariant-loop-index l = record {
  given : entries_of l.entries.items ≡ entries_given (take l.index l.tiles) (take l.index l.addrs);
  are_entries : (i : ℕ) → i < l.index → IsEntry (tiling_of l.machine) (plain_tile_at l.tiles i) (plain_address_at l.addrs i);
  fit : All (λ e. Fits (children (tiling_of l.machine)) (address_of e.address)) l.entries.items;
}
