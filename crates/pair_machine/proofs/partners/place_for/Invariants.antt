use Rattle.std.proofs.Common.{◌<◌, map, take}
use Rattle.theory_addresses.specs.Search.{IsAmong}
use Rattle.pair_machine.specs.Between.{Pair}
use Rattle.pair_machine.specs.Views.{as_pair}
use Rattle.pair_machine.proofs.partners.place_for.Given as goal

abbrev pub invariant-loop-place : goal.invariant-loop-place
invariant-loop-place l = (p : Pair) → IsAmong p (take l.place (map as_pair l.pairs)) → p.mine < l.mine
