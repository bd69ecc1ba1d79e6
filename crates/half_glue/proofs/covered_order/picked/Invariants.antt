use Rattle.std.proofs.Common.{◌≡◌}
use Rattle.theory_addresses.specs.Search.{chosen_below}
use Rattle.half_glue.specs.Keys.{is_new_key, pair_at}
use Rattle.half_glue.proofs.covered_order.picked.Given as goal

abbrev pub invariant-loop-place : goal.invariant-loop-place
invariant-loop-place l = l.picked.items ≡ chosen_below (is_new_key l.fn.keys) (pair_at l.fn.pairs l.fn.keys) l.place
