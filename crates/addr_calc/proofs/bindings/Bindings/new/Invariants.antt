use Rattle.std.proofs.Common.{◌≡◌, None, replicate}
use Rattle.addr_calc.proofs.bindings.Bindings.new.Given as goal

-- so many names have their place
abbrev pub invariant-loop : goal.invariant-loop
invariant-loop l = l.addresses.items ≡ replicate l.counter None
