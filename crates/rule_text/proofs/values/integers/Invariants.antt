use Rattle.std.proofs.Common.{◌≡◌, map, take}
use Rattle.toml.specs.View.{view}
use Rattle.toml.specs.Data.{integer}
use Rattle.rule_text.proofs.values.integers.Given as goal

abbrev pub invariant-loop-z : goal.invariant-loop-z
invariant-loop-z l = map view l.values.items ≡ map integer (take l.z-index l.zs)
