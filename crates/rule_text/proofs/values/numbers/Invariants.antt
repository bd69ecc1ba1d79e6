use Rattle.std.proofs.Common.{◌≡◌, map, take}
use Rattle.toml.specs.View.{view}
use Rattle.rule_text.specs.Written.{number_data}
use Rattle.rule_text.proofs.values.numbers.Given as goal

abbrev pub invariant-loop-n : goal.invariant-loop-n
invariant-loop-n l = map view l.values.items ≡ map number_data (take l.n-index l.ns)
