use Rattle.std.proofs.Common.{◌≡◌, All, map, take}
use Rattle.toml.specs.View.{view}
use Rattle.rule_text.specs.Written.{point_data, IsFour}
use Rattle.rule_text.proofs.values.points.Given as goal

abbrev pub invariant-loop-p : goal.invariant-loop-p
invariant-loop-p l = record {
  values : map view l.values.items ≡ map point_data (take l.p-index l.ps);
  fours : All IsFour (take l.p-index l.ps);
}
