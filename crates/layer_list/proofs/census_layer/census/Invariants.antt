use Rattle.std.proofs.Common.{◌≡◌, List}
use Rattle.layer_api.specs.declared.drawn.Drawn.{Drawn}
use Rattle.layer_api.specs.CensusText.{class_lines}
use Rattle.layer_list.specs.Counts.{IsCountOf}
use Rattle.layer_list.proofs.census_layer.census.Given as goal

abbrev pub invariant-loop-class : goal.invariant-loop-class
invariant-loop-class l = (tiles : List Drawn) → IsCountOf l.counts l.all tiles → l.text.items ≡ class_lines l.class tiles
