use Rattle.std.proofs.Common.{refl}
use Rattle.layer_list.proofs.Counting.{none}
use Rattle.layer_list.proofs.census_layer.CensusLayerLayer.begin.Goals as goal

pub returns-clause-draws : goal.returns-clause-draws
returns-clause-draws c = none _ _ _ _ _ refl refl refl
