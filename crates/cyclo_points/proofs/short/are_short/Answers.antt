use Rattle.std.proofs.lemmas.Bool.{ltb-true, lt-ltb}
use Rattle.std.proofs.lemmas.Nat.{or_lt}
use Rattle.cyclo_points.proofs.Shorts.{first_below, second_below}
use Rattle.cyclo_points.proofs.short.are_short.Goals as goal

pub returns-clause-first_short : goal.returns-clause-first_short
returns-clause-first_short c = λ h. c.offsets.ensures.only_short (first_below _ c.offsets.result c.offsets-2.result (ltb-true _ _ h))

pub returns-clause-second_short : goal.returns-clause-second_short
returns-clause-second_short c = λ h. c.offsets-2.ensures.only_short (second_below _ c.offsets.result c.offsets-2.result (ltb-true _ _ h))

pub returns-clause-all_short : goal.returns-clause-all_short
returns-clause-all_short c =
    λ h k. lt-ltb _ _ (or_lt 26 c.offsets.result c.offsets-2.result (c.offsets.ensures.all_short h) (c.offsets-2.ensures.all_short k))
