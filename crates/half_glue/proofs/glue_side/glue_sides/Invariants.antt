use Rattle.rule_model.specs.Tiling.{tiling_of}
use Rattle.half_glue.proofs.KindSides.{AreFirstSides}
use Rattle.half_glue.proofs.glue_side.glue_sides.Given as goal

abbrev pub invariant-loop-kind : goal.invariant-loop-kind
invariant-loop-kind l = AreFirstSides (tiling_of l.fn.machine) l.kind l.sides.items
