-- Fields of words that have room for tiles, by their runs and their leaves.
use Rattle.std.specs.Prelude.{List, None, Some}
use Rattle.std.specs.declared.option.Option.{Option}
use Rattle.std.specs.List.{AllByRecursion}
use Rattle.cyclo_points.specs.declared.motion.Motion.{Motion}
use Rattle.cyclo_points.specs.declared.point.Point.{Point}
use Rattle.rule_model.specs.Usable.{origin}
use Rattle.window_cover.specs.declared.fields.Fields.{Fields}
use Rattle.window_cover.specs.declared.run.Run.{Run}
use Rattle.window_cover.specs.Found.{Found}
use Rattle.window_cover.specs.Words.{AreHeld}

-- the motion of a run, which only shifts
abbrev pub still_run : Option Point → Motion
still_run None = record { turn = 0; shift = origin }
still_run (Some by) = record { turn = 0; shift = by }

-- the fields have room for each tile
abbrev pub HoldEach : Fields → List Found → Type 0
HoldEach f found = AllByRecursion (λ (x : Found). AreHeld f x.motion x.kind) found

-- they have room for the motion of a run, as for a tile of kind 0
abbrev pub HoldRun : Fields → Run → Type 0
HoldRun f r = AreHeld f (still_run r.shift) 0
