-- The tiles that a descent from part to part finds, as runs.
use Rattle.std.specs.Prelude.{◌≡◌, ℕ, Bool, List, []}
use Rattle.rule_model.specs.declared.rule.Rule.{Rule}
use Rattle.rule_model.specs.Tiling.{tiling_of}
use Rattle.tile_shape.specs.declared.step.Step.{Step}
use Rattle.window_descent.specs.declared.part.Part.{Part}
use Rattle.window_descent.specs.declared.rows.Rows.{Rows}
use Rattle.window_descent.specs.Rows.{AreRows, levels_of}
use Rattle.window_cover.specs.declared.blocks.Blocks.{Blocks}
use Rattle.window_cover.specs.declared.runs.Runs.{Runs}
use Rattle.window_cover.specs.Blocks.{AreBlocks}
use Rattle.window_cover.specs.Descending.{IsDescended}
use Rattle.window_cover.specs.Found.{CoverValue}
use Rattle.window_cover.specs.Runs.{AreRuns, seen}
use Rattle.window_cover.specs.Windows.{IsWindow}

-- the tiles of runs, as what is found of the window of their leaves, with no open edge
abbrev pub gathered : Runs → CoverValue
gathered r = record { window = r.leaves.window; found = seen r; border = [] }

-- the state of the descent is right
pub record AreGathering (m : Rule) (r : Runs) (children : Rows) (bs : Blocks) : Type 0 where
  pub runs : AreRuns r
  pub rows : AreRows m children
  pub blocks : AreBlocks m r.leaves.found bs
  pub window : IsWindow r.leaves.window

-- it stays right, and the tiles of a part are found after those before
pub record IsGathered (m : Rule) (r s : Runs) (children later : Rows) (bs : Blocks) (before after : List Step)
    (all : Bool) (level : ℕ)
    (p : Part) : Type 0 where
  pub state : AreGathering m s later bs
  pub levels : levels_of later ≡ levels_of children
  pub descended : IsDescended (tiling_of m) (gathered r) (gathered s) before after all level p
