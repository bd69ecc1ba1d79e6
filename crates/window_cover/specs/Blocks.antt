-- The leaves of supertiles that are turned and not shifted, as blocks of a list of leaves.
use Rattle.std.specs.Prelude.{◌≡◌, ℕ, ◌+◌, ◌*◌, ◌<◌, ◌≤◌, ◌^◌, List, length, get_or, None}
use Rattle.std.specs.Option.{IfSome}
use Rattle.std.specs.List.{AllByRecursion}
use Rattle.cyclo_points.specs.Order.{points_of}
use Rattle.cyclo_points.specs.Point.{IsWithin}
use Rattle.rule_model.specs.declared.rule.Rule.{Rule}
use Rattle.rule_model.specs.Tiling.{tiling_of}
use Rattle.rule_model.specs.Views.{rule_of}
use Rattle.theory_windows.specs.Limits.{most_tiles}
use Rattle.window_descent.specs.declared.part.Part.{Part}
use Rattle.window_descent.specs.declared.rows.Rows.{Rows}
use Rattle.window_descent.specs.Parts.{all_of}
use Rattle.window_descent.specs.Rows.{AreRows, levels_of, only_turned, row_place}
use Rattle.window_cover.specs.declared.block.Block.{Block}
use Rattle.window_cover.specs.declared.blocks.Blocks.{Blocks}
use Rattle.window_cover.specs.Covered.{tile_of}
use Rattle.window_cover.specs.Descending.{tiles_in, IsKeptTile, HasMore}
use Rattle.window_cover.specs.Found.{Found, CoverValue}
use Rattle.window_cover.specs.Runs.{leaves_in}

-- the leaves from number `first` to before `end` are near the origin, and have few digits
pub record AreNear (leaves : List Found) (first end depth : ℕ) : Type 0 where
  pub near : (i : ℕ) → first ≤ i → i < end → IsWithin (2 ^ 20) (tile_of leaves i).motion.shift
  pub short : (i : ℕ) → first ≤ i → i < end → length (tile_of leaves i).digits ≤ depth

-- the part of a kind that is turned and not shifted
abbrev pub turned_part : ℕ → ℕ → Part
turned_part kind turn = record { kind = kind; motion = only_turned turn }

-- these leaves are the tiles of such a part, and each is near the origin
pub record IsBlock (m : Rule) (leaves : List Found) (level kind turn : ℕ) (b : Block) : Type 0 where
  pub fits : b.first + b.count ≤ length leaves
  pub few : b.first + b.count ≤ most_tiles
  pub tiles : tiles_in m.order (leaves_in b leaves) ≡ all_of (tiling_of m) level (turned_part kind turn)
  pub near : AreNear leaves b.first (b.first + b.count) level

-- each leaf is within the limits, and each block that is made is right
pub record AreBlocks (m : Rule) (leaves : List Found) (bs : Blocks) : Type 0 where
  pub kept : AllByRecursion (IsKeptTile (tiling_of m)) leaves
  pub low : bs.height ≤ 6
  pub room : length bs.blocks.items ≡ 7 * 256
  pub made : (level kind turn : ℕ) → level ≤ 6 → kind < length (rule_of m).kinds
      → turn < (points_of m.order).order
      → IfSome (get_or bs.blocks.items (row_place level kind turn) None) (IsBlock m leaves level kind turn)

-- the block of this level, kind and turn; there may be more leaves, blocks and rows after it is made
pub record IsBlockOf (m : Rule) (before after : Rows) (c d : CoverValue) (bs : Blocks) (level kind turn : ℕ)
    (b : Block) : Type 0 where
  pub rows : AreRows m after
  pub levels : levels_of after ≡ levels_of before
  pub same_window : d.window ≡ c.window
  pub longer : HasMore c.found d.found
  pub blocks : AreBlocks m d.found bs
  pub block : IsBlock m d.found level kind turn b
