-- Frames as contracts see them, and the digits that they have.
use Rattle.std.specs.Prelude.{◌≡◌, ℕ, ◌-◌, ◌≤◌, List, length}
use Rattle.theory_addresses.specs.Address.{Step, Address, depth, Fits}
use Rattle.theory_frames.specs.Growth.{grown_by}
use Rattle.theory_frames.specs.Frame.{lifted_in}
use Rattle.rule_model.specs.Tiling.{Tiling, children}
use Rattle.tile_shape.specs.UsesInOrder.{uses_in_order}
use Rattle.seeded_growth.specs.Words.{word}

-- the base's own address, the seed, and the base's digits followed by the grown ones
pub record FrameValue : Type 0 where
  pub base : Address
  pub start : ℕ
  pub digits : List Step

-- the base's address in the frame, which names the frame's supertile
abbrev pub whole : FrameValue → Address
whole f = record { kind = f.base.kind; digits = f.digits }

-- the frame of the same base and seed that has a depth, in a tiling
abbrev pub at_depth : Tiling → ℕ → FrameValue → FrameValue
at_depth t n f = record {
  base = f.base;
  start = f.start;
  digits = (grown_by (uses_in_order (children t)) (word f.start) (n - depth f.base) f.base).digits;
}

-- the frame is one of a tiling: its base fits, and its digits are those of its depth
pub record IsFrameOf (t : Tiling) (f : FrameValue) : Type 0 where
  pub fits : Fits (children t) f.base
  pub holds_base : depth f.base ≤ length f.digits
  pub at_most_64 : length f.digits ≤ 64
  pub its_digits : f ≡ at_depth t (length f.digits) f

-- what a frame may become: it keeps its base and its seed, its depth does not fall, and its digits are those
-- of its depth
pub record GrowsTo (t : Tiling) (f g : FrameValue) : Type 0 where
  pub same_base : g.base ≡ f.base
  pub same_start : g.start ≡ f.start
  pub no_shallower : length f.digits ≤ length g.digits
  pub is_frame : IsFrameOf t g

-- a tile lifted to a depth of the frame
abbrev pub lifted_at : Tiling → FrameValue → Address → ℕ → Address
lifted_at t f tile n = lifted_in (whole (at_depth t n f)) tile
