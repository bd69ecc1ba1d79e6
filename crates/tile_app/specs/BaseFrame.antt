-- The frame of a base, before it grows.
use Rattle.std.specs.Prelude.{◌≡◌, ℕ, true}
use Rattle.theory_addresses.specs.Address.{Address}
use Rattle.theory_walks.specs.Frames.{FrameValue, IsFrameOf}
use Rattle.rule_model.specs.Tiling.{Tiling}
use Rattle.tile_shape.specs.Text.{address_text}
use Rattle.call_words.specs.declared.request.Question.{Question}
use Rattle.call_words.specs.Request.{Request}
use Rattle.call_words.specs.Views.{question_of}
use Rattle.tile_app.specs.Tile.{IsTile, is_tile}

-- from the address of the base and the seed of growth
abbrev pub frame_of : Address → ℕ → FrameValue
frame_of base seed = record { base = base; start = seed; digits = base.digits }

-- the frame has not grown yet
abbrev pub IsBegun : FrameValue → Type 0
IsBegun f = f ≡ frame_of f.base f.start

-- the frame of a tile of the tiling, before it grows
pub record IsBaseFrame (t : Tiling) (f : FrameValue) : Type 0 where
  pub tile : IsTile t (address_text f.base) f.base
  pub told : is_tile t (address_text f.base) ≡ true
  pub begun : IsBegun f
  pub is_frame : IsFrameOf t f

-- what a question about a frame that has not grown asks of the call: the address is that of the base
abbrev pub question_in : FrameValue → Question → Request
question_in f q = question_of (address_text f.base) f.start q
