-- What the plain frames of C stand for.
use Rattle.theory_walks.specs.Frames.{FrameValue}
use Rattle.c_values.specs.declared.plain_frame.PlainFrame.{PlainFrame}
use Rattle.c_values.specs.Addresses.{address_in}

-- the frame of a base tile and a seed that has grown no digit yet
abbrev pub frame_in : PlainFrame → FrameValue
frame_in p = record { base = address_in p.base; start = p.seed; digits = (address_in p.base).digits }
