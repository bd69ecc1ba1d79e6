-- The two ends of an edge in four words of 64 bits.
use Rattle.std.specs.Prelude.{ℕ, ◌+◌, ◌*◌, ◌^◌, ◌/◌, ◌%◌, ℤ, pos, neg_ℤ, ◌+ℤ◌, nat_abs, [], ◌∷◌}
use Rattle.cyclo_points.specs.declared.point.Point.{Point}
use Rattle.cyclo_points.specs.Point.{coefficient}
use Rattle.window_cover.specs.declared.ends.Ends.{Ends}
use Rattle.window_cover.specs.Border.{Waiting}
use Rattle.window_cover.specs.Found.{BorderEdge}

-- a coefficient, raised above 0
abbrev pub raised : ℤ → ℕ
raised x = nat_abs (x +ℤ pos (2 ^ 31))

-- two coefficients in one word
abbrev pub word_of : ℤ → ℤ → ℕ
word_of a b = raised a * 2 ^ 32 + raised b

-- a start and an end, as points
abbrev pub ends_of : Point → Point → Ends
ends_of start end = record {
  start_low = word_of (coefficient start 0) (coefficient start 1);
  start_high = word_of (coefficient start 2) (coefficient start 3);
  end_low = word_of (coefficient end 0) (coefficient end 1);
  end_high = word_of (coefficient end 2) (coefficient end 3);
}

-- the coefficient that is raised to this number
abbrev pub lowered : ℕ → ℤ
lowered n = pos n +ℤ neg_ℤ (pos (2 ^ 31))

-- the point in two words
abbrev pub point_of_words : ℕ → ℕ → Point
point_of_words low high = record {
  c = lowered (low / 2 ^ 32) ∷ lowered (low % 2 ^ 32) ∷ lowered (high / 2 ^ 32) ∷ lowered (high % 2 ^ 32) ∷
      [];
}

-- an open edge with its ends as points, and with its ends in words
abbrev pub unpacked : Waiting → BorderEdge
unpacked w = record {
  edge = w.edge;
  from = point_of_words w.ends.start_low w.ends.start_high;
  to = point_of_words w.ends.end_low w.ends.end_high;
}

abbrev pub packed : BorderEdge → Waiting
packed o = record { ends = ends_of o.from o.to; edge = o.edge }
