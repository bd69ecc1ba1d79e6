-- What `drill` prints: totals over windows that the seed determines, each covered in a fresh frame. It
-- refuses nothing.
use Rattle.std.specs.Prelude.{◌≡◌, ◌⊎◌, ℕ, zero, suc, ◌+◌, ◌*◌, ◌%◌, max, ℤ, pos, ◌-ℤ◌, List, [], ◌∷◌, ◌++◌, codes, length, map, All}
use Rattle.std.specs.Fmt.{decimal}
use Rattle.cyclo_points.specs.Text.{newline}
use Rattle.cyclo_points.specs.declared.order.Order.{Order}
use Rattle.cyclo_points.specs.declared.point.Point.{Point}
use Rattle.theory_walks.specs.Frames.{FrameValue, GrowsTo}
use Rattle.lazy_walk.specs.Standing.{Stands}
use Rattle.plane_geom.specs.declared.window.Window.{Window}
use Rattle.rule_model.specs.Tiling.{Tiling}
use Rattle.seeded_growth.specs.Words.{word}
use Rattle.tile_place.specs.declared.placed_tile.PlacedTile.{PlacedTile}
use Rattle.tile_place.specs.Searched.{placed_in}
use Rattle.window_cover.specs.InOrder.{AreInOrder}
use Rattle.window_cover.specs.Limits.{IsCoverWithinLimits}
use Rattle.window_cover.specs.Windows.{AreDrawn, IsLeastForWindow}
use Rattle.tile_app.specs.declared.summary.Summary.{Summary}
use Rattle.tile_app.specs.Windows.{reduced}

-- an output of the seed's generator as a coefficient, from -32 to 31, and as a half-width or half-height,
-- from 1 to 64
abbrev pub coefficient_of : ℕ → ℤ
coefficient_of w = pos (w % 64) -ℤ pos 32

abbrev pub extent_of : ℕ → ℕ
extent_of w = 1 + w % 64

-- the point of four outputs, from number j on, before it is reduced to the order
abbrev pub centre_from : ℕ → ℕ → Point
centre_from start j = record {
  c = coefficient_of (word start j) ∷ coefficient_of (word start (j + 1)) ∷ coefficient_of
      (word start (j + 2)) ∷ coefficient_of (word start (j + 3)) ∷ [];
}

-- the window of six outputs, from number j on: four for its centre, two for its half-width and half-height
abbrev pub window_from : Order → ℕ → ℕ → Window
window_from o start j = record {
  centre = reduced o (centre_from start j);
  w = extent_of (word start (j + 4));
  h = extent_of (word start (j + 5));
}

-- window number i, counted from 0: each has six outputs of its own
abbrev pub drill_window : Order → ℕ → ℕ → Window
drill_window o start i = window_from o start (6 * i)

-- the frame in which each window is covered, before it grows: that of the base `0:` and the seed
abbrev pub fresh_frame : ℕ → FrameValue
fresh_frame start = record { base = record { kind = 0; digits = [] }; start = start; digits = [] }

-- A window within the limits of its frame. This many tiles meet it, each counted exactly once, in the frame
-- of this depth, the least that is enough.
pub record IsCovered (t : Tiling) (frame : FrameValue) (window : Window) (count depth : ℕ) : Type 0 where
  pub within : IsCoverWithinLimits t frame window
  pub later : FrameValue
  pub grown : GrowsTo t frame later
  pub its_depth : depth ≡ length later.digits
  pub least : IsLeastForWindow t frame window depth
  pub tiles : List PlacedTile
  pub stand : All (Stands t later) tiles
  pub drawn : AreDrawn t later window (map (placed_in t.order) tiles)
  pub in_order : AreInOrder tiles
  pub its_count : count ≡ length tiles

-- the totals over no window
abbrev pub none_covered : Summary
none_covered = record { tiles = 0; largest = 0; depth = 0; refused = 0 }

-- with one window more: of so many tiles and this depth, or beyond its limits
abbrev pub with_window : ℕ → ℕ → Summary → Summary
with_window count depth s = record {
  tiles = s.tiles + count;
  largest = max s.largest count;
  depth = max s.depth depth;
  refused = s.refused;
}

abbrev pub with_refused : Summary → Summary
with_refused s = record { tiles = s.tiles; largest = s.largest; depth = s.depth; refused = s.refused + 1 }

-- a window is added to the totals over those before it: it is covered in its frame, or it is beyond its
-- limits
abbrev pub Adds : Tiling → FrameValue → Window → Summary → Summary → Type 0
Adds t frame window before after =
    ((count depth : ℕ) × IsCovered t frame window count depth × (after ≡ with_window count depth before))
    ⊎ ((IsCoverWithinLimits t frame window → ⊥) × (after ≡ with_refused before))

-- the totals over the first n windows, each in a fresh frame
abbrev pub IsSummary : Tiling → ℕ → ℕ → Summary → Type 0
IsSummary t start zero s = s ≡ none_covered
IsSummary t start (suc i) s = (before : Summary) × IsSummary t start i before
    × Adds t (fresh_frame start) (drill_window t.order start i) before s

-- five lines: the number of windows, and the totals
abbrev pub summary_text : ℕ → Summary → List ℕ
summary_text n s =
    codes "windows " ++ decimal n ++ newline ∷ codes "tiles " ++ decimal s.tiles ++ newline ∷ codes "largest "
    ++ decimal s.largest
    ++ newline ∷ codes "depth " ++ decimal s.depth ++ newline ∷ codes "refused " ++ decimal s.refused
    ++ newline ∷ []

-- the text has the totals over so many windows of the seed
pub record PrintsDrill (t : Tiling) (seed count : ℕ) (text : List ℕ) : Type 0 where
  pub summary : Summary
  pub is_summary : IsSummary t seed count summary
  pub is_text : text ≡ summary_text count summary
