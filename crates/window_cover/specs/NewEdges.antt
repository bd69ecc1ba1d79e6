-- The edges of a new tile, compared with the open edges.
use Rattle.std.specs.Prelude.{◌≡◌, ℕ, suc, ◌<◌, Bool, false, not, ◌&&◌, cond, nat_lt, List, length, get_or}
use Rattle.std.specs.List.{filter}
use Rattle.theory_plane.specs.BoxTest.{box_test}
use Rattle.theory_addresses.specs.Search.{some_below, chosen_below}
use Rattle.theory_substitution.specs.Plane.{plane_point}
use Rattle.cyclo_points.specs.declared.order.Order.{Order}
use Rattle.cyclo_points.specs.declared.point.Point.{Point}
use Rattle.cyclo_points.specs.Order.{points_of}
use Rattle.cyclo_points.specs.Point.{point_in}
use Rattle.plane_geom.specs.declared.window.Window.{Window}
use Rattle.rule_model.specs.Usable.{origin}
use Rattle.window_cover.specs.declared.ends.Ends.{Ends}
use Rattle.window_cover.specs.Border.{Waiting, have_same_ends, has_ends}
use Rattle.window_cover.specs.Packed.{ends_of}
use Rattle.window_cover.specs.Windows.{window_box}

-- the edge traversed backwards
abbrev pub reversed : Ends → Ends
reversed k = record {
  start_low = k.end_low;
  start_high = k.end_high;
  end_low = k.start_low;
  end_high = k.start_high;
}

-- the start and the end of edge number e of a tile with these corners
abbrev pub start_at : List Point → ℕ → Point
start_at corners e = get_or corners e origin

abbrev pub end_at : List Point → ℕ → Point
end_at corners e = get_or corners (cond (nat_lt (suc e) (length corners)) (suc e) 0) origin

abbrev pub ends_at : List Point → ℕ → Ends
ends_at corners e = ends_of (start_at corners e) (end_at corners e)

-- true if the edge between two points meets the window
unfoldable pub meets_window : Order → Window → Point → Point → Bool
meets_window o w a b =
    box_test (points_of o).real (plane_point (points_of o) (point_in o a))
    (plane_point (points_of o) (point_in o b)) (window_box o w)

-- edge number e of tile number i, as an open edge
abbrev pub waiting_at : ℕ → List Point → ℕ → Waiting
waiting_at i corners e = record { ends = ends_at corners e; edge = record { tile = i; edge = e } }

-- true if the edge with these ends is the reverse of one of these edges
abbrev pub closes : Ends → List Waiting → Bool
closes k waiting = has_ends (reversed k) waiting

-- the edges of which the one with these ends is not the reverse
abbrev pub without : Ends → List Waiting → List Waiting
without k waiting = filter (λ o. not (have_same_ends (reversed k) o.ends)) waiting

-- the edges of which none of the tile's first n edges is the reverse
abbrev pub left_open : List Point → ℕ → List Waiting → List Waiting
left_open corners n waiting =
    filter (λ o. not (some_below n (λ e. have_same_ends (reversed (ends_at corners e)) o.ends))) waiting

-- of its own first n edges, those that meet the window and are the reverse of no open edge
abbrev pub opened : Order → Window → ℕ → List Point → ℕ → List Waiting → List Waiting
opened o w i corners n waiting =
    chosen_below (λ e. meets_window o w (start_at corners e) (end_at corners e)
    && not (closes (ends_at corners e) waiting)) (waiting_at i corners) n

-- The edges of a tile have different ends. None is the reverse of another, and none is open.
pub record AreNew (corners : List Point) (waiting : List Waiting) : Type 0 where
  pub apart : (e f : ℕ) → e < length corners → f < length corners → (¬ e ≡ f)
      → have_same_ends (ends_at corners e) (ends_at corners f) ≡ false
  pub no_return : (e f : ℕ) → e < length corners → f < length corners
      → have_same_ends (reversed (ends_at corners e)) (ends_at corners f) ≡ false
  pub fresh : (e : ℕ) → e < length corners → has_ends (ends_at corners e) waiting ≡ false
