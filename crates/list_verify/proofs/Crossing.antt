-- An edge, which meets the window, of the tile of a line found is crossed.
use Rattle.std.proofs.Common.{◌≡◌, ℕ, ◌<◌, max, Bool, List, length, get_or, slice_get, Some, sym, ap, ◌∙◌, arith}
use Rattle.theory_addresses.specs.Address.{Address}
use Rattle.theory_addresses.specs.Search.{IsAmong}
use Rattle.theory_addresses.proofs.Lists.{AllByRecursion-among, IsAmong-map}
use Rattle.cyclo_points.specs.Order.{points_of, is_refused}
use Rattle.theory_dissection.specs.Accepted.{AcceptedRule}
use Rattle.theory_frames.specs.Frame.{IsTileOf}
use Rattle.theory_walks.specs.Ancestors.{full}
use Rattle.lazy_walk.specs.Crossed.{IsCrossedTo}
use Rattle.theory_walks.specs.Frames.{FrameValue, whole, GrowsTo}
use Rattle.theory_walks.proofs.Walks.{StillFits, later}
use Rattle.listing_text.specs.declared.entry.Entry as program
use Rattle.theory_listings.specs.FrameWalk.{IsEdgeOfWalkOn}
use Rattle.plane_geom.specs.declared.window.Window.{Window}
use Rattle.rule_model.specs.declared.rule.Rule.{Rule}
use Rattle.rule_model.specs.Tiling.{Tiling, tiling_of, children}
use Rattle.theory_substitution.specs.Motion.{followed}
use Rattle.theory_substitution.specs.Points.{Points}
use Rattle.tile_place.specs.declared.placed_tile.PlacedTile.{PlacedTile}
use Rattle.tile_place.proofs.Plane.{IsSettled, its_rule}
use Rattle.tile_shape.specs.Views.{address_of}
use Rattle.theory_windows.specs.FrameLaws.{IsEdgeInFrame}
use Rattle.theory_windows.specs.FramePatch.{growing_frame, in_frame, line_of}
use Rattle.theory_windows.specs.FrameSearch.{IsGrownCrossing}
use Rattle.theory_windows.specs.Outlines.{MeetsBox}
use Rattle.theory_windows.specs.PatchWindow.{LiesAcross}
use Rattle.window_cover.specs.Windows.{TileOf, box_of, IsWindow}
use Rattle.list_verify.specs.FoundLines.{entries_of, AreLinesIn, no_line, tile_of_line, tiles_listed_so_far, IsInPlace, AreFound, edge_of_line, edges_of_line, IsCrossedOver}
use Rattle.list_verify.specs.Listing.{tiles_listed}
use Rattle.list_verify.specs.ListLaws.{HasListLaws}
use Rattle.list_verify.proofs.Came.{HasCome}
use Rattle.window_cover.proofs.FrameNames.{grown}
use Rattle.list_verify.proofs.Lines.{its_names, line-of, listing-on, number-among, line-tile}
use Rattle.list_verify.proofs.LineNumbers.{at-number}

module _ (m : Rule) (settled : IsSettled m) (fits : StillFits (children (tiling_of m)))
    (L : HasListLaws (points_of m.order)) (f : FrameValue) (w : Window) (fit : IsWindow w)
    (lines : List program.Entry) (are : AreLinesIn (tiling_of m) f lines) (numbers : List ℕ)
    (marks : List Bool) (found : AreFound (tiling_of m) f w lines numbers marks)
    (i : ℕ) (among : IsAmong i numbers) where
  abbrev t : Tiling
  t = tiling_of m

  abbrev P : Points
  P = points_of m.order

  abbrev T : AcceptedRule P
  T = its_rule m settled

  abbrev F : Address
  F = full t f

  abbrev d : ℕ
  d = length f.digits

  abbrev line : program.Entry
  line = get_or lines i no_line

  abbrev a : Address
  a = address_of line.address

  abbrev tiles : List (TileOf t)
  tiles = tiles_listed_so_far t f lines numbers

  -- ---- the line
  pub place : IsInPlace t f lines i
  place = AllByRecursion-among (IsInPlace t f lines) i numbers among found.are_marked.in_place

  pub is-line : slice_get lines i ≡ Some line
  is-line = at-number lines i place.below

  pub its_line : IsAmong line lines
  its_line = number-among m settled fits L f w fit lines are i line is-line

  pub of-frame : IsTileOf (children t) (whole f) a
  of-frame = line-of m settled fits L f w fit lines are line its_line

  pub tile-among : IsAmong (in_frame P T.rule F a) tiles
  tile-among = IsAmong-map (tile_of_line t f lines) i numbers among

  module _ (e : ℕ) (edge : e < edges_of_line t lines i) (meets : MeetsBox P.real (box_of t w) (edge_of_line t f lines i e)) where
    pub own-edge : IsEdgeInFrame P T F a e
    own-edge = record {
      frame = its_names m settled fits L f w fit lines are;
      tile = line-tile m settled fits L f w fit lines are line its_line;
      edge_exists = edge;
    }

    pub walk-edge : IsEdgeOfWalkOn P (is_refused m.order) T F (box_of t w) (tiles_listed t (entries_of lines)) tiles a e
    walk-edge = record { walk = found.walk; edge = own-edge; among = tile-among; edge_meets = meets }

    -- ---- where it is crossed
    module _ (g : FrameValue) (grows : GrowsTo t f g) (x : PlacedTile) (back : ℕ) (c : IsCrossedTo t f g a line.motion e x back) where
      abbrev b : Address
      b = address_of x.addr

      crossing : IsGrownCrossing P T F d (length g.digits) a e b back
      crossing = grown m settled fits f are.frame g grows a b e back of-frame edge c.only_tile_across c.least

      pub lies : LiesAcross P.real (TileOf t) (growing_frame P (is_refused m.order) T.rule F)
          (line_of P T.rule (in_frame P T.rule F a) e) (in_frame P T.rule F b)
      lies = (L.search.grown T F d (length g.digits) a e b back crossing (is_refused m.order)).0

      pub came : HasCome m settled fits L f w fit lines are g grows x numbers
      came = record {
        of_frame = c.of_frame;
        at_depth = c.at_depth;
        its_motion = c.motion_is ∙ ap (followed P c.glue) place.its_motion
            ∙ sym (L.search.glued T F d (length g.digits) a e b back crossing c.glue c.glues);
        turn_below = c.turn_below;
        in_order = c.in_order;
        beyond = further (L.search.grown T F d (length g.digits) a e b back crossing (is_refused m.order)).1;
        comes = L.step T F (is_refused m.order) (box_of t w) d (tiles_listed t (entries_of lines))
            (listing-on m settled fits L f w fit lines are) tiles a e walk-edge (in_frame P T.rule F b) lies;
      }
        where
          further : {k l n : ℕ} → max k l ≡ n → k < n → k < l
          further h j = omega arith

      pub crossed-over : (later : List ℕ) → IsAmong (in_frame P T.rule F b) (tiles_listed_so_far t f lines later)
          → IsCrossedOver t f w lines later i e
      crossed-over later k met = (in_frame P T.rule F b, lies.edge, k, lies.among, lies.back)
