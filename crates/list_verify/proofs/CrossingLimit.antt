-- An edge of the tile of a line found is on the boundary at depth 64.
use Rattle.std.proofs.Common.{◌≡◌, ℕ, ◌<◌, Bool, List, length, get_or, sym, ap, ◌∙◌, subst, arith}
use Rattle.theory_addresses.specs.Address.{Address}
use Rattle.theory_addresses.specs.Search.{IsAmong}
use Rattle.theory_addresses.proofs.Lists.{AllByRecursion-among}
use Rattle.cyclo_points.specs.Order.{points_of, is_refused}
use Rattle.theory_dissection.specs.Accepted.{AcceptedRule}
use Rattle.theory_frames.specs.Frame.{at_level, frame_tiles, lifted_in}
use Rattle.theory_walks.specs.Ancestors.{full}
use Rattle.theory_walks.specs.Boundary.{IsBoundaryEdge}
use Rattle.theory_walks.specs.Frames.{FrameValue, whole, at_depth, GrowsTo, lifted_at}
use Rattle.theory_walks.proofs.Crossings.{boundary-part}
use Rattle.theory_walks.proofs.InFull.{level-grown, whole-level}
use Rattle.theory_walks.proofs.Walks.{StillFits, later}
use Rattle.listing_text.specs.declared.entry.Entry as program
use Rattle.theory_listings.specs.Walk.{MeetsIn, NoneAcross}
use Rattle.plane_geom.specs.declared.window.Window.{Window}
use Rattle.rule_model.specs.declared.rule.Rule.{Rule}
use Rattle.rule_model.specs.Tiling.{Tiling, tiling_of, children}
use Rattle.theory_substitution.specs.Points.{Points}
use Rattle.tile_place.specs.Crossed.{LiesOnBoundary}
use Rattle.tile_place.proofs.Plane.{IsSettled, its_rule}
use Rattle.tile_shape.specs.declared.address.Address as programmed
use Rattle.tile_shape.specs.Views.{address_of}
use Rattle.theory_windows.specs.FramePatch.{frame_patch, in_frame, line_of}
use Rattle.theory_windows.specs.Outlines.{MeetsBox}
use Rattle.window_cover.specs.Causes.{IsCoverDepthLimit}
use Rattle.window_cover.specs.Windows.{TileOf, box_of, IsWindow}
use Rattle.list_verify.specs.FoundLines.{entries_of, AreLinesIn, no_line, tiles_listed_so_far, AreFound, edge_of_line, edges_of_line}
use Rattle.list_verify.specs.Listing.{tiles_listed}
use Rattle.list_verify.specs.ListLaws.{HasListLaws}
use Rattle.list_verify.specs.Walked.{IsStoppedBy}
use Rattle.list_verify.specs.declared.list_fault.ListFault.TheVariants.{DepthLimit}
use Rattle.list_verify.proofs.Lines.{deep-full, listing-on}
use Rattle.list_verify.proofs.Crossing as cross

module _ (m : Rule) (settled : IsSettled m) (fits : StillFits (children (tiling_of m)))
    (L : HasListLaws (points_of m.order)) (f : FrameValue) (w : Window) (fit : IsWindow w)
    (lines : List program.Entry) (are : AreLinesIn (tiling_of m) f lines) (numbers : List ℕ)
    (marks : List Bool) (found : AreFound (tiling_of m) f w lines numbers marks)
    (i : ℕ) (among : IsAmong i numbers) where
  abbrev t : Tiling
  t = tiling_of m

  abbrev P : Points
  P = points_of m.order

  abbrev T : AcceptedRule P
  T = its_rule m settled

  abbrev F : Address
  F = full t f

  abbrev d : ℕ
  d = length f.digits

  abbrev line : program.Entry
  line = get_or lines i no_line

  abbrev a : Address
  a = address_of line.address

  abbrev tiles : List (TileOf t)
  tiles = tiles_listed_so_far t f lines numbers

  module _ (e : ℕ) (edge : e < edges_of_line t lines i) (meets : MeetsBox P.real (box_of t w) (edge_of_line t f lines i e))
      (g : FrameValue) (grows : GrowsTo t f g) (at_64 : length g.digits ≡ 64) (on : IsBoundaryEdge t (lifted_at t f a 64) e) where
    on_part : (own : ℕ) × (part : ℕ) × LiesOnBoundary t (lifted_in F a) e own part
    on_part = boundary-part m fits f a are.frame (cross.of-frame m settled fits L f w fit lines are numbers marks found i among) settled e edge
        (at_depth t 64 f) (later t f 64 are.frame are.frame.at_most_64 (omega arith)) on

    whole-is : F ≡ whole g
    whole-is = sym (whole-level m settled fits f are.frame) ∙ ap (at_level F) (deep-full m settled fits L f w fit lines are ∙ sym at_64)
        ∙ level-grown m settled fits f are.frame g grows

    own-meets : MeetsIn P.real (TileOf t) (frame_patch P T.rule F) (box_of t w) (in_frame P T.rule F a)
    own-meets = AllByRecursion-among (MeetsIn P.real (TileOf t) (frame_patch P T.rule F) (box_of t w))
        (in_frame P T.rule F a) tiles (cross.tile-among m settled fits L f w fit lines are numbers marks found i among) found.walk.each_meets

    pub limited : (addr : programmed.Address) (its : ℕ) → address_of addr ≡ lifted_at t f a 64 → its ≡ e
        → IsStoppedBy t f g w (entries_of lines) (DepthLimit addr its)
    limited addr its named same = record {
      cause = subst (IsCoverDepthLimit t g w addr) (sym same) (record {
        at_64 = at_64;
        tile = in_frame P T.rule F a;
        its_address = sym named;
        of_frame = subst (λ y. IsAmong (in_frame P T.rule F a) (frame_tiles P T.rule y)) whole-is own-meets.0;
        tile_meets = own-meets.1;
        edge_exists = edge;
        edge_meets = meets;
        on_boundary = on;
      });
      not_all = λ none all. absurd (L.no_fault T F (is_refused m.order) (box_of t w) d
          (tiles_listed t (entries_of lines)) (listing-on m settled fits L f w fit lines are) all.all_listed
          (NoneAcross (line_of P T.rule (in_frame P T.rule F a) e) (in_frame P T.rule F a))
          (L.stop T F (is_refused m.order) (box_of t w) d (tiles_listed t (entries_of lines))
          (listing-on m settled fits L f w fit lines are) tiles a e
          (cross.walk-edge m settled fits L f w fit lines are numbers marks found i among e edge meets)
          (λ u k. absurd (L.last T F a e (cross.own-edge m settled fits L f w fit lines are numbers marks found i among e edge meets)
          on_part.0 on_part.1 on_part.2 (is_refused m.order) u k))));
    }
