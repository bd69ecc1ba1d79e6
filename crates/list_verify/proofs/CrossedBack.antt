-- The edge that leads back from the tile across is crossed, too.
use Rattle.std.proofs.Common.{◌≡◌, ℕ, ◌<◌, ◌≤◌, Bool, List, length, get_or, slice_get, Some, sym, ap, ◌∙◌, subst, arith}
use Rattle.std.proofs.Math.ListN.{length-map}
use Rattle.theory_addresses.specs.Address.{Address, depth}
use Rattle.theory_addresses.specs.Search.{IsAmong}
use Rattle.theory_addresses.specs.Tables.{child_kinds}
use Rattle.theory_addresses.proofs.Lists.{IsAmong-map}
use Rattle.cyclo_points.specs.Order.{points_of, is_refused}
use Rattle.theory_dissection.specs.Accepted.{AcceptedRule}
use Rattle.theory_dissection.specs.Across.{IsTileAcross}
use Rattle.theory_dissection.specs.TileEdges.{tile_at}
use Rattle.theory_dissection.proofs.Join.{across-back}
use Rattle.theory_edge_to_edge.specs.Contacts.{tables_of}
use Rattle.theory_frames.specs.Frame.{at_level, IsTileOf, lifted_in}
use Rattle.theory_walks.specs.Ancestors.{full}
use Rattle.lazy_walk.specs.Crossed.{IsCrossedTo}
use Rattle.theory_walks.specs.Frames.{FrameValue, whole, GrowsTo}
use Rattle.theory_walks.proofs.InFull.{level-grown, by_level}
use Rattle.theory_walks.proofs.Lifting.{IsTileOf-later}
use Rattle.theory_walks.proofs.Walks.{StillFits, later}
use Rattle.listing_text.specs.declared.entry.Entry as program
use Rattle.plane_geom.specs.declared.window.Window.{Window}
use Rattle.rule_model.specs.declared.rule.Rule.{Rule}
use Rattle.rule_model.specs.Tiling.{Tiling, tiling_of, children}
use Rattle.rule_model.specs.Views.{rule_of}
use Rattle.theory_substitution.specs.Points.{Points}
use Rattle.tile_place.specs.declared.placed_tile.PlacedTile.{PlacedTile}
use Rattle.tile_place.proofs.Plane.{IsSettled, its_rule}
use Rattle.tile_shape.specs.Views.{address_of}
use Rattle.theory_windows.specs.FramePatch.{frame_patch, in_frame, line_of}
use Rattle.theory_windows.specs.FrameSearch.{IsGrownCrossing}
use Rattle.theory_windows.specs.Outlines.{MeetsBox}
use Rattle.theory_windows.specs.Patch.{HasAcross}
use Rattle.theory_windows.proofs.Renamed.{lifted-tile}
use Rattle.window_cover.specs.Windows.{TileOf, box_of, IsWindow}
use Rattle.list_verify.specs.FoundLines.{AreLinesIn, no_line, tile_of_line, tiles_listed_so_far, AreFound, edge_of_line, edges_of_line, IsCrossedOver}
use Rattle.list_verify.specs.ListLaws.{HasListLaws}
use Rattle.window_cover.proofs.FrameNames.{lifted-self}
use Rattle.list_verify.proofs.Lines.{its_names, deep-full, tile-is}
use Rattle.list_verify.proofs.Crossing as cross

module _ (m : Rule) (settled : IsSettled m) (fits : StillFits (children (tiling_of m)))
    (L : HasListLaws (points_of m.order)) (f : FrameValue) (w : Window) (fit : IsWindow w)
    (lines : List program.Entry) (are : AreLinesIn (tiling_of m) f lines) (numbers : List ℕ)
    (marks : List Bool) (found : AreFound (tiling_of m) f w lines numbers marks)
    (i : ℕ) (among : IsAmong i numbers) where
  abbrev t : Tiling
  t = tiling_of m

  abbrev P : Points
  P = points_of m.order

  abbrev T : AcceptedRule P
  T = its_rule m settled

  abbrev F : Address
  F = full t f

  abbrev line : program.Entry
  line = get_or lines i no_line

  abbrev a : Address
  a = address_of line.address

  module _ (e : ℕ) (edge : e < edges_of_line t lines i) (meets : MeetsBox P.real (box_of t w) (edge_of_line t f lines i e))
      (g : FrameValue) (grows : GrowsTo t f g) (x : PlacedTile) (back : ℕ) (c : IsCrossedTo t f g a line.motion e x back) where
    abbrev b : Address
    b = address_of x.addr

    abbrev n : ℕ
    n = length g.digits

    abbrev own : Address
    own = lifted_in (at_level F n) a

    its_depth : n ≤ depth F
    its_depth = let k = deep-full m settled fits L f w fit lines are in let h = grows.is_frame.at_most_64 in omega arith

    own-tile : IsTileOf (child_kinds (tables_of P T.rule)) (at_level F n) a
    own-tile = by_level m settled fits f are.frame g grows a
        (IsTileOf-later t f g a grows are.frame (cross.of-frame m settled fits L f w fit lines are numbers marks found i among))

    across-own : IsTileAcross P T.rule (tile_at P T.rule b) back (tile_at P T.rule own) e
    across-own = (across-back (record { points = P; laws = L.search.points; accepted = T }) own e (tile_at P T.rule b) back
        (lifted-tile (record { points = P; laws = L.search.points; accepted = T }) F
        (its_names m settled fits L f w fit lines are) n its_depth a own-tile).fits edge
        (subst (λ y. IsTileAcross P T.rule (tile_at P T.rule (lifted_in y a)) e (tile_at P T.rule b) back)
        (sym (level-grown m settled fits f are.frame g grows)) c.only_tile_across.across)).across

    back-crossing : IsGrownCrossing P T F n n b back own e
    back-crossing = record {
      frame = its_names m settled fits L f w fit lines are;
      not_below = same-below n;
      within = its_depth;
      tile = by_level m settled fits f are.frame g grows b c.of_frame;
      edge_exists = c.only_tile_across.across.edge_exists;
      across = subst (λ y. IsTileAcross P T.rule (tile_at P T.rule y) back (tile_at P T.rule own) e)
          (sym (ap (λ y. lifted_in y b) (level-grown m settled fits f are.frame g grows) ∙ lifted-self (whole g) b c.at_depth)) across-own;
      least = λ k l j. absurd (not-between n k l j);
    }
      where
        same-below : (k : ℕ) → k ≤ k
        same-below k = omega arith

        not-between : (n k : ℕ) → n ≤ k → k < n → ⊥
        not-between n k l j = omega arith

    pub back-below : back < 12
    back-below = below c.only_tile_across.across.edge_exists
        (settled.usable.numbered.at_most_12_edges b.kind (subst (λ j. b.kind < j) (length-map (rule_of m).kinds _) c.of_frame.fits.kind_exists))
      where
        below : {i j k : ℕ} → i < j → j ≤ k → i < k
        below h l = omega arith

    pub crossed-back : (later : List ℕ) → IsAmong i later → (j : ℕ) (line : program.Entry)
        → slice_get lines j ≡ Some line → address_of line.address ≡ b
        → IsCrossedOver t f w lines later j back
    crossed-back later k j line at named met =
        let lies' = (L.search.grown T F n n b back own e back-crossing (is_refused m.order)).0 in
        let name : in_frame P T.rule F own ≡ in_frame P T.rule F a
        = (L.search.renamed T F (its_names m settled fits L f w fit lines are) n its_depth a
        own-tile).1 in
        let its : tile_of_line t f lines j ≡ in_frame P T.rule F b = tile-is m settled fits L f w fit lines
        are j line at ∙ ap (in_frame P T.rule F) named in
        subst (λ (y : TileOf t). HasAcross P.real (TileOf t) (frame_patch P T.rule F)
        (tiles_listed_so_far t f lines later) (line_of P T.rule y back)) (sym its) (
          in_frame P T.rule F own,
          lies'.edge,
          subst
              (λ (y : TileOf t). IsAmong y (tiles_listed_so_far t f lines later)) (sym name)
              (IsAmong-map (tile_of_line t f lines) i later k),
          lies'.among,
          lies'.back,
        )
