-- Tiles found, by the names that they have at depth 64, and crossings of their open edges.
use Rattle.std.proofs.Common.{◌≡◌, ℕ, ◌<◌, List, length, map, Some, slice_get, sym, ap, ◌∙◌, subst, arith}
use Rattle.std.proofs.Math.ListN.{length-map}
use Rattle.theory_addresses.specs.Address.{Address, depth}
use Rattle.theory_addresses.specs.Search.{IsAmong}
use Rattle.theory_addresses.specs.Tables.{child_kinds}
use Rattle.theory_addresses.proofs.Lists.{AllByRecursion-among}
use Rattle.theory_addresses.proofs.Ranges.{place-among, slice_get-image, BelowAt, below-at}
use Rattle.cyclo_points.specs.Order.{NumberOf, points_of, is_refused}
use Rattle.cyclo_points.specs.Motion.{motion_in}
use Rattle.theory_dissection.specs.Accepted.{AcceptedRule, NamesTile}
use Rattle.theory_dissection.specs.Polygons.{tile_polygon}
use Rattle.theory_edge_to_edge.specs.Contacts.{tables_of}
use Rattle.theory_frames.specs.Frame.{frame_tiles, IsTileOf, lifted_in}
use Rattle.theory_walks.specs.Ancestors.{full}
use Rattle.theory_walks.specs.Frames.{FrameValue, whole, IsFrameOf}
use Rattle.theory_walks.proofs.InFull.{names, tile-full, whole-level}
use Rattle.theory_walks.proofs.Walks.{StillFits}
use Rattle.rule_model.specs.declared.rule.Rule.{Rule}
use Rattle.rule_model.specs.Tiling.{Tiling, tiling_of, children}
use Rattle.theory_substitution.specs.Motion.{Motion}
use Rattle.theory_substitution.specs.Points.{Points}
use Rattle.theory_substitution.specs.RuleParts.{edge_count}
use Rattle.theory_substitution.specs.Supertile.{Placed}
use Rattle.tile_place.proofs.Plane.{IsSettled, its_rule}
use Rattle.theory_windows.specs.FrameCover.{IsWindowOn}
use Rattle.theory_windows.specs.FramePatch.{in_frame, line_of}
use Rattle.theory_windows.specs.OpenEdges.{NumberedEdge}
use Rattle.theory_windows.specs.Outlines.{edges}
use Rattle.window_cover.specs.Found.{Found, address_found}
use Rattle.window_cover.specs.Right.{name_of, IsFound}
use Rattle.window_cover.specs.SearchLaws.{HasSearchLaws}
use Rattle.window_cover.specs.Windows.{box_of}
use Rattle.window_cover.specs.Working.{Working, state_of, IsWorking}
use Rattle.window_cover.proofs.Distinct.{some_one}
use Rattle.window_cover.proofs.FrameNames.{lifted-self}
use Rattle.window_cover.proofs.NewOpen.{outline-edges}

module _ (m : Rule) (settled : IsSettled m) (fits : StillFits (children (tiling_of m)))
    (L : HasSearchLaws (points_of m.order)) (f : FrameValue) (is : IsFrameOf (tiling_of m) f) where
  abbrev t : Tiling
  t = tiling_of m

  abbrev P : Points
  P = points_of m.order

  abbrev T : AcceptedRule P
  T = its_rule m settled

  abbrev F : Address
  F = full t f

  abbrev kinds : List (List ℕ)
  kinds = child_kinds (tables_of P T.rule)

  its-names : NamesTile P T.rule F
  its-names = names m settled fits f is

  -- a tile of the frame by its own address and the motion that stands beside it
  pub name-is : (a : Address) (g : Motion (NumberOf m.order)) → IsTileOf (children t) (whole f) a
      → IsAmong (record { address = lifted_in F a; motion = g }) (frame_tiles P T.rule F)
      → ◌≡◌ {A = Placed (NumberOf m.order)} (record { address = lifted_in F a; motion = g }) (in_frame P T.rule F a)
  name-is a g of among =
      let x : Placed (NumberOf m.order) = record { address = lifted_in F a; motion = g } in
      let at = (L.named T F its-names (is_refused m.order) (depth F) (omega arith) x).0 (among, L.at_depth T F its-names x among) in
      let own : lifted_in F a ≡ at.0 = ap (λ (y : Placed (NumberOf m.order)). y.address) at.3 ∙ lifted-self F at.0 at.2 in
      let again = (L.renamed T F its-names (depth F) (omega arith) a
      (subst (λ y. IsTileOf kinds y a) (sym (whole-level m settled fits f is))
      (tile-full m settled fits f is a of))).1 in
      at.3 ∙ ap (in_frame P T.rule F) (sym own ∙ ap (λ y. lifted_in y a) (sym (whole-level m settled fits f is))) ∙ again

  module _ (c : Working) (right : IsWorking t f c) where
    pub window-on : IsWindowOn P T F (box_of t c.window)
    window-on = record { frame = its-names; wide = omega (arith, right.window.some_width); high = omega (arith, right.window.some_height) }

    pub its_found : (i : ℕ) (x : Found) → slice_get c.found i ≡ Some x → IsFound t f x
    its_found i x at = AllByRecursion-among (IsFound t f) x c.found (place-among x c.found i at) right.found

    -- the name of a tile found of a number
    pub found-at : (i : ℕ) (x : Found) → slice_get c.found i ≡ Some x
        → slice_get (state_of t f c).found i ≡ Some (in_frame P T.rule F (address_found x))
    found-at i x at =
        let its = slice_get-image (name_of t f) x c.found i at in
        its ∙ ap (λ y. Some y) (name-is (address_found x) (motion_in m.order x.motion) (its_found i x at).of_frame
        (AllByRecursion-among (λ (y : Placed (NumberOf m.order)). IsAmong y (frame_tiles P T.rule F))
        (name_of t f x) (state_of t f c).found (place-among (name_of t f x) (state_of t f c).found i its)
        right.state.of_patch))

    kind-exists : (x : Found) → IsFound t f x → x.kind < length T.rule.kinds
    kind-exists x found = subst (λ n. x.kind < n) (length-map T.rule.kinds _) found.of_frame.fits.kind_exists

    -- an open edge is one of its tile
    edge-below : (o : NumberedEdge P.real) → IsAmong o (state_of t f c).open_edges → (x : Found) → slice_get c.found o.tile ≡ Some x
        → BelowAt (line_of P T.rule (name_of t f x)) (edge_count T.rule x.kind) o.edge o.line
    edge-below o among x at =
        let names_of = (state_of t f c).found in
        let outline = λ (y : Placed (NumberOf m.order)). tile_polygon P T.rule (λ z. z) y in
        let it = (L.open_numbers (box_of t c.window) (map outline names_of) o among).0 in
        let its = slice_get-image outline (name_of t f x) names_of o.tile (slice_get-image (name_of t f) x c.found o.tile at) in
        let polygon : it.polygon ≡ outline (name_of t f x) = some_one (sym it.tile_at ∙ its) in
        below-at (line_of P T.rule (name_of t f x)) (edge_count T.rule x.kind) o.edge o.line
        (ap (λ es. slice_get es o.edge) (sym (outline-edges P T L.numbered (name_of t f x)
        (kind-exists x (its_found o.tile x at))) ∙ ap edges (sym polygon)) ∙ it.edge_at)

    pub edge-exists : (o : NumberedEdge P.real) → IsAmong o (state_of t f c).open_edges → (x : Found)
        → slice_get c.found o.tile ≡ Some x → o.edge < edge_count T.rule x.kind
    edge-exists o among x at = (edge-below o among x at).in_range

    pub name-at : (i : ℕ) (x : Found) → slice_get c.found i ≡ Some x → name_of t f x ≡ in_frame P T.rule F (address_found x)
    name-at i x at = some_one (sym (slice_get-image (name_of t f) x c.found i at) ∙ found-at i x at)

    pub line-is : (o : NumberedEdge P.real) → IsAmong o (state_of t f c).open_edges → (x : Found)
        → slice_get c.found o.tile ≡ Some x → line_of P T.rule (in_frame P T.rule F (address_found x))
        o.edge ≡ o.line
    line-is o among x at = ap (λ y. line_of P T.rule y o.edge) (sym (name-at o.tile x at)) ∙ sym (edge-below o among x at).is
