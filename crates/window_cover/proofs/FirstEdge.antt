-- The first open edge is one of the kind of its tile.
use Rattle.std.proofs.Common.{◌≡◌, ℕ, zero, suc, ◌<◌, inl, Some, List, [], ◌∷◌, length, map, slice_get, refl, sym, ◌∙◌, subst, arith}
use Rattle.std.proofs.Math.ListN.{length-map}
use Rattle.theory_dissection.specs.Polygons.{tile_polygon}
use Rattle.window_cover.specs.Windows.{box_of}
use Rattle.theory_addresses.specs.Search.{IsAmong}
use Rattle.cyclo_points.specs.Order.{points_of}
use Rattle.theory_walks.specs.Frames.{FrameValue}
use Rattle.theory_walks.proofs.Walks.{StillFits}
use Rattle.rule_model.specs.declared.rule.Rule.{Rule}
use Rattle.rule_model.specs.Tiling.{tiling_of, children}
use Rattle.rule_model.specs.Views.{rule_of}
use Rattle.tile_place.specs.Crossed.{edges_of}
use Rattle.tile_place.proofs.Plane.{IsSettled}
use Rattle.window_cover.specs.declared.open_edge.OpenEdge.{OpenEdge}
use Rattle.window_cover.specs.Border.{first_waiting}
use Rattle.window_cover.specs.Found.{Found}
use Rattle.window_cover.specs.SearchLaws.{HasSearchLaws}
use Rattle.window_cover.specs.Working.{Working, state_of, IsWorking}
use Rattle.window_cover.proofs.Names.{edge-exists}
use Rattle.window_cover.proofs.NextState.{first-in}

pub edge-there : (m : Rule) (settled : IsSettled m) (fits : StillFits (children (tiling_of m)))
    (L : HasSearchLaws (points_of m.order)) (f : FrameValue) (c : Working)
    (right : IsWorking (tiling_of m) f c)
    (first : OpenEdge) → first_waiting c.border ≡ Some first → (x : Found)
    → slice_get c.found first.tile ≡ Some x → first.edge < edges_of (tiling_of m) x.kind
edge-there m settled fits L f c right first is_first x at =
    let t = tiling_of m in
    let one = first-in t c.border (state_of t f c).open_edges first right.border is_first in
    let among : IsAmong one.edge (state_of t f c).open_edges = subst (λ es. IsAmong one.edge es) (sym one.is) (inl refl) in
    let below = edge-exists m settled fits L f right.frame c right one.edge among x (subst (λ i. slice_get c.found i ≡ Some x) one.same_tile at) in
    subst (λ e. e < edges_of t x.kind) (sym one.same_edge) below

slice_get-within : {A : Type 0} (xs : List A) (i : ℕ) (y : A) → slice_get xs i ≡ Some y → i < length xs
slice_get-within [] i y h = cc
slice_get-within (z ∷ zs) zero y h = omega arith
slice_get-within (z ∷ zs) (suc i) y h = let r = slice_get-within zs i y h in omega (arith, r)

-- the first open edge is of a tile found
pub tile-there : (m : Rule) (L : HasSearchLaws (points_of m.order)) (f : FrameValue) (c : Working) (right : IsWorking (tiling_of m) f c)
    (first : OpenEdge) → first_waiting c.border ≡ Some first → first.tile < length c.found
tile-there m L f c right first is_first =
    let t = tiling_of m in
    let one = first-in t c.border (state_of t f c).open_edges first right.border is_first in
    let among : IsAmong one.edge (state_of t f c).open_edges = subst (λ es. IsAmong one.edge es) (sym one.is) (inl refl) in
    let it = (L.open_numbers (box_of t c.window)
    (map (λ y. tile_polygon (points_of m.order) (rule_of m) (λ z. z) y) (state_of t f c).found) one.edge
    among).0 in
    let below = slice_get-within (map (λ y. tile_polygon (points_of m.order) (rule_of m) (λ z. z) y)
    (state_of t f c).found) one.edge.tile it.polygon it.tile_at in
    let many : length (map (λ y. tile_polygon (points_of m.order) (rule_of m) (λ z. z) y)
    (state_of t f c).found) ≡ length c.found = length-map (state_of t f c).found _
    ∙ length-map c.found _ in
    omega (arith, below, many, one.same_tile)
