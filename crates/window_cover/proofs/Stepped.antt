-- What a step of the search finds, and how far the frame grows for it.
use Rattle.std.proofs.Common.{◌≡◌, ℕ, Some, slice_get, List, [], ◌∷◌, length, map, refl, sym, ap, ◌∙◌, subst}
use Rattle.cyclo_points.specs.Order.{points_of}
use Rattle.theory_frames.specs.Frame.{lifted_in}
use Rattle.theory_walks.specs.Boundary.{IsBoundaryEdge}
use Rattle.lazy_walk.specs.Crossed.{IsCrossedTo}
use Rattle.theory_walks.specs.Frames.{FrameValue, whole, GrowsTo, lifted_at}
use Rattle.theory_walks.proofs.Lifting.{lifted-later}
use Rattle.theory_walks.proofs.Walks.{StillFits}
use Rattle.rule_model.specs.declared.rule.Rule.{Rule}
use Rattle.rule_model.specs.Tiling.{Tiling, tiling_of, children}
use Rattle.theory_substitution.specs.Points.{Points}
use Rattle.tile_place.specs.declared.placed_tile.PlacedTile.{PlacedTile}
use Rattle.tile_place.proofs.Plane.{IsSettled}
use Rattle.theory_windows.specs.OpenEdges.{NumberedEdge}
use Rattle.theory_windows.specs.Outlines.{PlaneEdge}
use Rattle.theory_windows.specs.PatchWindow.{LiesAcross}
use Rattle.window_cover.specs.declared.open_edge.OpenEdge.{OpenEdge}
use Rattle.window_cover.specs.Admitted.{IsAdmitted, found_as}
use Rattle.window_cover.specs.Found.{Found, address_found, BorderEdge, CoverValue, first_of}
use Rattle.window_cover.specs.Right.{growing, name_of, line_at, numbered, IsRight}
use Rattle.window_cover.specs.SearchLaws.{HasSearchLaws}
use Rattle.window_cover.specs.Stepping.{StepsTo, IsFirstOnBoundary}
use Rattle.window_cover.specs.Windows.{TileOf}
use Rattle.window_cover.specs.Working.{working, state_of, IsWorking}
use Rattle.window_cover.proofs.NextState.{FirstIn, first_edge, lies_across, new_name}
use Rattle.window_cover.proofs.Works.{first-packed, open-are, works}

-- ---- the first open edge
record Placed (border : List BorderEdge) : Type 0 where
  edge : BorderEdge
  rest : List BorderEdge
  is : border ≡ edge ∷ rest

placed-first : (border : List BorderEdge) (first : OpenEdge) → first_of border ≡ Some first → Placed border
placed-first [] first e = absurd (cc e)
placed-first (o ∷ os) first e = record { edge = o; rest = os; is = refl }

heads : {A : Type 0} (x y : A) (xs ys : List A) → x ∷ xs ≡ y ∷ ys → x ≡ y
heads x y xs ys e = cc

some-same : {A : Type 0} (x y : A) → Some x ≡ Some y → x ≡ y
some-same x y e = cc

-- ---- the tile across it
module _ (m : Rule) (settled : IsSettled m) (fits : StillFits (children (tiling_of m)))
    (L : HasSearchLaws (points_of m.order)) (f : FrameValue) (g : FrameValue) (h : GrowsTo (tiling_of m) f g)
    (c : CoverValue) (right : IsRight (tiling_of m) f c) (first : OpenEdge)
    (is_first : first_of c.border ≡ Some first) (x : Found) (at : slice_get c.found first.tile ≡ Some x)
    (tile : PlacedTile) (back : ℕ) (crossed : IsCrossedTo (tiling_of m) f g (address_found x) x.motion first.edge tile back)
    (d : CoverValue) (new : IsAdmitted (tiling_of m) (working c) (working d) tile) where
  abbrev t : Tiling
  t = tiling_of m

  abbrev P : Points
  P = points_of m.order

  work : IsWorking t f (working c)
  work = works t L.open_test f c right

  one : FirstIn t (state_of t f (working c)).open_edges first
  one = first_edge m settled fits L f g h (working c) work first (first-packed c.border ∙ is_first) x at tile back crossed

  front : Placed c.border
  front = placed-first c.border first is_first

  same : one.edge ≡ numbered t front.edge
  same = sym (heads (numbered t front.edge) one.edge (map (numbered t) front.rest) one.rest
      (ap (map (numbered t)) (sym front.is) ∙ open-are t L.open_test f c right ∙ one.is))

  across : LiesAcross P.real (TileOf t) (growing t f) (line_at t front.edge) (name_of t f (found_as tile))
  unfolding one
  across =
      subst (λ (l : PlaneEdge P.real). LiesAcross P.real (TileOf t) (growing t f) l
      (name_of t f (found_as tile))) (ap (λ (n : NumberedEdge P.real). n.line) same)
      (subst (LiesAcross P.real (TileOf t) (growing t f) one.edge.line)
      (sym (new_name m settled fits L f g h (working c) work first (first-packed c.border ∙ is_first) x at
      tile back crossed (working d) new))
      (lies_across m settled fits L f g h (working c) work first (first-packed c.border ∙ is_first) x at tile back crossed))

  pub steps_to : StepsTo t f c d
  steps_to = record {
    same_window = new.same_window;
    first = front.edge;
    rest = front.rest;
    is_first = front.is;
    tile = found_as tile;
    one_more = new.found;
    across = across;
  }

-- ---- how far the frame grows
module _ (t : Tiling) (f g : FrameValue) (h : GrowsTo t f g) (c : CoverValue) (first : OpenEdge)
    (is_first : first_of c.border ≡ Some first) (x : Found) (at : slice_get c.found first.tile ≡ Some x) where
  pub first-inside : (¬ IsBoundaryEdge t (lifted_in (whole g) (address_found x)) first.edge) → ¬ IsFirstOnBoundary t f c (length g.digits)
  first-inside inside b = absurd (inside (subst (λ a. IsBoundaryEdge t a first.edge) (sym (lifted-later t f g (address_found x) h))
      (subst (λ (y : Found). IsBoundaryEdge t (lifted_at t f (address_found y) (length g.digits)) first.edge) its_tile
      (subst (λ (o : OpenEdge). IsBoundaryEdge t (lifted_at t f (address_found b.tile) (length g.digits)) o.edge) its_first b.on_boundary))))
    where
      its_first : b.first ≡ first
      its_first = some-same b.first first (sym b.is_first ∙ is_first)

      its_tile : b.tile ≡ x
      its_tile = some-same b.tile x (sym b.its_tile ∙ ap (λ (o : OpenEdge). slice_get c.found o.tile) its_first ∙ at)

  pub first-outside : (n : ℕ) → IsBoundaryEdge t (lifted_at t f (address_found x) n) first.edge → IsFirstOnBoundary t f c n
  first-outside n on = record { first = first; is_first = is_first; tile = x; its_tile = at; on_boundary = on }
