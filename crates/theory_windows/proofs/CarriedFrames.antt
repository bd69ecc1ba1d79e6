-- The laws of the frames of an accepted rule, proved over the points of an order.
use Rattle.std.proofs.Common.{ℕ, map, ap₂, sym, ◌∙◌, subst}
use Rattle.theory_ring.specs.Divisor.{DividesWhole}
use Rattle.theory_addresses.proofs.Chains.{chain_of}
use Rattle.theory_substitution.specs.Points.{Points, PointLaws}
use Rattle.theory_substitution.specs.Supertile.{Placed}
use Rattle.theory_edge_to_edge.specs.Contacts.{tables_of}
use Rattle.theory_dissection.specs.Accepted.{AcceptedRule}
use Rattle.theory_dissection.specs.Glue.{TurnsDiffer}
use Rattle.theory_dissection.proofs.Setting.{Setting}
use Rattle.theory_dissection.proofs.AcrossTouches.{same}
use Rattle.theory_dissection.specs.TileEdges.{tile_at}
use Rattle.theory_windows.specs.GrowingPatch.{IsOfDepth}
use Rattle.theory_windows.specs.FramePatch.{growing_frame, frame_polygon, tile_of_ancestor}
use Rattle.theory_windows.specs.FrameLaws as frames
use Rattle.theory_windows.specs.FramePatch as is_frame
use Rattle.theory_windows.proofs.Window.{known_by_outline}
use Rattle.theory_substitution.specs.Plane.{plane_point}
use Rattle.theory_substitution.specs.Motion.{Motion, moved}
use Rattle.theory_substitution.specs.RuleParts.{vertices_of}
use Rattle.theory_windows.specs.FrameSearch as search
use Rattle.theory_windows.specs.FrameWindow as is_window
use Rattle.theory_windows.specs.FrameCover as is_cover
use Rattle.theory_windows.proofs.FrameStart.{frame-start}
use Rattle.theory_windows.proofs.FrameCover as cover
use Rattle.theory_windows.proofs.GrownPolygon.{enough_by_polygon}
use Rattle.theory_windows.proofs.FramePatch as patch
use Rattle.theory_windows.proofs.Lifts as lifts
use Rattle.theory_windows.proofs.MovedTiles as tiles
use Rattle.theory_windows.proofs.Reverses.{reverse-test}
use Rattle.theory_windows.proofs.FrameEdges as across
use Rattle.theory_windows.proofs.FramePolygon.{frame-whole}
use Rattle.theory_windows.proofs.Renamed as names
use Rattle.theory_windows.proofs.GrownCrossings as crossings
use Rattle.theory_windows.proofs.GluedInFrame.{glued-grown}
use Rattle.theory_windows.proofs.FrameHolds.{ancestor-holds, holder-level}
use Rattle.theory_windows.proofs.FrameDrawn as drawn
use Rattle.theory_windows.proofs.FrameWindow as window

module _ (P : Points) (W : PointLaws P) where
  abbrev setting : AcceptedRule P → Setting
  setting T = record { points = P; laws = W; accepted = T }

  pub frame_patch_law : frames.FramePatchLaw P
  frame_patch_law T f fits = patch.frame-dissected (setting T) f (chain_of (tables_of P T.rule) f fits)

  pub lift_law : frames.LiftLaw P
  lift_law T f fits refused n within t = (
    λ h. let u = lifts.lift-named (setting T) f fits refused n within t h in (
      lifts.fine_tile (setting T) f n u.fine,
      lifts.named-fine (setting T) f fits refused n within u.fine
          u.tile u.deep,
      u.is ∙ lifts.named-is (setting T) f fits refused n within u.fine u.deep,
    ),
    λ x. subst (λ (v : Placed P.ring.carrier). IsOfDepth P.real (Placed P.ring.carrier) (growing_frame P refused T.rule f) n v) (sym x.2)
        (lifts.named-depth (setting T) f fits refused n within (tile_of_ancestor f x.0)
        (lifts.fine-named (setting T) f fits refused n within x.0 x.1)),
  )

  pub named_law : frames.NamedLaw P
  named_law T f fits refused n within t = (
    λ h. let u = lifts.lift-named (setting T) f fits refused n within t h in (u.fine, u.tile, u.deep, u.is),
    λ x. lifts.named-depth (setting T) f fits refused n within t (record { fine = x.0; tile = x.1; deep = x.2; is = x.3 }),
  )

  pub lines_law : frames.LinesLaw P
  lines_law T t hk e he = tiles.lines (setting T) (λ z. z) (same (setting T)) t hk e he

  pub numbered_law : frames.NumberedLaw P
  numbered_law T t hk i = tiles.numbered (setting T) (λ z. z) (same (setting T)) t hk i

  pub reverse_test_law : frames.ReverseTestLaw P
  reverse_test_law = reverse-test P W

  pub reverse_law : frames.ReverseLaw P
  reverse_law T f a e h b g x = across.reverse_law (setting T) f a e h b g x

  pub inner_law : frames.InnerLaw P
  inner_law T f a e h refused = (across.inner-across (setting T) f a e h refused, across.across-inner (setting T) f a e h refused)

  pub outside_law : frames.OutsideLaw P
  outside_law T f a e h refused = (
    λ outer. across.outer-boundary (setting T) f a e h refused (λ x. absurd (outer x)),
    λ on x. absurd (across.boundary-outer (setting T) f a e h refused on.0 on.1 on.2 x),
  )

  pub frame_polygon_law : frames.FramePolygonLaw P
  frame_polygon_law T f fits refused n within = frame-whole (setting T) f fits refused n within

  pub frame_enough_law : frames.FrameEnoughLaw P
  frame_enough_law T f fits refused n within box =
      enough_by_polygon P.real W.of_real W.of_order (growing_frame P refused T.rule f) box n
      (frame_polygon P T.rule f n) (frame_polygon_law T f fits refused n within)

  -- ---- of searches
  pub renamed_law : search.RenamedLaw P
  renamed_law T f fits n within a h = (names.lifted-tile (setting T) f fits n within a h, names.renamed (setting T) f fits n within a h)

  pub at_depth_law : search.AtDepthLaw P
  at_depth_law T f fits t i = names.at-depth (setting T) f fits t i

  pub known_law : search.KnownLaw P
  known_law T f fits t u i j kind motion =
      known_by_outline (is_frame.frame_patch P T.rule f) (frame_patch_law T f fits) t u i j
      (ap₂ (λ (k : ℕ) (m : Motion P.ring.carrier). map (λ z. plane_point P (moved P m z))
      (vertices_of T.rule k)) kind motion)

  pub across_law : search.FrameAcrossLaw P
  across_law T f a e h b g x refused =
      crossings.lies-across (setting T) f h.frame refused a e h b g x (across.beside (setting T) f a e h (tile_at P T.rule b) x.beside).tile

  pub grown_crossing_law : search.GrownCrossingLaw P
  grown_crossing_law T f m n a e b g c refused = crossings.grown-crossing (setting T) f c.frame refused m n a e b g c

  pub glued_crossing_law : TurnsDiffer P → search.GluedCrossingLaw P
  glued_crossing_law differ T f m n a e b g c k glues = glued-grown (setting T) differ f m n a e b g c k glues

  pub last_boundary_law : search.LastBoundaryLaw P
  last_boundary_law T f a e h own part on refused u x = absurd (crossings.last-boundary (setting T) f h.frame refused a e h own part on u x)

  pub holder_level_law : search.HolderLevelLaw P
  holder_level_law T f fits t i p h n within = holder-level (setting T) f fits t i p h n within

  pub ancestor_holds_law : search.AncestorHoldsLaw P
  ancestor_holds_law T f n p = ancestor-holds (setting T) f n p

  -- ---- of windows
  pub drawn_law : is_window.DrawnLaw P
  drawn_law T f fits refused n within box tiles deep = (
    drawn.drawn-from (setting T) f fits refused n within box tiles deep,
    drawn.drawn-to (setting T) f fits refused n within box tiles deep,
  )

  pub covers_law : is_window.CoversLaw P
  covers_law T f n box tiles = drawn.covers-lifted (setting T) f n box tiles

  pub least_law : is_window.LeastLaw P
  least_law T f fits refused box m n start = (
    window.least-enough (setting T) f fits refused box m n start,
    window.enough-least (setting T) f fits refused box m n start,
  )

  pub within_law : is_window.WithinLaw P
  within_law T f fits refused box m limit start
      = (
        window.within-limits (setting T) f fits refused box m limit start,
        window.limits-within (setting T) f
            fits refused box m limit start,
      )

  -- ---- of covering
  module _ (divides : DividesWhole P.real) where
    pub frame_start_law : is_cover.FrameStartLaw P
    frame_start_law T f refused centre w h on m n least t i holds = frame-start (setting T) divides f refused centre w h on m n least t i holds

    pub frame_step_law : is_cover.FrameStepLaw P
    frame_step_law T f refused box on s right o n a b g c = cover.frame-step (setting T) divides f refused box on s right o n a b g c

    pub frame_finish_law : is_cover.FrameFinishLaw P
    frame_finish_law T f refused box on s right none within tiles distinct deep members = cover.frame-answer
        (setting T) divides f refused box on s right none within tiles distinct deep members

    pub frame_stop_law : is_cover.FrameStopLaw P
    frame_stop_law T f refused box on s right o i a tile h own part boundary = (
      cover.stop-cause (setting T) divides f refused box on s right o i a tile h own part boundary,
      λ m limit x. absurd (cover.stop-beyond (setting T) divides f refused box on s right o i a tile h own part boundary m limit x),
    )

    pub frame_goes_on_law : is_cover.FrameGoesOnLaw P
    frame_goes_on_law T f refused box on m limit within s right o n a b g c = cover.frame-onward (setting T)
        divides f refused box on s right o n a b g c m limit within

    pub frame_ends_law : is_cover.FrameEndsLaw P
    frame_ends_law T f refused box on m limit start s right none beyond few = cover.frame-ends (setting T)
        divides f refused box on s right none m limit start beyond few
