-- What is asked of one tile has one answer: it is answered or refused, and the cause of one status is no cause of another.
use Rattle.std.proofs.Common.{◌≡◌, ◌⊎◌, inl, inr, ℕ, ◌<◌, ◌≤◌, Bool, List, refl, sym, ap, ap₂, ◌∙◌, arith}
use Rattle.theory_addresses.specs.Address.{Address}
use Rattle.cyclo_points.specs.declared.point.Point.{Point}
use Rattle.cyclo_points.specs.Order.{coefficients}
use Rattle.cyclo_points.proofs.SamePoints.{same_point}
use Rattle.half_glue.specs.declared.glue_fault.GlueFault.{GlueFault}
use Rattle.half_glue.specs.declared.glue_fault.GlueFault.TheVariants as glue
use Rattle.theory_walks.specs.Frames.{FrameValue}
use Rattle.plane_geom.specs.declared.window.Window.{Window}
use Rattle.rule_model.specs.Tiling.{Tiling}
use Rattle.tile_place.specs.Crossed.{edges_of}
use Rattle.tile_place.proofs.Plane.{part_along}
use Rattle.tile_shape.specs.declared.address.Address as program
use Rattle.tile_shape.specs.Views.{address_of}
use Rattle.window_cover.specs.declared.cover_fault.CoverFault.{CoverFault}
use Rattle.window_cover.specs.declared.cover_fault.CoverFault.TheVariants as cover
use Rattle.call_notes.specs.declared.status.Status.{Status}
use Rattle.call_notes.specs.declared.status.Status.TheVariants.{Done, NoEdge, NoVertex, Outside, DepthLimit, CoordLimit, TooManyTiles, StarTooBig}
use Rattle.tile_app.specs.Draw.{PassesLimits, EndsDrawing, EndsGluing, DrawRefuses}
use Rattle.tile_app.specs.Glue.{IsWithinTheirLimits}
use Rattle.tile_app.specs.Neighbour.{IsInside, HasNoEdge, NeighbourRefuses}
use Rattle.tile_app.specs.Place.{CanBePlaced, PlaceRefuses}
use Rattle.tile_app.specs.Star.{HasStar, HasNoVertex, PassesStarLimits, StarRefuses}
use Rattle.call_notes.specs.Status.{IsLimit}
use Rattle.tile_app.specs.Walk.{CanWalk, WalkRefuses, frame_at}
use Rattle.tile_app.proofs.OnePath.{walked_or_halted, halts_once, stopped_halts, lacking_halts}
use Rattle.tile_app.proofs.Requested.{some_is}
use Rattle.tile_app.proofs.SameAddress.{same_program_address}

-- an answer, where all is done, or the cause of a refusal
abbrev pub IsOf : Type 0 → (Status → Type 0) → Status → Type 0
IsOf Has Refuses Done = Has
IsOf Has Refuses status = Refuses status

module _ (t : Tiling) where
  -- ---- `place`
  pub place_once : (a : Address) (s u : Status) → IsOf (CanBePlaced t a) (PlaceRefuses t a) s → IsOf (CanBePlaced t a) (PlaceRefuses t a) u → s ≡ u
  place_once a Done Done h k = refl
  place_once a Done (CoordLimit v) h k = absurd (cc (h, k.first))
  place_once a Done u h k = absurd k
  place_once a (CoordLimit v) Done h k = absurd (cc (k, h.first))
  place_once a (CoordLimit v) (CoordLimit w) h k =
      ap (λ x. CoordLimit x) (same_point v w (h.is_value
      ∙ ap (coefficients t.order) (some_is h.number k.number (sym h.first ∙ k.first)) ∙ sym k.is_value))
  place_once a (CoordLimit v) u h k = absurd k
  place_once a s u h k = absurd h

  -- ---- `neighbour`: an edge exists or doesn't
  edge_or_none : (a : Address) (own edges : ℕ) → own < edges_of t a.kind → HasNoEdge t a own edges → ⊥
  edge_or_none a own edges h k = let g = k.count in let l = k.beyond in omega arith

  pub neighbour_once : (a : Address) (own : ℕ) (s u : Status)
      → IsOf (IsInside t a own) (NeighbourRefuses t a own) s
      → IsOf (IsInside t a own) (NeighbourRefuses t a own) u → s ≡ u
  neighbour_once a own Done Done h k = refl
  neighbour_once a own Done (NoEdge e es) h k = absurd (edge_or_none a own es h.exists k.1)
  neighbour_once a own Done (Outside e i) h k = absurd (h.on_none e (part_along t a own e i k.along))
  neighbour_once a own Done u h k = absurd k
  neighbour_once a own (NoEdge e es) Done h k = absurd (edge_or_none a own es k.exists h.1)
  neighbour_once a own (NoEdge e es) (NoEdge f fs) h k = ap₂ NoEdge (h.0 ∙ sym k.0) (h.1.count ∙ sym k.1.count)
  neighbour_once a own (NoEdge e es) (Outside f i) h k = absurd (edge_or_none a own es k.exists h.1)
  neighbour_once a own (NoEdge e es) u h k = absurd k
  neighbour_once a own (Outside e i) Done h k = absurd (k.on_none e (part_along t a own e i h.along))
  neighbour_once a own (Outside e i) (NoEdge f fs) h k = absurd (edge_or_none a own fs h.exists k.1)
  neighbour_once a own (Outside e i) (Outside f j) h k = let one = h.alone f j k.along in ap₂ Outside (sym one.0) (sym one.1)
  neighbour_once a own (Outside e i) u h k = absurd k
  neighbour_once a own s u h k = absurd h

  -- ---- `walk`: a path can be walked, or halts at one edge
  module _ (f : FrameValue) (path : List ℕ) where
    abbrev top : Address
    top = frame_at t f 64

    abbrev IsWalked : Status → Type 0
    IsWalked s = IsOf (CanWalk t f path) (WalkRefuses t f path) s

    walked_or_lacking : (e es : ℕ) → IsWalked Done → IsWalked (NoEdge e es) → ⊥
    walked_or_lacking e es h k = walked_or_halted t top h.0 k.tile e path (lacking_halts t top e es path k) k.comes h.1

    walked_or_stopped : (b : program.Address) (e : ℕ) → IsWalked Done → IsWalked (DepthLimit b e) → ⊥
    walked_or_stopped b e h k = walked_or_halted t top h.0 (address_of b) e path (stopped_halts t top (address_of b) e path k) k.comes h.1

    lacking_once : (e es g gs : ℕ) → IsWalked (NoEdge e es) → IsWalked (NoEdge g gs) → NoEdge e es ≡ NoEdge g gs
    lacking_once e es g gs h k =
        let one = halts_once t top h.tile k.tile e g path (lacking_halts t top e es path h) (lacking_halts t top g gs path k) h.comes k.comes in
        ap₂ NoEdge one.1 (h.count ∙ ap (λ (a : Address). edges_of t a.kind) one.0 ∙ sym k.count)

    stopped_once : (a b : program.Address) (e g : ℕ) → IsWalked (DepthLimit a e) → IsWalked (DepthLimit b g) → DepthLimit a e ≡ DepthLimit b g
    stopped_once a b e g h k =
        let one = halts_once t top (address_of a) (address_of b) e g path
        (stopped_halts t top (address_of a) e path h) (stopped_halts t top (address_of b) g path k)
        h.comes k.comes in
        ap₂ DepthLimit (same_program_address a b one.0) one.1

    lacking_or_stopped : (b : program.Address) (e es g : ℕ) → IsWalked (NoEdge e es) → IsWalked (DepthLimit b g) → ⊥
    lacking_or_stopped b e es g h k =
        let one = halts_once t top h.tile (address_of b) e g path (lacking_halts t top e es path h)
        (stopped_halts t top (address_of b) g path k) h.comes k.comes in
        let below : g < edges_of t (address_of b).kind = k.edge_exists in
        let count : es ≡ edges_of t (address_of b).kind = h.count ∙ ap (λ (a : Address). edges_of t a.kind) one.0 in
        let beyond : es ≤ e = h.beyond in
        omega (arith, below, count, beyond, one.1)

    pub walk_once : (s u : Status) → IsWalked s → IsWalked u → s ≡ u
    walk_once Done Done h k = refl
    walk_once Done (NoEdge e es) h k = absurd (walked_or_lacking e es h k)
    walk_once Done (DepthLimit a e) h k = absurd (walked_or_stopped a e h k)
    walk_once Done u h k = absurd k
    walk_once (NoEdge e es) Done h k = absurd (walked_or_lacking e es k h)
    walk_once (NoEdge e es) (NoEdge g gs) h k = lacking_once e es g gs h k
    walk_once (NoEdge e es) (DepthLimit a g) h k = absurd (lacking_or_stopped a e es g h k)
    walk_once (NoEdge e es) u h k = absurd k
    walk_once (DepthLimit a e) Done h k = absurd (walked_or_stopped a e k h)
    walk_once (DepthLimit a e) (NoEdge g gs) h k = absurd (lacking_or_stopped a g gs e k h)
    walk_once (DepthLimit a e) (DepthLimit b g) h k = stopped_once a b e g h k
    walk_once (DepthLimit a e) u h k = absurd k
    walk_once s u h k = absurd h

  -- ---- limits of which one comes
  abbrev pub AreLimits : Status → Status → Type 0
  AreLimits s u = (s ≡ u) ⊎ (IsLimit s × IsLimit u)

  -- ---- `draw`: where the drawing or the gluing ends the limits are passed
  module _ (asked : Bool) (f : FrameValue) (w : Window) where
    searching_passes : (fault : CoverFault) → EndsDrawing t f w fault → PassesLimits asked t f w
    searching_passes fault h = λ within. h.beyond within.within

    gluing_passes : (fault : GlueFault) → EndsGluing asked t f w fault → PassesLimits asked t f w
    gluing_passes fault h = λ within. h.beyond
        (within.can_be_glued h.is_asked h.frame h.tiles h.exactly.grown h.exactly.least h.exactly.stand
        h.exactly.drawn)

    either_passes : (fault : CoverFault) (other : GlueFault) → EndsDrawing t f w fault ⊎ EndsGluing asked t f w other → PassesLimits asked t f w
    either_passes fault other (inl h) = searching_passes fault h
    either_passes fault other (inr h) = gluing_passes other h

    depth_passes : (a : program.Address) (e : ℕ) → DrawRefuses asked t f w (DepthLimit a e) → PassesLimits asked t f w
    depth_passes a e h = either_passes (cover.DepthLimit a e) (glue.DepthLimit a e) h

    coord_passes : (v : Point) → DrawRefuses asked t f w (CoordLimit v) → PassesLimits asked t f w
    coord_passes v h = either_passes (cover.CoordLimit v) (glue.CoordLimit v) h

    many_pass : DrawRefuses asked t f w TooManyTiles → PassesLimits asked t f w
    many_pass h = searching_passes cover.TooManyTiles h

    abbrev IsDrawn : Status → Type 0
    IsDrawn s = IsOf (IsWithinTheirLimits asked t f w) (DrawRefuses asked t f w) s

    pub draw_once : (s u : Status) → IsDrawn s → IsDrawn u → AreLimits s u
    draw_once Done Done h k = inl refl
    draw_once Done (DepthLimit a e) h k = absurd (depth_passes a e k h)
    draw_once Done (CoordLimit v) h k = absurd (coord_passes v k h)
    draw_once Done TooManyTiles h k = absurd (many_pass k h)
    draw_once Done u h k = absurd k
    draw_once (DepthLimit a e) Done h k = absurd (depth_passes a e h k)
    draw_once (DepthLimit a e) (DepthLimit b g) h k = inr (tt, tt)
    draw_once (DepthLimit a e) (CoordLimit v) h k = inr (tt, tt)
    draw_once (DepthLimit a e) TooManyTiles h k = inr (tt, tt)
    draw_once (DepthLimit a e) u h k = absurd k
    draw_once (CoordLimit v) Done h k = absurd (coord_passes v h k)
    draw_once (CoordLimit v) (DepthLimit a e) h k = inr (tt, tt)
    draw_once (CoordLimit v) (CoordLimit x) h k = inr (tt, tt)
    draw_once (CoordLimit v) TooManyTiles h k = inr (tt, tt)
    draw_once (CoordLimit v) u h k = absurd k
    draw_once TooManyTiles Done h k = absurd (many_pass h k)
    draw_once TooManyTiles (DepthLimit a e) h k = inr (tt, tt)
    draw_once TooManyTiles (CoordLimit v) h k = inr (tt, tt)
    draw_once TooManyTiles TooManyTiles h k = inl refl
    draw_once TooManyTiles u h k = absurd k
    draw_once s u h k = absurd h

    -- beyond the limits one of them comes
    pub draw_beyond : (s : Status) → IsDrawn s → PassesLimits asked t f w → IsLimit s
    draw_beyond Done h k = absurd (k h)
    draw_beyond (DepthLimit a e) h k = tt
    draw_beyond (CoordLimit v) h k = tt
    draw_beyond TooManyTiles h k = tt
    draw_beyond s h k = absurd h

  -- ---- `star`: a vertex exists or doesn't; it has a star or passes the limits
  module _ (f : FrameValue) (own : ℕ) where
    vertex_or_none : (edges : ℕ) → own < edges_of t f.base.kind → HasNoVertex t f own edges → ⊥
    vertex_or_none edges h k = let g = k.count in let l = k.beyond in omega arith

    abbrev IsTurned : Status → Type 0
    IsTurned s = IsOf (HasStar t f own) (StarRefuses t f own) s

    pub star_once : (s u : Status) → IsTurned s → IsTurned u → AreLimits s u
    star_once Done Done h k = inl refl
    star_once Done (NoVertex e es) h k = absurd (vertex_or_none es h.exists k.1)
    star_once Done (DepthLimit a e) h k = absurd (k.passes.beyond h.within)
    star_once Done StarTooBig h k = absurd (k.passes.beyond h.within)
    star_once Done u h k = absurd k
    star_once (NoVertex e es) Done h k = absurd (vertex_or_none es k.exists h.1)
    star_once (NoVertex e es) (NoVertex g gs) h k = inl (ap₂ NoVertex (h.0 ∙ sym k.0) (h.1.count ∙ sym k.1.count))
    star_once (NoVertex e es) (DepthLimit a g) h k = absurd (vertex_or_none es k.passes.exists h.1)
    star_once (NoVertex e es) StarTooBig h k = absurd (vertex_or_none es k.passes.exists h.1)
    star_once (NoVertex e es) u h k = absurd k
    star_once (DepthLimit a e) Done h k = absurd (h.passes.beyond k.within)
    star_once (DepthLimit a e) (NoVertex g gs) h k = absurd (vertex_or_none gs h.passes.exists k.1)
    star_once (DepthLimit a e) (DepthLimit b g) h k = inr (tt, tt)
    star_once (DepthLimit a e) StarTooBig h k = inr (tt, tt)
    star_once (DepthLimit a e) u h k = absurd k
    star_once StarTooBig Done h k = absurd (h.passes.beyond k.within)
    star_once StarTooBig (NoVertex g gs) h k = absurd (vertex_or_none gs h.passes.exists k.1)
    star_once StarTooBig (DepthLimit b g) h k = inr (tt, tt)
    star_once StarTooBig StarTooBig h k = inl refl
    star_once StarTooBig u h k = absurd k
    star_once s u h k = absurd h

    -- beyond the limits one of them comes
    pub star_beyond : (s : Status) → IsTurned s → PassesStarLimits t f own → IsLimit s
    star_beyond Done h k = absurd (k.beyond h.within)
    star_beyond (NoVertex e es) h k = absurd (vertex_or_none es k.exists h.1)
    star_beyond (DepthLimit a e) h k = tt
    star_beyond StarTooBig h k = tt
    star_beyond s h k = absurd h
