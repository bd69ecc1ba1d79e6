-- A step of the search over the first open edge: what it answers, of the tile from which it goes and of the tile across.
use Rattle.std.proofs.Common.{◌≡◌, ◌⊎◌, ℕ, ◌<◌, ◌≤◌, List, Some, Result, Err, IsOk, IfErr, OnOk, length, map, slice_get, sym, ap, ◌∙◌, subst, add-one}
use Rattle.std.proofs.lemmas.Result.{on_ok_weaker}
use Rattle.theory_frames.specs.Frame.{IsTileOf, lifted_in}
use Rattle.cyclo_points.specs.declared.point.Point.{Point}
use Rattle.rule_model.specs.declared.rule.Rule.{Rule}
use Rattle.rule_model.specs.Tiling.{Tiling, tiling_of, children}
use Rattle.rule_model.specs.Views.{rule_of}
use Rattle.tile_place.specs.Corners.{AreCorners}
use Rattle.tile_place.specs.Crossed.{edges_of}
use Rattle.tile_place.specs.declared.placed_tile.PlacedTile.{PlacedTile}
use Rattle.tile_shape.specs.declared.address.Address as program
use Rattle.tile_shape.specs.Views.{address_of}
use Rattle.theory_walks.specs.Ancestors.{full}
use Rattle.theory_walks.specs.Boundary.{IsBoundaryEdge}
use Rattle.theory_walks.specs.Frames.{FrameValue, whole, GrowsTo, lifted_at}
use Rattle.theory_walks.proofs.Brought.{Brings}
use Rattle.lazy_walk.specs.Crossed.{IsCrossedTo}
use Rattle.window_cover.specs.declared.cover_fault.CoverFault.{CoverFault}
use Rattle.window_cover.specs.declared.cover_fault.CoverFault.TheVariants.{NoMemory}
use Rattle.window_cover.specs.declared.open_edge.OpenEdge.{OpenEdge}
use Rattle.window_cover.specs.Admitted.{IsAdmitted, IsNotAdmitted, found_as}
use Rattle.window_cover.specs.Border.{first_waiting}
use Rattle.window_cover.specs.Causes.{IsCoverDepthLimit, HasCoverCause}
use Rattle.window_cover.specs.Found.{address_found, CoverValue, first_of}
use Rattle.window_cover.specs.Limits.{IsCoverWithinLimits}
use Rattle.window_cover.specs.NewEdges.{AreNew}
use Rattle.window_cover.specs.Packed.{packed, unpacked}
use Rattle.window_cover.specs.Right.{IsFound, IsRight}
use Rattle.window_cover.specs.SearchLaws.{HasSearchLaws}
use Rattle.window_cover.specs.Stepping.{HasStepped, IsFirstOnBoundary}
use Rattle.window_cover.specs.Windows.{IsLeastForWindow}
use Rattle.window_cover.specs.Working.{working, IsWorking}
use Rattle.window_cover.proofs.FirstEdge.{edge-there}
use Rattle.window_cover.proofs.Names.{its_found}
use Rattle.window_cover.proofs.NextState as next
use Rattle.window_cover.proofs.Outcomes.{on_ok-both}
use Rattle.window_cover.proofs.StepLimits.{not_beyond_next, within_next, cause_next}
use Rattle.window_cover.proofs.StepStops as stops
use Rattle.window_cover.proofs.Stepped as stepped
use Rattle.window_cover.proofs.Works.{first-packed, works, right-of}

-- the first open edge is one of this tile, which was found
pub record IsFrom (m : Rule) (f : FrameValue) (c : CoverValue) (first : OpenEdge) (tile : PlacedTile) : Type 0 where
  pub brings : Brings HasSearchLaws m
  pub right : IsRight (tiling_of m) f c
  pub is_first : first_of c.border ≡ Some first
  pub at : slice_get c.found first.tile ≡ Some (found_as tile)
  pub its_kind : tile.addr.kind ≡ tile.kind

module _ {m : Rule} {f : FrameValue} {c : CoverValue} {first : OpenEdge} {from : PlacedTile} (s : IsFrom m f c first from) where
  abbrev t : Tiling
  t = tiling_of m

  work : IsWorking t f (working c)
  work = works t s.brings.laws.open_test f c s.right

  waits : first_waiting (working c).border ≡ Some first
  waits = first-packed c.border ∙ s.is_first

  named : address_found (found_as from) ≡ address_of from.addr
  named = sym (λ i. record { kind = s.its_kind i; digits = (address_of from.addr).digits })

  pub was_found : IsFound t f (found_as from)
  was_found = its_found m s.brings.settled s.brings.fits s.brings.laws f s.right.frame (working c) work first.tile (found_as from) s.at

  pub of_frame : IsTileOf (children t) (whole f) (address_of from.addr)
  of_frame = subst (IsTileOf (children t) (whole f)) named was_found.of_frame

  pub has_edge : first.edge < edges_of t from.addr.kind
  has_edge = subst (λ n. first.edge < edges_of t n) (sym s.its_kind)
      (edge-there m s.brings.settled s.brings.fits s.brings.laws f (working c) work first waits (found_as from) s.at)

  -- up to the depth to which the frame grows the edge is on the boundary
  pub outside_before : (g : FrameValue) → GrowsTo t f g
      → ((n : ℕ) → length f.digits ≤ n → n < length g.digits → IsBoundaryEdge t (lifted_at t f (address_of from.addr) n) first.edge)
      → (n : ℕ) → length f.digits ≤ n → n < length g.digits → IsFirstOnBoundary t f c n
  outside_before g h before n l k = stepped.first-outside t f g h c first s.is_first (found_as from) s.at n
      (subst (λ a. IsBoundaryEdge t (lifted_at t f a n) first.edge) (sym named) (before n l k))

  -- ---- the edge is on the boundary at depth 64
  module _ (on : IsBoundaryEdge t (lifted_at t f (address_of from.addr) 64) first.edge) where
    on_found : IsBoundaryEdge t (lifted_in (full t f) (address_found (found_as from))) first.edge
    on_found = subst (λ a. IsBoundaryEdge t (lifted_in (full t f) a) first.edge) (sym named) on

    pub none_enough : (f0 : FrameValue) (n : ℕ) → GrowsTo t f0 f → ¬ IsLeastForWindow t f0 c.window n
    none_enough = stops.not_enough m s.brings.settled s.brings.fits s.brings.laws f (working c) work first waits (found_as from) s.at on_found

    pub not_within : (f0 : FrameValue) → GrowsTo t f0 f → ¬ IsCoverWithinLimits t f0 c.window
    not_within = stops.not_within m s.brings.settled s.brings.fits s.brings.laws f (working c) work first waits (found_as from) s.at on_found

    pub at_limit : (g : FrameValue) → GrowsTo t f g → length g.digits ≡ 64 → (addr : program.Address)
        → address_of addr ≡ lifted_at t f (address_of from.addr) 64 → (edge : ℕ) → edge ≡ first.edge
        → IsCoverDepthLimit t g c.window addr edge
    at_limit g h deepest addr is edge same =
        stops.depth_limit m s.brings.settled s.brings.fits s.brings.laws f (working c) work first waits
        (found_as from) s.at on_found g h deepest addr (is ∙ ap (lifted_in (full t f)) (sym named)) edge same

  -- ---- the edge is crossed, to the tile across
  module _ (g : FrameValue) (h : GrowsTo t f g) (tile : PlacedTile) (back : ℕ)
      (crossed : IsCrossedTo t f g (address_of from.addr) from.motion first.edge tile back) where
    over : IsCrossedTo t f g (address_found (found_as from)) from.motion first.edge tile back
    over = subst (λ a. IsCrossedTo t f g a from.motion first.edge tile back) (sym named) crossed

    pub kind_exists : tile.kind < length (rule_of m).kinds
    kind_exists = next.kind_exists m s.brings.settled s.brings.fits s.brings.laws f g h (working c) work first waits
        (found_as from) s.at tile back over

    pub not_beyond : (f0 : FrameValue) (n : ℕ) → GrowsTo t f0 f → IsLeastForWindow t f0 c.window n → length f.digits ≤ n → length g.digits ≤ n
    not_beyond = not_beyond_next m s.brings.settled s.brings.fits s.brings.laws f g h (working c) work first waits
        (found_as from) s.at tile back over

    pub inside : ¬ IsFirstOnBoundary t f c (length g.digits)
    inside = stepped.first-inside t f g h c first s.is_first (found_as from) s.at over.inside

    module _ (before : CoverValue) (same : before ≡ c) where
      pub edges_new : (corners : List Point) → AreCorners t tile.kind tile.motion corners → AreNew corners (working before).border
      edges_new = subst (λ (y : CoverValue). (corners : List Point) → AreCorners t tile.kind tile.motion corners
          → AreNew corners (working y).border) (sym same)
          (next.edges_new m s.brings.settled s.brings.fits s.brings.laws f g h (working c) work first waits (found_as from) s.at tile back over)

      module _ {U : Type 0} (r : Result U CoverFault) where
        -- why it isn't taken in
        module _ (why : IfErr r (IsNotAdmitted t (working before) tile)) where
          own_why : IfErr r (IsNotAdmitted t (working c) tile)
          own_why = subst (λ y. IfErr r (IsNotAdmitted t (working y) tile)) same why

          pub within : (f0 : FrameValue) → GrowsTo t f0 f → IsCoverWithinLimits t f0 c.window → (r ≡ Err NoMemory) ⊎ IsOk r
          within f0 grows limits =
              within_next m s.brings.settled s.brings.fits s.brings.laws f g h (working c) work first waits
              (found_as from) s.at tile back over f0 grows limits r own_why

          pub cause : IfErr r (HasCoverCause t f g c.window)
          cause =
              cause_next m s.brings.settled s.brings.fits s.brings.laws f g h (working c) work first waits
              (found_as from) s.at tile back over r own_why

        -- it is taken in
        module _ (d : CoverValue) (admitted : OnOk r (IsAdmitted t (working before) (working d) tile)) where
          own : OnOk r (IsAdmitted t (working c) (working d) tile)
          own = subst (λ y. OnOk r (IsAdmitted t (working y) (working d) tile)) same admitted

          pub is_next : OnOk r (d.border ≡ map unpacked (map packed d.border)) → OnOk r (HasStepped t f g c d)
          is_next ends = on_ok_weaker r (λ n. record {
            steps_to = stepped.steps_to m s.brings.settled s.brings.fits s.brings.laws f g h c s.right first s.is_first
                (found_as from) s.at tile back over d n.0;
            right = right-of t s.brings.laws.open_test g d n.1
                (next.right-next m s.brings.settled s.brings.fits s.brings.laws f g h (working c) work first waits
                (found_as from) s.at tile back over (working d) n.0);
            one_more = next.one_more m s.brings.settled s.brings.fits s.brings.laws f g h (working c) work first waits
                (found_as from) s.at tile back over (working d) n.0 ∙ add-one (length c.found);
          }) (on_ok-both _ _ r own ends)
