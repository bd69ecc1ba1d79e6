-- What a step of the search says of the limits: the depth of the frame, and why the step is refused.
use Rattle.std.proofs.Common.{◌≡◌, ◌⊎◌, inl, inr, ℕ, ◌+◌, ◌<◌, ◌≤◌, true, false, Result, Ok, Err, IfErr, Some, slice_get, List, [], ◌∷◌, ◌++◌, length, map, refl, sym, ap, ◌∙◌, subst, arith, length-append}
use Rattle.std.specs.List.{AllByRecursion}
use Rattle.std.specs.Result.{IsOk}
use Rattle.std.proofs.Math.ListN.{length-map}
use Rattle.theory_addresses.specs.Address.{Address, depth}
use Rattle.theory_addresses.specs.Search.{IsAmong}
use Rattle.theory_addresses.proofs.Lists.{AllByRecursion-among, AllByRecursion-append, AllByRecursion-from, IsAmong-map}
use Rattle.cyclo_points.specs.declared.point.Point.{Point}
use Rattle.cyclo_points.specs.Order.{points_of, is_refused}
use Rattle.cyclo_points.specs.Point.{point_in, IsOf}
use Rattle.theory_frames.specs.Frame.{frame_tiles}
use Rattle.theory_walks.specs.Ancestors.{full}
use Rattle.theory_walks.specs.Frames.{FrameValue, GrowsTo}
use Rattle.theory_walks.proofs.Ancestors.{full-later}
use Rattle.theory_walks.proofs.Walks.{StillFits}
use Rattle.rule_model.specs.declared.rule.Rule.{Rule}
use Rattle.rule_model.specs.Tiling.{Tiling, tiling_of, children}
use Rattle.theory_substitution.specs.Points.{Points}
use Rattle.theory_dissection.specs.Accepted.{AcceptedRule}
use Rattle.tile_place.specs.declared.placed_tile.PlacedTile.{PlacedTile}
use Rattle.tile_place.proofs.Plane.{IsSettled, its_rule}
use Rattle.tile_shape.specs.Views.{address_of}
use Rattle.theory_windows.specs.Distinct.{AreDistinct}
use Rattle.theory_windows.specs.EnoughDepth.{IsNotBeyond}
use Rattle.theory_windows.specs.FramePatch.{level_in, tile_of_ancestor, in_frame}
use Rattle.theory_windows.specs.FrameWindow.{IsLeastDepth, IsWindowWithin}
use Rattle.theory_windows.specs.GrowingPatch.{IsOfDepth}
use Rattle.theory_windows.specs.Meeting.{PolygonMeetsBox}
use Rattle.theory_windows.specs.SearchState.{SearchState}
use Rattle.theory_windows.proofs.Places.{distinct-unmap}
use Rattle.window_cover.specs.declared.cover_fault.CoverFault.{CoverFault}
use Rattle.window_cover.specs.declared.cover_fault.CoverFault.TheVariants.{DepthLimit, CoordLimit, TooManyTiles, NoMemory}
use Rattle.window_cover.specs.declared.open_edge.OpenEdge.{OpenEdge}
use Rattle.window_cover.specs.Admitted.{IsNotAdmitted}
use Rattle.window_cover.specs.Border.{first_waiting}
use Rattle.window_cover.specs.Causes.{IsRefusedShift, AreTooMany, HasCoverCause}
use Rattle.lazy_walk.specs.Crossed.{IsCrossedTo}
use Rattle.window_cover.specs.Found.{Found, address_found}
use Rattle.window_cover.specs.Limits.{IsCoverWithinLimits}
use Rattle.theory_windows.specs.Limits.{most_tiles}
use Rattle.window_cover.specs.Right.{growing}
use Rattle.window_cover.specs.SearchLaws.{HasSearchLaws}
use Rattle.window_cover.specs.Windows.{TileOf, box_of, polygon_of, MeetsWindow, IsOfFrame, IsLeastForWindow}
use Rattle.window_cover.specs.Working.{Working, state_of, IsWorking}
use Rattle.theory_walks.proofs.InFull.{names, deep, level-grown}
use Rattle.window_cover.proofs.Names.{window-on}
use Rattle.window_cover.proofs.NextState.{first_edge, opening, step, placed, lies_across}

distinct-more : {A : Type 0} (xs : List A) (y : A) → AreDistinct xs → (¬ IsAmong y xs) → AreDistinct (xs ++ y ∷ [])
distinct-more [] y d n = ((λ i. i), tt)
distinct-more {A} (x ∷ xs) y d n = (here, distinct-more xs y d.1 (λ i. n (inr i)))
  where
    at : (zs : List A) → IsAmong x (zs ++ y ∷ []) → IsAmong x zs ⊎ (x ≡ y)
    at [] (inl e) = inr e
    at [] (inr i) = absurd i
    at (z ∷ zs) (inl e) = inl (inl e)
    at (z ∷ zs) (inr i) = elim (at zs i) [ inl j ↦ inl (inr j) | inr e ↦ inr e ]

    here : ¬ IsAmong x (xs ++ y ∷ [])
    here i = elim (at xs i) [ inl j ↦ d.0 j | inr e ↦ n (inl (sym e)) ]

module _ (m : Rule) (settled : IsSettled m) (fits : StillFits (children (tiling_of m)))
    (L : HasSearchLaws (points_of m.order)) (f : FrameValue) (g : FrameValue) (h : GrowsTo (tiling_of m) f g)
    (c : Working) (right : IsWorking (tiling_of m) f c) where
  abbrev t : Tiling
  t = tiling_of m

  abbrev P : Points
  P = points_of m.order

  abbrev T : AcceptedRule P
  T = its_rule m settled

  abbrev F : Address
  F = full t f

  abbrev s : SearchState P.real (TileOf t)
  s = state_of t f c

  grown_within : length g.digits ≤ depth F
  grown_within = let d = deep m settled fits f right.frame in omega (arith, d, h.is_frame.at_most_64)

  -- a tile that meets the window, as it is in the frame
  record Fine (u : TileOf t) : Type 0 where
    fine : TileOf t
    of_frame : IsOfFrame t g fine
    meets : MeetsWindow t c.window fine
    is : u ≡ tile_of_ancestor F fine

  fine-of : (u : TileOf t) → IsOfDepth P.real (TileOf t) (growing t f) (length g.digits) u
      → PolygonMeetsBox P.real (box_of t c.window) (polygon_of t u) → Fine u
  fine-of u of meets =
      let at = (L.lifted T F (names m settled fits f right.frame) (is_refused m.order) (length g.digits) grown_within u).0 of in
      record {
        fine = at.0;
        of_frame = subst (λ y. IsAmong at.0 (frame_tiles P T.rule y)) (level-grown m settled fits f right.frame g h) at.1;
        meets = subst (λ y. PolygonMeetsBox P.real (box_of t c.window) (polygon_of t y)) at.2 meets;
        is = at.2;
      }

  record Fines (us : List (TileOf t)) : Type 0 where
    tiles : List (TileOf t)
    lifts : map (tile_of_ancestor F) tiles ≡ us
    each : AllByRecursion (λ x. IsOfFrame t g x × MeetsWindow t c.window x) tiles

  fines-of : (us : List (TileOf t)) → AllByRecursion Fine us → Fines us
  fines-of [] all = record { tiles = []; lifts = refl; each = tt }
  fines-of (u ∷ us) all =
      let more = fines-of us all.1 in
      let one : Fine u = all.0 in
      record {
        tiles = one.fine ∷ more.tiles;
        lifts = ap (λ y. y ∷ map (tile_of_ancestor F) more.tiles) (sym one.is) ∙ ap (λ ys. u ∷ ys) more.lifts;
        each = ((one.of_frame, one.meets), more.each);
      }

  module _ (first : OpenEdge) (is_first : first_waiting c.border ≡ Some first) (x : Found) (at : slice_get c.found first.tile ≡ Some x)
      (tile : PlacedTile) (back : ℕ) (crossed : IsCrossedTo (tiling_of m) f g (address_found x) x.motion first.edge tile back) where
    abbrev u : TileOf t
    u = in_frame P T.rule F (address_of tile.addr)

    pub not_beyond_next : (f0 : FrameValue) (n : ℕ) → GrowsTo t f0 f → IsLeastForWindow t f0 c.window n → length f.digits ≤ n → length g.digits ≤ n
    not_beyond_next f0 n grows enough below =
        let same_full : full t f ≡ full t f0 = full-later t f0 f grows in
        let d = deep m settled fits f right.frame in
        let one = step m settled fits L f g h c right first is_first x at tile back crossed in
        let least = (L.least T F (names m settled fits f right.frame) (is_refused m.order) (box_of t c.window)
        (length f0.digits) n (omega (arith, d, grows.no_shallower, right.frame.at_most_64))).0
        (subst (λ y. IsLeastDepth P T.rule y (box_of t c.window) (length f0.digits) n) (sym same_full) enough) in
        let here : IsNotBeyond P.real (TileOf t) (growing t f) (box_of t c.window) s.depth s.depth = record
        { not_below = omega arith; not_beyond = λ k l e. l } in
        let beyond = (one.0.not_beyond s.depth here).not_beyond n below least.enough in
        subst (λ k. k ≤ n) one.1 beyond

    pub within_next : (f0 : FrameValue) → GrowsTo t f0 f → IsCoverWithinLimits t f0 c.window
        → {U : Type 0} (r : Result U CoverFault) → IfErr r (IsNotAdmitted t c tile) → (r ≡ Err NoMemory)
        ⊎ IsOk r
    within_next f0 grows within r why =
        let same_full : full t f ≡ full t f0 = full-later t f0 f grows in
        let on = L.onward T F (is_refused m.order) (box_of t c.window)
        (window-on m settled fits L f right.frame c right) (length f0.digits) most_tiles
        (subst (λ y. IsWindowWithin P (is_refused m.order) T.rule y (box_of t c.window) (length f0.digits)
        most_tiles) (sym same_full) within.drawn_within)
        s right.state (first_edge m settled fits L f g h c right first is_first x at tile back crossed).edge
        (length g.digits) (address_found x) (address_of tile.addr)
        back (opening m settled fits L f g h c right first is_first x at tile back crossed) in
        let kept : is_refused m.order (point_in m.order tile.motion.shift) ≡ false = ap
        (λ k. is_refused m.order k.shift) (placed m settled fits L f g h c right first is_first x at tile
        back crossed) ∙ on.0 in
        let room : length c.found < most_tiles = subst (λ n. n < most_tiles) (length-map c.found _) on.1 in
        at_result r why kept room
      where
        at_result : {U : Type 0} (r : Result U CoverFault) → IfErr r (IsNotAdmitted t c tile)
            → is_refused m.order (point_in m.order tile.motion.shift) ≡ false → length c.found < most_tiles
            → (r ≡ Err NoMemory) ⊎ IsOk r
        at_result (Ok y) why kept room = inr refl
        at_result (Err (DepthLimit addr edge)) why kept room = absurd why
        at_result (Err (CoordLimit value)) why kept room = let k : true ≡ false = sym why.1 ∙ kept in cc
        at_result (Err TooManyTiles) why kept room = absurd (omega (arith, why.0, room))
        at_result (Err NoMemory) why kept room = inl refl

    own_depth : IsOfDepth P.real (TileOf t) (growing t f) (length g.digits) u
    own_depth =
        let one = step m settled fits L f g h c right first is_first x at tile back crossed in
        ((lies_across m settled fits L f g h c right first is_first x at tile back crossed).of_patch, omega (arith, one.1))

    own_fine : Fine u
    own_fine = fine-of u own_depth (step m settled fits L f g h c right first is_first x at tile back crossed).0.meets

    refused-shift : (value : Point) → value ≡ tile.motion.shift
        → is_refused m.order (point_in m.order tile.motion.shift) ≡ true → IsRefusedShift t g c.window value
    refused-shift value same r =
        let one = own_fine in
        let shift : one.fine.motion.shift ≡ point_in m.order tile.motion.shift = sym
        (ap (λ (y : TileOf t). y.motion.shift) one.is)
        ∙ sym (ap (λ k. k.shift) (placed m settled fits L f g h c right first is_first x at tile back
        crossed)) in
        record {
          tile = one.fine;
          of_frame = one.of_frame;
          tile_meets = one.meets;
          its_shift = shift ∙ ap (point_in m.order) (sym same);
          value_in_order = subst (IsOf m.order) (sym same) crossed.in_order;
          is_refused = ap (is_refused m.order) shift ∙ r;
        }

    too_many : most_tiles ≤ length c.found → is_refused m.order (point_in m.order tile.motion.shift) ≡ false → AreTooMany t g c.window
    too_many many kept =
        let d : AllByRecursion Fine s.found = AllByRecursion-from Fine s.found (λ y i. fine-of y (
          AllByRecursion-among (λ z. IsAmong z (frame_tiles P T.rule F)) y s.found i right.state.of_patch,
          let l = AllByRecursion-among (λ (z : TileOf t). level_in F z.address ≤ length f.digits) y s.found i
              right.state.at_depth in omega (arith, l, h.no_shallower),
        )
        (AllByRecursion-among (λ z. PolygonMeetsBox P.real (box_of t c.window) (polygon_of t z)) y s.found i right.state.each_meets)) in
        let all = fines-of (s.found ++ u ∷ []) (AllByRecursion-append Fine s.found (u ∷ []) d (own_fine, tt)) in
        let one = step m settled fits L f g h c right first is_first x at tile back crossed in
        let count : length all.tiles ≡ length c.found + 1 = sym (length-map all.tiles (tile_of_ancestor F))
        ∙ ap length all.lifts ∙ length-append s.found (u ∷ []) ∙ ap (λ n. n + 1) (length-map c.found _) in
        record {
          tiles = all.tiles;
          count = omega (arith, count, many, right.not_too_many);
          distinct = distinct-unmap (tile_of_ancestor F) all.tiles
              (subst AreDistinct (sym all.lifts) (distinct-more s.found u right.state.distinct one.0.new));
          of_frame = all.each;
          none_refused = AllByRecursion-from Unrefused all.tiles (λ y i. AllByRecursion-among Unrefused (tile_of_ancestor F y) (s.found ++ u ∷ [])
              (subst (IsAmong (tile_of_ancestor F y)) all.lifts (IsAmong-map (tile_of_ancestor F) y all.tiles i))
              (AllByRecursion-append Unrefused s.found (u ∷ []) right.state.none_refused (own_kept, tt)));
        }
      where
        Unrefused : TileOf t → Type 0
        Unrefused z = is_refused m.order z.motion.shift ≡ false

        own_kept : Unrefused u
        own_kept = sym (ap (λ k. is_refused m.order k.shift) (placed m settled fits L f g h c right first is_first x at tile back crossed)) ∙ kept

    pub cause_next : {U : Type 0} (r : Result U CoverFault) → IfErr r (IsNotAdmitted t c tile) → IfErr r (HasCoverCause t f g c.window)
    cause_next (Ok y) why = tt
    cause_next (Err (DepthLimit addr edge)) why = absurd why
    cause_next (Err (CoordLimit value)) why = inr (refused-shift value why.0 why.1)
    cause_next (Err TooManyTiles) why = too_many why.0 why.1
    cause_next (Err NoMemory) why = tt
