-- On a walk an edge of the tile of a line found is crossed, and the tile across is looked for.
use Rattle.std.proofs.Common.{◌≡◌, inl, inr, ℕ, ◌+◌, ◌*◌, ◌<◌, ◌≤◌, ◌^◌, true, List, length, get_or, slice_get, slice_set, Some, refl, sym, ap, ◌∙◌, subst}
use Rattle.std.proofs.lemmas.Option.{slice_get_within}
use Rattle.theory_addresses.specs.Address.{Address}
use Rattle.theory_addresses.specs.Search.{IsAmong}
use Rattle.theory_frames.specs.Frame.{IsTileOf}
use Rattle.theory_windows.specs.Outlines.{MeetsBox}
use Rattle.cyclo_points.specs.declared.motion.Motion.{Motion}
use Rattle.cyclo_points.specs.Order.{points_of}
use Rattle.theory_walks.specs.Boundary.{IsBoundaryEdge}
use Rattle.lazy_walk.specs.Crossed.{IsToCross, IsCrossedTo}
use Rattle.theory_walks.specs.Frames.{FrameValue, whole, GrowsTo, lifted_at}
use Rattle.theory_walks.proofs.Brought.{Brings}
use Rattle.listing_text.specs.declared.entry.Entry.{Entry}
use Rattle.rule_model.specs.declared.rule.Rule.{Rule}
use Rattle.rule_model.specs.Tiling.{Tiling, tiling_of, children}
use Rattle.tile_place.specs.declared.placed_tile.PlacedTile.{PlacedTile}
use Rattle.tile_place.specs.Crossed.{edges_of}
use Rattle.tile_place.specs.Motions.{IsMotionOf}
use Rattle.tile_shape.specs.declared.address.Address as programmed
use Rattle.tile_shape.specs.Views.{address_of}
use Rattle.window_cover.specs.Windows.{IsLeastForWindow, box_of}
use Rattle.list_verify.specs.declared.crossed_edges.CrossedEdges.{CrossedEdges}
use Rattle.list_verify.specs.declared.found_lines.FoundLines.{FoundLines}
use Rattle.list_verify.specs.declared.list_fault.ListFault.{ListFault}
use Rattle.list_verify.specs.declared.list_fault.ListFault.TheVariants.{DepthLimit}
use Rattle.list_verify.specs.declared.walk.Walk.{Walk}
use Rattle.list_verify.specs.Faults.{OrNoRoom}
use Rattle.list_verify.specs.FoundLines.{no_line, IsInPlace, IsCrossedOver, AreMarkedSides, edges_of_line, edge_of_line}
use Rattle.list_verify.specs.ListLaws.{HasListLaws, HasWalkLaws}
use Rattle.list_verify.specs.LookedUp.{IsLookedUp, IsNotFound}
use Rattle.list_verify.specs.Walk.{IsUnderWay, WalkGoesOn, Stops}
use Rattle.list_verify.proofs.Came.{HasCome}
use Rattle.list_verify.proofs.NextFound.{IsNext, looked-up}
use Rattle.list_verify.proofs.NotFound.{not-found}
use Rattle.list_verify.proofs.Chains.{get_or-at}
use Rattle.list_verify.proofs.Crossing.{place, is-line, of-frame, came, crossed-over}
use Rattle.list_verify.proofs.CrossedBack.{back-below, crossed-back}
use Rattle.list_verify.proofs.CrossingLimit.{limited}
use Rattle.list_verify.proofs.Edges.{more-among}
use Rattle.list_verify.proofs.Enough.{not_beyond-edge}
use Rattle.list_verify.proofs.Sides.{sides-more, sides-put, mark-exists}
use Rattle.list_verify.proofs.WalkLaws.{brings}

module _ (walk : Walk) (W : HasWalkLaws walk.machine.now) (f : FrameValue) (old : FoundLines)
    (way : IsUnderWay walk f old) (line : ℕ) (among : IsAmong line old.lines.items) where
  abbrev m : Rule
  m = walk.machine.now

  abbrev t : Tiling
  t = tiling_of m

  abbrev B : Brings HasListLaws m
  B = brings m W

  abbrev lines : List Entry
  lines = walk.lines.now

  abbrev own : Entry
  own = get_or lines line no_line

  -- ---- the line
  pub its-place : IsInPlace t f lines line
  its-place = place m B.settled B.fits B.laws f walk.window.now way.on_frame.window_fits lines way.on_frame.lines
      old.lines.items old.marks.items way.lines_found line among

  pub line-at : slice_get lines line ≡ Some own
  line-at = is-line m B.settled B.fits B.laws f walk.window.now way.on_frame.window_fits lines way.on_frame.lines
      old.lines.items old.marks.items way.lines_found line among

  pub is-own : (e d : Entry) → e ≡ get_or lines line d → e ≡ own
  is-own e d same = same ∙ get_or-at lines line own d line-at

  -- ---- its tile, as it is put
  module _ (e d : Entry) (same : e ≡ get_or lines line d) (tile : PlacedTile) (motion : tile.motion ≡ e.motion)
      (address : tile.addr ≡ e.address) where
    its-motion : own.motion ≡ tile.motion
    its-motion = sym (motion ∙ ap (λ (x : Entry). x.motion) (is-own e d same))

    its-address : address_of own.address ≡ address_of tile.addr
    its-address = sym (ap address_of (address ∙ ap (λ (x : Entry). x.address) (is-own e d same)))

    tile-there : IsTileOf (children t) (whole f) (address_of tile.addr)
    tile-there = subst (IsTileOf (children t) (whole f)) its-address
        (of-frame m B.settled B.fits B.laws f walk.window.now way.on_frame.window_fits lines way.on_frame.lines
        old.lines.items old.marks.items way.lines_found line among)

    pub to-cross : tile.kind ≡ e.address.kind → IsToCross t f tile
    to-cross its = record {
      its_kind = its ∙ sym (ap (λ (a : programmed.Address). a.kind) address);
      of_frame = tile-there;
      motion = subst (IsMotionOf m.order (2 ^ 24)) its-motion
          (record { turn_below = its-place.turn_below; within = its-place.shift_within; in_order = its-place.in_order });
    }

    module _ (edge : ℕ) (exists : edge < edges_of_line t lines line)
        (meets : MeetsBox (points_of m.order).real (box_of t walk.window.now) (edge_of_line t f lines line edge)) where
      pub edge-exists : edge < edges_of t (address_of tile.addr).kind
      edge-exists = subst (λ (a : Address). edge < edges_of t a.kind) its-address exists

      -- ---- how far the frame grows
      module _ (k : FrameValue) (grows : GrowsTo t f k)
          (least : (n : ℕ) → length f.digits ≤ n → n < length k.digits
          → IsBoundaryEdge t (lifted_at t f (address_of tile.addr) n) edge) where
        within : (n : ℕ) → IsLeastForWindow t f walk.window.now n → length k.digits ≤ n
        within = not_beyond-edge m B.settled B.fits B.laws f walk.window.now way.on_frame.window_fits lines way.on_frame.lines
            old.lines.items old.marks.items way.lines_found line among edge exists meets k grows
            (λ n l h. subst (λ (a : Address). IsBoundaryEdge t (lifted_at t f a n) edge) (sym its-address) (least n l h))

        -- ---- on the boundary at depth 64
        pub stops-there : length k.digits ≡ 64 → IsBoundaryEdge t (lifted_at t f (address_of tile.addr) 64) edge
            → (addr : programmed.Address) (its : ℕ) → address_of addr ≡ lifted_at t f (address_of tile.addr) 64
            → its ≡ edge → Stops walk f k (DepthLimit addr its)
        stops-there at_64 on addr its named is = record {
          grows = grows;
          not_beyond = within;
          cause = inr (limited m B.settled B.fits B.laws f walk.window.now way.on_frame.window_fits lines way.on_frame.lines
              old.lines.items old.marks.items way.lines_found line among edge exists meets k grows at_64
              (subst (λ (a : Address). IsBoundaryEdge t (lifted_at t f a 64) edge) (sym its-address) on)
              addr its (named ∙ ap (λ (a : Address). lifted_at t f a 64) (sym its-address)) is);
        }

        -- ---- crossed
        module _ (x : PlacedTile) (back : ℕ) (h : IsCrossedTo t f k (address_of tile.addr) tile.motion edge x back) where
          crossed : IsCrossedTo t f k (address_of own.address) own.motion edge x back
          crossed = subst (λ (j : Motion). IsCrossedTo t f k (address_of own.address) j edge x back) (sym its-motion)
              (subst (λ (a : Address). IsCrossedTo t f k a tile.motion edge x back) (sym its-address) h)

          abbrev Come : Type 0
          Come = HasCome m B.settled B.fits B.laws f walk.window.now way.on_frame.window_fits lines way.on_frame.lines k grows x old.lines.items

          come : Come
          come = came m B.settled B.fits B.laws f walk.window.now way.on_frame.window_fits lines way.on_frame.lines
              old.lines.items old.marks.items way.lines_found line among edge exists meets k grows x back crossed

          below : back < 12
          below = back-below m B.settled B.fits B.laws f walk.window.now way.on_frame.window_fits lines way.on_frame.lines
              old.lines.items old.marks.items way.lines_found line among edge exists meets k grows x back crossed

          pub stops-looking : (fault : ListFault) → OrNoRoom (IsNotFound t lines x) fault → Stops walk f k fault
          stops-looking fault (inl e) = record { grows = grows; not_beyond = within; cause = inl e }
          stops-looking fault (inr n) = record {
            grows = grows;
            not_beyond = within;
            cause = inr (not-found m B.settled B.fits B.laws f walk.window.now way.on_frame.window_fits lines way.on_frame.lines
                k grows x old.lines.items come fault n);
          }

          module _ (found : FoundLines) (number : ℕ) (n : IsLookedUp old found lines x number) where
            next : IsNext m B.settled B.fits B.laws f walk.window.now way.on_frame.window_fits lines way.on_frame.lines
                k grows x old.lines.items come old found
            next = looked-up m B.settled B.fits B.laws f walk.window.now way.on_frame.window_fits lines way.on_frame.lines
                k grows x old.lines.items come old found refl way.lines_found.are_marked number n

            pub goes-over : IsCrossedOver t f walk.window.now lines found.lines.items line edge
            goes-over = crossed-over m B.settled B.fits B.laws f walk.window.now way.on_frame.window_fits lines way.on_frame.lines
                old.lines.items old.marks.items way.lines_found line among edge exists meets k grows x back crossed
                found.lines.items next.among

            returned : IsCrossedOver t f walk.window.now lines found.lines.items number back
            returned = crossed-back m B.settled B.fits B.laws f walk.window.now way.on_frame.window_fits lines way.on_frame.lines
                old.lines.items old.marks.items way.lines_found line among edge exists meets k grows x back crossed
                found.lines.items (more-among old.lines.items found.lines.items line next.more among)
                number n.line n.is_line n.its_address

            -- its mark, and the walk then
            module _ (same_edges : found.crossed ≡ old.crossed) where
              pub mark-there : number * 12 + back < length found.crossed.marks.items
              mark-there = mark-exists number back (length lines) (length found.crossed.marks.items)
                  (slice_get_within lines number n.line n.is_line) below
                  (ap (λ (o : CrossedEdges). length o.marks.items) same_edges ∙ way.sides.count)

              pub goes-on : (edges : CrossedEdges) → edges.marks.items ≡ slice_set found.crossed.marks.items (number * 12 + back) true
                  → WalkGoesOn walk f k old (record { lines = found.lines; marks = found.marks; crossed = edges })
              goes-on edges put = record {
                stays = next.stays;
                more = next.more;
                under_way = record {
                  on_frame = way.on_frame;
                  lines_found = record { are_marked = next.are_marked; walk = next.walk (inr way.lines_found.walk) };
                  sides = subst (AreMarkedSides t f walk.window.now lines found.lines.items)
                      (sym (put ∙ ap (λ (o : CrossedEdges). slice_set o.marks.items (number * 12 + back) true) same_edges))
                      (sides-put t f walk.window.now lines found.lines.items old.crossed.marks.items number back below returned
                      (sides-more t f walk.window.now lines old.lines.items found.lines.items
                      old.crossed.marks.items next.more way.sides));
                };
              }
