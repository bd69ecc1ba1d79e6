-- On a walk the edges of the tile of a line found are gone through.
use Rattle.std.proofs.Common.{◌≡◌, ℕ, ◌+◌, ◌*◌, ◌<◌, ◌≤◌, ◌^◌, true, List, [], length, get_or, slice_get, Some, sym, subst, arith, append-nil}
use Rattle.theory_addresses.specs.Search.{IsAmong}
use Rattle.theory_windows.specs.Outlines.{PlaneEdge, MeetsBox}
use Rattle.cyclo_points.specs.declared.order.Order.{Order}
use Rattle.cyclo_points.specs.declared.point.Point.{Point}
use Rattle.cyclo_points.specs.Order.{points_of}
use Rattle.cyclo_points.specs.Point.{IsOf, IsWithin}
use Rattle.theory_walks.specs.Frames.{FrameValue}
use Rattle.theory_walks.proofs.Brought.{Brings}
use Rattle.listing_text.specs.declared.entry.Entry.{Entry}
use Rattle.rule_model.specs.declared.rule.Rule.{Rule}
use Rattle.rule_model.specs.Tiling.{Tiling, tiling_of}
use Rattle.rule_model.specs.Views.{rule_of}
use Rattle.tile_place.specs.Corners.{AreCorners}
use Rattle.window_cover.specs.Windows.{window_box, box_of}
use Rattle.list_verify.specs.declared.found_lines.FoundLines.{FoundLines}
use Rattle.list_verify.specs.declared.walk.Walk.{Walk}
use Rattle.list_verify.specs.FoundLines.{no_line, IsCrossedOver, AreCrossedOver, edges_of_line, edge_of_line, line_between}
use Rattle.list_verify.specs.ListLaws.{HasListLaws, HasWalkLaws}
use Rattle.list_verify.specs.Walk.{tiling_in, IsUnderWay, WalkGoesOn}
use Rattle.list_verify.proofs.Edges.{kind-exists, edge-is, more-among, one-over}
use Rattle.list_verify.proofs.OneCrossing.{its-place, is-own}
use Rattle.list_verify.proofs.Onward.{further}
use Rattle.list_verify.proofs.Sides.{mark-exists}
use Rattle.list_verify.proofs.WalkLaws.{brings}

-- so far the first n edges of the line's tile have a tile found across them
abbrev pub HasCrossed : Walk → FrameValue → FrameValue → FoundLines → FoundLines → ℕ → ℕ → Type 0
HasCrossed walk f g a b line n =
    WalkGoesOn walk f g a b × AreCrossedOver (tiling_in walk) f walk.window.now walk.lines.now b.lines.items line n

module _ (walk : Walk) (W : HasWalkLaws walk.machine.now) (f : FrameValue) (old : FoundLines)
    (way : IsUnderWay walk f old) (line : ℕ) (among : IsAmong line old.lines.items) where
  abbrev m : Rule
  m = walk.machine.now

  abbrev t : Tiling
  t = tiling_of m

  abbrev B : Brings HasListLaws m
  B = brings m W

  abbrev lines : List Entry
  lines = walk.lines.now

  abbrev own : Entry
  own = get_or lines line no_line

  -- ---- the line
  module _ (e d : Entry) (same : e ≡ get_or lines line d) where
    own-is : own ≡ e
    own-is = sym (is-own walk W f old way line among e d same)

    pub kind-there : e.address.kind < length (rule_of m).kinds
    kind-there = subst (λ (x : Entry). x.address.kind < length (rule_of m).kinds) own-is
        (kind-exists m B.settled B.fits B.laws f walk.window.now way.on_frame.window_fits lines way.on_frame.lines
        old.lines.items old.marks.items way.lines_found line among)

    pub turn-below : e.motion.turn < (points_of m.order).order
    turn-below = subst (λ (x : Entry). x.motion.turn < (points_of m.order).order) own-is (its-place walk W f old way line among).turn_below

    pub shift-within : IsWithin (2 ^ 24) e.motion.shift
    shift-within = subst (λ (x : Entry). IsWithin (2 ^ 24) x.motion.shift) own-is (its-place walk W f old way line among).shift_within

    pub in-order : IsOf m.order e.motion.shift
    in-order = subst (λ (x : Entry). IsOf m.order x.motion.shift) own-is (its-place walk W f old way line among).in_order

    -- ---- its corners
    module _ (corners : List Point) (are : AreCorners t e.address.kind e.motion corners) where
      own-corners : AreCorners t own.address.kind own.motion corners
      own-corners = subst (λ (x : Entry). AreCorners t x.address.kind x.motion corners) (sym own-is) are

      pub many : length corners ≡ edges_of_line t lines line
      many = own-corners.count

      -- ---- an edge, when the walk has gone on
      module _ (few : length corners ≤ 12) (g : FrameValue) (b : FoundLines) (on : WalkGoesOn walk f g old b) (n : ℕ)
          (below : n < length corners) where
        pub still-found : IsAmong line b.lines.items
        still-found = more-among old.lines.items b.lines.items line on.more among

        pub edge-exists : n < edges_of_line t lines line
        edge-exists = subst (λ k. n < k) many below

        few-edges : n < 12
        few-edges = omega (arith, few, below)

        pub mark-there : line * 12 + n < length b.crossed.marks.items
        mark-there = mark-exists line n (length lines) (length b.crossed.marks.items)
            (its-place walk W f old way line among).below few-edges on.under_way.sides.count

        own-edge : line_between m.order corners n ≡ edge_of_line t f lines line n
        own-edge = edge-is m B.settled B.fits B.laws f walk.window.now way.on_frame.window_fits lines way.on_frame.lines
            old.lines.items old.marks.items way.lines_found line among corners own-corners n below

        -- what the test of the edge says
        module _ (o : Order) (order_is : o ≡ m.order) (ps : List Point) (ps_are : ps ≡ corners) where
          abbrev Tested : Type 0
          Tested = MeetsBox (points_of o).real (window_box o walk.window.now) (line_between o ps n)

          abbrev Meets : Type 0
          Meets = MeetsBox (points_of m.order).real (box_of t walk.window.now) (edge_of_line t f lines line n)

          edge-here : (C : Type 0 → Type 0) → C Tested → C Meets
          edge-here C test = subst (λ (l : PlaneEdge (points_of m.order).real). C
              (MeetsBox (points_of m.order).real (box_of t walk.window.now) l)) own-edge
              (subst (λ (qs : List Point). C (MeetsBox (points_of m.order).real (box_of t walk.window.now) (line_between m.order qs n))) ps_are
              (subst (λ (q : Order). C (MeetsBox (points_of q).real (window_box q walk.window.now) (line_between q ps n))) order_is test))

          pub edge-meets : Tested → MeetsBox (points_of m.order).real (box_of t walk.window.now) (edge_of_line t g lines line n)
          edge-meets test = subst (λ (k : FrameValue). MeetsBox (points_of m.order).real (box_of t walk.window.now) (edge_of_line t k lines line n))
              (sym on.stays) (edge-here (λ X. X) test)

          -- it has been crossed from its other side
          pub passed : AreCrossedOver t f walk.window.now lines b.lines.items line n
              → (Tested → slice_get b.crossed.marks.items (line * 12 + n) ≡ Some true)
              → HasCrossed walk f g old b line (n + 1)
          passed before marked = (
            on,
            one-over t f walk.window.now lines b.lines.items b.lines.items line n ([], sym (append-nil b.lines.items)) before
                (λ meets. on.under_way.sides.over line n few-edges
                (edge-here (λ X. X → slice_get b.crossed.marks.items (line * 12 + n) ≡ Some true) marked meets) meets),
          )

        -- it is crossed
        pub crossed : (h : FrameValue) (c : FoundLines) → WalkGoesOn walk g h b c → AreCrossedOver t f walk.window.now lines b.lines.items line n
            → IsCrossedOver t g walk.window.now lines c.lines.items line n → HasCrossed walk f h old c line (n + 1)
        crossed h c next before own = (
          further walk f g old b on h c next,
          one-over t f walk.window.now lines b.lines.items c.lines.items line n next.more before
              (subst (λ (k : FrameValue). IsCrossedOver t k walk.window.now lines c.lines.items line n) on.stays own),
        )
