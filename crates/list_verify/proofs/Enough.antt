-- A walk through lines grows the frame no deeper than is enough for the window.
use Rattle.std.proofs.Common.{◌≡◌, ℕ, ◌<◌, ◌≤◌, inl, inr, List, length, get_or, Bool, IsTrue, refl, sym, ap, ◌∙◌, subst, arith}
use Rattle.std.proofs.Math.ListN.{length-map}
use Rattle.std.proofs.lemmas.Bool.{cases_lt}
use Rattle.theory_addresses.specs.Address.{Address, depth}
use Rattle.theory_addresses.specs.Search.{IsAmong}
use Rattle.theory_addresses.proofs.Ranges.{place-among}
use Rattle.cyclo_points.specs.Order.{points_of, is_refused}
use Rattle.theory_dissection.specs.Accepted.{AcceptedRule, NamesTile}
use Rattle.theory_dissection.specs.Polygons.{tile_polygon}
use Rattle.theory_frames.specs.Frame.{at_level, motion_beside, frame_tiles, IsTileOf}
use Rattle.theory_walks.specs.Ancestors.{full}
use Rattle.theory_walks.specs.Boundary.{IsBoundaryEdge}
use Rattle.theory_walks.specs.Frames.{FrameValue, whole, at_depth, GrowsTo, lifted_at}
use Rattle.theory_walks.proofs.Ancestors.{full-later, level-same}
use Rattle.theory_walks.proofs.Crossings.{boundary-part}
use Rattle.theory_walks.proofs.InFull.{level-grown, by_tables}
use Rattle.theory_walks.proofs.Lifting.{IsTileOf-later}
use Rattle.theory_walks.proofs.Walks.{StillFits, later, at_depth-depth, whole-fits}
use Rattle.listing_text.specs.declared.entry.Entry as program
use Rattle.plane_geom.specs.declared.window.Window.{Window}
use Rattle.rule_model.specs.declared.rule.Rule.{Rule}
use Rattle.rule_model.specs.Tiling.{Tiling, tiling_of, children}
use Rattle.theory_substitution.specs.Points.{Points}
use Rattle.tile_place.proofs.Plane.{IsSettled, its_rule, fits_tables}
use Rattle.tile_shape.specs.Views.{address_of}
use Rattle.theory_windows.specs.FrameLaws.{IsEdgeInFrame}
use Rattle.theory_windows.specs.FramePatch.{growing_frame, in_frame, line_of}
use Rattle.theory_windows.specs.GrowingPatch.{IsOfDepth, IsInner}
use Rattle.theory_windows.specs.Outlines.{PlaneEdge, MeetsBox, edges, is_reverse}
use Rattle.window_cover.specs.Windows.{TileOf, box_of, IsWindow, IsLeastForWindow}
use Rattle.list_verify.specs.FoundLines.{AreLinesIn, no_line, AreFound, edge_of_line, edges_of_line}
use Rattle.list_verify.specs.ListLaws.{HasListLaws}
use Rattle.list_verify.proofs.Crossing.{is-line, of-frame}
use Rattle.list_verify.proofs.Lines.{its_names, deep-full, line-deep, line-tile, number-among}

module _ (m : Rule) (settled : IsSettled m) (fits : StillFits (children (tiling_of m)))
    (L : HasListLaws (points_of m.order)) (f : FrameValue) (w : Window) (fit : IsWindow w)
    (lines : List program.Entry) (are : AreLinesIn (tiling_of m) f lines) (numbers : List ℕ)
    (marks : List Bool) (found : AreFound (tiling_of m) f w lines numbers marks)
    (i : ℕ) (among : IsAmong i numbers) (e : ℕ) (edge : e < edges_of_line (tiling_of m) lines i)
    (meets : MeetsBox (points_of m.order).real (box_of (tiling_of m) w) (edge_of_line (tiling_of m) f lines i e)) where
  abbrev t : Tiling
  t = tiling_of m

  abbrev P : Points
  P = points_of m.order

  abbrev T : AcceptedRule P
  T = its_rule m settled

  abbrev F : Address
  F = full t f

  abbrev d : ℕ
  d = length f.digits

  abbrev line : program.Entry
  line = get_or lines i no_line

  abbrev a : Address
  a = address_of line.address

  its_line : IsAmong line lines
  its_line = number-among m settled fits L f w fit lines are i line (is-line m settled fits L f w fit lines are numbers marks found i among)

  its_depth : depth a ≡ d
  its_depth = line-deep m settled fits L f w fit lines are line its_line

  all-names : NamesTile P T.rule F
  all-names = its_names m settled fits L f w fit lines are

  -- the tile of the line, and its edge
  abbrev u : TileOf t
  u = in_frame P T.rule F a

  exists : u.address.kind < length T.rule.kinds
  exists = subst (λ n. a.kind < n) (length-map T.rule.kinds _)
      (of-frame m settled fits L f w fit lines are numbers marks found i among).fits.kind_exists

  module _ (n : ℕ) (low : d ≤ n) (high : n ≤ 64) where
    within : n ≤ depth F
    within = let k = deep-full m settled fits L f w fit lines are in omega arith

    tile-at : IsOfDepth P.real (TileOf t) (growing_frame P (is_refused m.order) T.rule F) n u
    tile-at =
        let k = deep-full m settled fits L f w fit lines are in
        let here = (L.search.named T F all-names (is_refused m.order) d (omega arith) u).1
        (a, line-tile m settled fits L f w fit lines are line its_line, its_depth, refl) in
        (here.0, omega (arith, here.1))

    -- where n is enough, the edge has a tile across it at that depth
    inner : IsLeastForWindow t f w n → IsInner P.real (TileOf t) (growing_frame P (is_refused m.order) T.rule F) n (line_of P T.rule u e)
    inner enough =
        let least = (L.search.least T F all-names (is_refused m.order) (box_of t w) d n (omega (arith, low, within))).0 enough in
        least.enough.none_on_boundary u tile-at (line_of P T.rule u e)
        (place-among (line_of P T.rule u e) (edges (tile_polygon P T.rule (λ z. z) u)) e (L.search.lines T u exists e edge)) meets

    -- ---- the frame of depth n
    abbrev g : FrameValue
    g = at_depth t n f

    grows : GrowsTo t f g
    grows = later t f n are.frame low high

    long : length g.digits ≡ n
    long = at_depth-depth t f n (omega (arith, are.frame.holds_base))

    level-is : at_level F n ≡ whole g
    level-is = subst (λ k. at_level F k ≡ whole g) long (level-grown m settled fits f are.frame g grows)

    there : IsTileOf (children t) (whole g) a
    there = IsTileOf-later t f g a grows are.frame (of-frame m settled fits L f w fit lines are numbers marks found i among)

    own-edge : IsEdgeInFrame P T (whole g) a e
    own-edge = record {
      frame = fits_tables m settled (whole g) (whole-fits t fits g grows.is_frame);
      tile = by_tables m settled fits f are.frame (whole g) a there;
      edge_exists = edge;
    }

    same-level : at_level F (depth a) ≡ at_level (whole g) (depth a)
    same-level = ap (λ (y : Address). at_level y (depth a)) (sym (full-later t f g grows))
        ∙ level-same t g grows.is_frame (depth a) (omega (arith, its_depth, low, long))

    same-line : line_of P T.rule u e ≡ line_of P T.rule (in_frame P T.rule (whole g) a) e
    same-line = ap (λ (y : Address). line_of P T.rule (record { address = a; motion = motion_beside P T.rule y.digits a.digits }) e) same-level

    -- it isn't on the boundary there
    pub not-boundary : IsLeastForWindow t f w n → ¬ IsBoundaryEdge t (lifted_at t f a n) e
    not-boundary enough on = refute (inner enough)
      where
        refute : IsInner P.real (TileOf t) (growing_frame P (is_refused m.order) T.rule F) n (line_of P T.rule u e) → ⊥
        refute x =
            let fine = (L.search.lifted T F all-names (is_refused m.order) n within x.0).0 x.2 in
            let at = boundary-part m fits f a are.frame
            (of-frame m settled fits L f w fit lines are numbers marks found i among) settled e edge g
            grows on in
            absurd (L.last T (whole g) a e own-edge at.0 at.1 at.2 (is_refused m.order) fine.0 (record {
              of_patch = subst (λ y. IsAmong fine.0 (frame_tiles P T.rule y)) level-is fine.1;
              edge = x.1;
              among = subst (λ (y : TileOf t). IsAmong x.1 (edges (tile_polygon P T.rule (λ z. z) y))) fine.2 x.3;
              back = subst (λ (l : PlaneEdge P.real). IsTrue (is_reverse P.real l x.1)) same-line x.4;
            }))

  -- so a frame that grows only while the edge is on the boundary isn't beyond it
  pub not_beyond-edge : (g : FrameValue) → GrowsTo t f g → ((n : ℕ) → d ≤ n → n < length g.digits → IsBoundaryEdge t (lifted_at t f a n) e)
      → (n : ℕ) → IsLeastForWindow t f w n → length g.digits ≤ n
  not_beyond-edge g grows least n enough = elim (cases_lt n (length g.digits)) [
    | inr l ↦ l
    | inl l ↦ absurd (not-boundary n enough.not_below (small l grows.is_frame.at_most_64) enough (least n enough.not_below l))
  ]
    where
      small : {n k : ℕ} → n < k → k ≤ 64 → n ≤ 64
      small h j = omega arith
