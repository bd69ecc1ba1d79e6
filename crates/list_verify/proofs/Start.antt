-- The tile that holds the centre of the window.
use Rattle.std.proofs.Common.{◌≡◌, inl, ℕ, ◌<◌, ◌≤◌, List, [], length, Some, refl, sym, ap, ◌∙◌, subst, arith}
use Rattle.theory_addresses.specs.Address.{Address, depth}
use Rattle.theory_addresses.specs.Search.{IsAmong}
use Rattle.cyclo_points.specs.declared.point.Point.{Point}
use Rattle.cyclo_points.specs.Order.{NumberOf, points_of, is_refused}
use Rattle.cyclo_points.specs.Point.{point_in, IsOf}
use Rattle.cyclo_points.specs.Motion.{motion_in}
use Rattle.theory_dissection.specs.Accepted.{AcceptedRule}
use Rattle.theory_frames.specs.Frame.{at_level, frame_tiles}
use Rattle.theory_walks.specs.Ancestors.{full}
use Rattle.theory_walks.specs.Containing.{FrameHolds, IsOnlyHolder}
use Rattle.theory_walks.specs.Frames.{FrameValue, at_depth, GrowsTo}
use Rattle.lazy_walk.specs.Standing.{Stands}
use Rattle.theory_walks.proofs.Ancestors.{level-at}
use Rattle.theory_walks.proofs.InFull.{level-grown}
use Rattle.theory_walks.proofs.Walks.{StillFits, at_depth-depth}
use Rattle.listing_text.specs.declared.entry.Entry as program
use Rattle.theory_listings.specs.FrameWalk.{ComesOnIn}
use Rattle.plane_geom.specs.declared.window.Window.{Window}
use Rattle.rule_model.specs.declared.rule.Rule.{Rule}
use Rattle.rule_model.specs.Tiling.{Tiling, tiling_of, children}
use Rattle.theory_substitution.specs.Points.{Points}
use Rattle.tile_place.specs.declared.placed_tile.PlacedTile.{PlacedTile}
use Rattle.tile_place.specs.Searched.{placed_in}
use Rattle.tile_place.proofs.Plane.{IsSettled, its_rule}
use Rattle.tile_shape.specs.Views.{address_of}
use Rattle.theory_windows.specs.FramePatch.{growing_frame, in_frame, level_in, tile_of_ancestor}
use Rattle.theory_windows.specs.GrowingPatch.{IsOfDepth}
use Rattle.window_cover.specs.Windows.{TileOf, box_of, IsWindow}
use Rattle.list_verify.specs.FoundLines.{entries_of, AreLinesIn}
use Rattle.list_verify.specs.Listing.{tiles_listed}
use Rattle.window_cover.proofs.FrameNames.{level-holds}
use Rattle.list_verify.specs.ListLaws.{HasListLaws}
use Rattle.list_verify.specs.Walked.{first_refused_at, IsStoppedBy}
use Rattle.list_verify.specs.declared.list_fault.ListFault.TheVariants.{CoordLimit}
use Rattle.list_verify.proofs.Came.{HasCome}
use Rattle.list_verify.proofs.Lines.{its_names, deep-full, listing-on}
use Rattle.list_verify.proofs.LineNumbers.{one-address}

module _ (m : Rule) (settled : IsSettled m) (fits : StillFits (children (tiling_of m)))
    (L : HasListLaws (points_of m.order)) (f : FrameValue) (w : Window) (fit : IsWindow w)
    (lines : List program.Entry) (are : AreLinesIn (tiling_of m) f lines) (g : FrameValue) (grows : GrowsTo (tiling_of m) f g) where
  abbrev t : Tiling
  t = tiling_of m

  abbrev P : Points
  P = points_of m.order

  abbrev T : AcceptedRule P
  T = its_rule m settled

  abbrev F : Address
  F = full t f

  abbrev d : ℕ
  d = length f.digits

  abbrev p : NumberOf m.order
  p = point_in m.order w.centre

  module _ (x : PlacedTile) (stands : Stands t g x) (holder : IsOnlyHolder t g p (placed_in m.order x))
      (least : (n : ℕ) → d ≤ n → n < length g.digits → ¬ FrameHolds t (at_depth t n f) p) where
    abbrev b : Address
    b = address_of x.addr

    abbrev own : TileOf t
    own = record { address = b; motion = motion_in m.order x.motion }

    its_depth : length g.digits ≤ depth F
    its_depth = let e = deep-full m settled fits L f w fit lines are in let h = grows.is_frame.at_most_64 in omega arith

    own_among : IsAmong own (frame_tiles P T.rule (at_level F (length g.digits)))
    own_among = subst (λ y. IsAmong own (frame_tiles P T.rule y)) (sym (level-grown m settled fits f are.frame g grows)) stands.in_frame.among

    of_depth : IsOfDepth P.real (TileOf t) (growing_frame P (is_refused m.order) T.rule F) (length g.digits) (tile_of_ancestor F own)
    of_depth = (L.search.lifted T F (its_names m settled fits L f w fit lines are) (is_refused m.order)
        (length g.digits) its_depth (tile_of_ancestor F own)).1 (own, own_among, refl)

    -- it has the name of its address
    named : tile_of_ancestor F own ≡ in_frame P T.rule F b
    named =
        let c = (L.search.named T F (its_names m settled fits L f w fit lines are) (is_refused m.order)
        (length g.digits) its_depth (tile_of_ancestor F own)).0 of_depth in
        c.3 ∙ ap (in_frame P T.rule F) (sym (one-address F b c.0 (length g.digits) stands.at_depth c.2 (ap (λ (y : TileOf t). y.address) c.3)))

    pub come : HasCome m settled fits L f w fit lines are g grows x []
    come = record {
      of_frame = stands.of_frame;
      at_depth = stands.at_depth;
      its_motion = ap (λ (y : TileOf t). y.motion) named;
      turn_below = stands.turn_below;
      in_order = stands.in_order;
      beyond = further;
      comes = subst (λ y. ComesOnIn P (is_refused m.order) T F (box_of t w) (tiles_listed t (entries_of lines)) [] y) named
          (L.start T F (is_refused m.order) (box_of t w) d (tiles_listed t (entries_of lines))
          (listing-on m settled fits L f w fit lines are) (length g.digits) its_depth own own_among
          holder.here.holds);
    }
      where
        of_levels : d ≤ depth F
        of_levels = let h = its_depth in let k = grows.no_shallower in omega arith

        further : d < length g.digits → d < level_in F (in_frame P T.rule F b).address
        further beyond = above (λ low. absurd (least d (omega arith) beyond
            (sym (level-holds t f d (at_depth t d f) p
            (level-at t f are.frame d (omega arith) are.frame.at_most_64)
            (at_depth-depth t f d are.frame.holds_base))
            ∙ (L.search.levels T F (its_names m settled fits L f w fit lines are) (tile_of_ancestor F own) of_depth.0 p holder.here.holds d
            of_levels).1
            (subst (λ (y : TileOf t). level_in F y.address ≤ d) (sym named) low))))
          where
            above : {n k : ℕ} → (k ≤ n → ⊥) → n < k
            above {n} {k} h = not-most n k h
              where
                not-most : (n k : ℕ) → (k ≤ n → ⊥) → n < k
                not-most n k h = omega (arith, h)

  pub refused-centre : (value : Point) → first_refused_at t f w ≡ Some (point_in m.order value)
      → IsOf m.order value → IsStoppedBy t f g w (entries_of lines) (CoordLimit value)
  refused-centre value e its_order = record {
    cause = inl
        (record { is_first = e; value_in_order = its_order });
    not_all = λ none all. absurd (cc (sym none ∙ e));
  }
