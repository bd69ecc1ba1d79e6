-- A tile that the walk comes to, and the line that has its address.
use Rattle.std.proofs.Common.{◌≡◌, ◌⊎◌, inl, inr, ℕ, ◌<◌, ◌≤◌, List, length, slice_get, Some, refl, sym, ap, ◌∙◌, subst, arith}
use Rattle.std.proofs.lemmas.Bool.{cases_lt}
use Rattle.theory_addresses.specs.Address.{Address, depth}
use Rattle.theory_addresses.specs.Search.{IsAmong}
use Rattle.theory_addresses.specs.Tables.{child_kinds}
use Rattle.theory_addresses.proofs.Lists.{IsAmong-map}
use Rattle.theory_addresses.proofs.Ranges.{among-place}
use Rattle.cyclo_points.specs.Order.{NumberOf, points_of, is_refused}
use Rattle.cyclo_points.specs.Point.{IsOf}
use Rattle.cyclo_points.specs.Motion.{motion_in}
use Rattle.theory_dissection.specs.Accepted.{AcceptedRule}
use Rattle.theory_dissection.proofs.Setting.{Setting}
use Rattle.theory_edge_to_edge.specs.Contacts.{tables_of}
use Rattle.theory_frames.specs.Frame.{at_level, frame_tiles, IsTileOf, lifted_in}
use Rattle.theory_walks.specs.Ancestors.{full}
use Rattle.theory_walks.specs.Frames.{FrameValue, whole, at_depth, GrowsTo}
use Rattle.theory_walks.proofs.Ancestors.{full-later}
use Rattle.theory_walks.proofs.InFull.{by_tables, level-grown, tile-full}
use Rattle.theory_walks.proofs.Lifting.{IsTileOf-later}
use Rattle.theory_walks.proofs.Walks.{StillFits, GrowsTo-is}
use Rattle.listing_text.specs.declared.entry.Entry as program
use Rattle.listing_text.specs.Listing.{Entry}
use Rattle.listing_text.specs.Views.{entry_of}
use Rattle.theory_listings.specs.Lines.{ListLine, named_tiles}
use Rattle.theory_listings.specs.FrameWalk.{line_named, lines_named, ComesOnIn}
use Rattle.theory_listings.proofs.Lines.{tile-line}
use Rattle.plane_geom.specs.declared.window.Window.{Window}
use Rattle.rule_model.specs.declared.rule.Rule.{Rule}
use Rattle.rule_model.specs.Tiling.{Tiling, tiling_of, children}
use Rattle.theory_substitution.specs.Motion.{Motion}
use Rattle.theory_substitution.specs.Points.{Points}
use Rattle.theory_substitution.specs.Supertile.{Placed}
use Rattle.tile_place.specs.declared.placed_tile.PlacedTile.{PlacedTile}
use Rattle.tile_place.proofs.Plane.{IsSettled, its_rule}
use Rattle.tile_shape.specs.Views.{address_of}
use Rattle.theory_windows.specs.FramePatch.{in_frame, level_in}
use Rattle.theory_windows.proofs.Lifts.{named-fine}
use Rattle.theory_windows.proofs.Members.{among-map}
use Rattle.window_cover.specs.Windows.{TileOf, box_of, IsWindow, IsOfFrame}
use Rattle.list_verify.specs.FoundLines.{entries_of, AreLinesIn, tile_of_line, tiles_listed_so_far}
use Rattle.list_verify.specs.LineIndex.{HasAddress}
use Rattle.list_verify.specs.Listing.{tile_listed, tiles_listed}
use Rattle.list_verify.specs.ListLaws.{HasListLaws}
use Rattle.list_verify.proofs.Lines.{its_names, deep-full, line-of, line-deep, deepest-is, listing-on, listed-among, number-among, tile-is}
use Rattle.list_verify.proofs.LineNumbers.{one-address}

module _ (m : Rule) (settled : IsSettled m) (fits : StillFits (children (tiling_of m)))
    (L : HasListLaws (points_of m.order)) (f : FrameValue) (w : Window) (fit : IsWindow w)
    (lines : List program.Entry) (are : AreLinesIn (tiling_of m) f lines) (g : FrameValue)
    (grows : GrowsTo (tiling_of m) f g) (x : PlacedTile) (numbers : List ℕ) where
  abbrev t : Tiling
  t = tiling_of m

  abbrev P : Points
  P = points_of m.order

  abbrev T : AcceptedRule P
  T = its_rule m settled

  abbrev setting : Setting
  setting = record { points = P; laws = L.search.points; accepted = T }

  abbrev F : Address
  F = full t f

  abbrev d : ℕ
  d = length f.digits

  abbrev kinds : List (List ℕ)
  kinds = child_kinds (tables_of P T.rule)

  abbrev listing : List (TileOf t)
  listing = tiles_listed t (entries_of lines)

  abbrev b : Address
  b = address_of x.addr

  abbrev pub u : TileOf t
  u = in_frame P T.rule F b

  -- the walk comes to x, a tile of the frame g in its place
  pub record HasCome : Type 0 where
    pub of_frame : IsTileOf (children t) (whole g) b
    pub at_depth : depth b ≡ length g.digits
    pub its_motion : motion_in m.order x.motion ≡ u.motion
    pub turn_below : x.motion.turn < P.order
    pub in_order : IsOf m.order x.motion.shift
    pub beyond : d < length g.digits → d < level_in F u.address
    pub comes : ComesOnIn P (is_refused m.order) T F (box_of t w) listing (tiles_listed_so_far t f lines numbers) u

  module _ (c : HasCome) where
    whole-tile : IsTileOf kinds F b
    whole-tile = subst (λ y. IsTileOf kinds y b) (full-later t f g grows) (tile-full m settled fits g grows.is_frame b c.of_frame)

    -- at the lines' depth the frame hasn't grown
    same-frame : depth b ≡ d → g ≡ f
    same-frame e = GrowsTo-is t f g grows ∙ ap (λ n. at_depth t n f) (sym c.at_depth ∙ e) ∙ sym are.frame.its_digits

    -- ---- where no line has the address
    pub unlisted : ((i : ℕ) → ¬ HasAddress lines i b) → IsAmong u (named_tiles (lines_named P T.rule F listing)) → ⊥
    unlisted none i = at (cases_lt d (length g.digits))
      where
        at : (d < length g.digits) ⊎ (length g.digits ≤ d) → ⊥
        at (inl further) = absurd (L.beyond T F (box_of t w) d listing (listing-on m settled fits L f w fit lines are) u
            (subst (λ k. k < level_in F u.address) (sym (deepest-is m settled fits L f w fit lines are)) (c.beyond further)) i)
        at (inr same) =
            let l = tile-line (lines_named P T.rule F listing) u i in
            let s = among-map (line_named P T.rule F) l.0 listing l.1 in
            let e = among-map (tile_listed t) s.0 (entries_of lines) s.1 in
            let o = among-map entry_of e.0 lines e.1 in
            let name : in_frame P T.rule F (address_of o.0.address) ≡ u
            = sym (l.2 ∙ ap (λ (k : ListLine (Placed (NumberOf m.order)) (Motion (NumberOf m.order))). k.tile)
            s.2 ∙ ap (λ (y : TileOf t). in_frame P T.rule F y.address) e.2
            ∙ ap (λ (y : Entry). in_frame P T.rule F y.address) o.2) in
            let place = among-place o.0 lines o.1 in
            absurd (none place.0 (
              o.0,
              place.1,
              one-address F (address_of o.0.address) b d
                  (line-deep m settled fits L f w fit lines are o.0 o.1)
                  (c.at_depth ∙ both grows.no_shallower same) (ap (λ (y : TileOf t). y.address) name),
            ))
          where
            both : {n k : ℕ} → n ≤ k → k ≤ n → k ≡ n
            both h l = omega arith

    -- ---- its tile in the frame that it stands in
    abbrev own : TileOf t
    own = record { address = b; motion = u.motion }

    pub its_depth : length g.digits ≤ depth F
    its_depth = let e = deep-full m settled fits L f w fit lines are in let h = grows.is_frame.at_most_64 in omega arith

    pub own-among : IsOfFrame t g own
    own-among = subst (λ y. IsAmong own (frame_tiles P T.rule y)) (level-grown m settled fits f are.frame g grows)
        (subst (λ n. IsAmong own (frame_tiles P T.rule (at_level F n))) c.at_depth
        (named-fine setting F (its_names m settled fits L f w fit lines are) (is_refused m.order) (depth b)
        (subst (λ n. n ≤ depth F) (sym c.at_depth) its_depth) b whole-tile refl))

    -- a line whose address is its own, lifted, lists it
    pub line-lists : (e : Entry) → IsAmong e (entries_of lines) → lifted_in (whole g) e.address ≡ b
        → IsAmong u (named_tiles (lines_named P T.rule F listing))
    line-lists e i same =
        let o = among-map entry_of e lines i in
        let a = address_of o.0.address in
        let of = IsTileOf-later t f g a grows are.frame (line-of m settled fits L f w fit lines are o.0 o.1) in
        let there : IsTileOf kinds (at_level F (length g.digits)) a
        = subst (λ y. IsTileOf kinds y a) (sym (level-grown m settled fits f are.frame g grows))
        (by_tables m settled fits f are.frame (whole g) a of) in
        let name : in_frame P T.rule F a ≡ u
        = sym (L.search.renamed T F (its_names m settled fits L f w fit lines are) (length g.digits) its_depth a there).1
        ∙ ap (λ y. in_frame P T.rule F (lifted_in y a)) (level-grown m settled fits f are.frame g grows)
        ∙ ap (in_frame P T.rule F) (ap (λ (y : Entry). lifted_in (whole g) y.address) (sym o.2) ∙ same) in
        subst (λ y. IsAmong y (named_tiles (lines_named P T.rule F listing))) name
        (IsAmong-map (λ (k : ListLine (Placed (NumberOf m.order)) (Motion (NumberOf m.order))). k.tile)
        (line_named P T.rule F (tile_listed t (entry_of o.0))) (lines_named P T.rule F listing)
        (IsAmong-map (line_named P T.rule F) (tile_listed t (entry_of o.0)) listing (listed-among m settled fits L f w fit lines are o.0 o.1)))

    -- ---- the line that has its address
    module _ (i : ℕ) (line : program.Entry) (at : slice_get lines i ≡ Some line) (named : address_of line.address ≡ b) where
      pub its_line : IsAmong line lines
      its_line = number-among m settled fits L f w fit lines are i line at

      line-depth : depth b ≡ d
      line-depth = ap depth (sym named) ∙ line-deep m settled fits L f w fit lines are line its_line

      pub stays : g ≡ f
      stays = same-frame line-depth

      pub its_tile : tile_of_line t f lines i ≡ u
      its_tile = tile-is m settled fits L f w fit lines are i line at ∙ ap (in_frame P T.rule F) named
