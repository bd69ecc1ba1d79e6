-- Why a tile that the walk comes to is not found among the lines.
use Rattle.std.proofs.Common.{◌≡◌, inr, ℕ, true, List, length, slice_get, Some, sym, ap, ◌∙◌, subst}
use Rattle.theory_addresses.specs.Address.{Address, depth}
use Rattle.theory_addresses.specs.Search.{IsAmong}
use Rattle.theory_addresses.proofs.Lists.{AllByRecursion-among, IsAmong-map}
use Rattle.theory_addresses.proofs.Ranges.{slice_get-image}
use Rattle.cyclo_points.specs.Order.{points_of, is_refused}
use Rattle.cyclo_points.specs.Point.{point_in, IsOf}
use Rattle.cyclo_points.specs.Motion.{motion_in}
use Rattle.cyclo_points.specs.declared.motion.Motion.{Motion as Moved}
use Rattle.cyclo_points.specs.declared.point.Point.{Point}
use Rattle.theory_dissection.specs.Accepted.{AcceptedRule}
use Rattle.theory_dissection.specs.Polygons.{tile_polygon}
use Rattle.theory_frames.specs.Frame.{frame_tiles}
use Rattle.theory_walks.specs.Ancestors.{full}
use Rattle.theory_walks.specs.Frames.{FrameValue, whole, GrowsTo}
use Rattle.theory_walks.proofs.Walks.{StillFits}
use Rattle.listing_text.specs.declared.entry.Entry as program
use Rattle.listing_text.specs.Listing.{Entry}
use Rattle.listing_text.specs.Views.{entry_of}
use Rattle.theory_listings.specs.Walk as walking
use Rattle.theory_listings.specs.FrameWalk.{line_named}
use Rattle.plane_geom.specs.declared.window.Window.{Window}
use Rattle.rule_model.specs.declared.rule.Rule.{Rule}
use Rattle.rule_model.specs.Tiling.{Tiling, MotionOf, tiling_of, children}
use Rattle.theory_substitution.specs.Points.{Points}
use Rattle.tile_place.specs.declared.placed_tile.PlacedTile.{PlacedTile}
use Rattle.tile_place.proofs.Plane.{IsSettled, its_rule}
use Rattle.tile_shape.specs.declared.address.Address as programmed
use Rattle.tile_shape.specs.Views.{address_of}
use Rattle.theory_windows.specs.FramePatch.{in_frame}
use Rattle.theory_windows.specs.Meeting.{PolygonMeetsBox}
use Rattle.window_cover.specs.Causes.{IsRefusedShift}
use Rattle.window_cover.specs.Windows.{TileOf, box_of, IsWindow, IsOfFrame}
use Rattle.list_verify.specs.Causes.{IsMissingTile, IsMisplaced}
use Rattle.list_verify.specs.FoundLines.{entries_of, AreLinesIn}
use Rattle.list_verify.specs.LineIndex.{HasAddress}
use Rattle.list_verify.specs.Listing.{tile_listed, tiles_listed, NamesTileThere, HasAllTiles}
use Rattle.list_verify.specs.ListLaws.{HasListLaws}
use Rattle.list_verify.specs.LookedUp.{IsMovedOtherwise, IsNotFound}
use Rattle.list_verify.specs.Walked.{IsStoppedBy}
use Rattle.list_verify.specs.declared.list_fault.ListFault.{ListFault}
use Rattle.list_verify.specs.declared.list_fault.ListFault.TheVariants.{TooLong, BadLine, Address as BadAddress, BadKind, NotOfFrame, Double, Missing, WrongPlace, Stray, DepthLimit, CoordLimit, NoMemory}
use Rattle.window_cover.proofs.FrameNames.{lifted-self}
use Rattle.list_verify.proofs.Lines.{listing-on}
use Rattle.list_verify.proofs.Came as came
use Rattle.list_verify.proofs.Came.{HasCome}

module _ (m : Rule) (settled : IsSettled m) (fits : StillFits (children (tiling_of m)))
    (L : HasListLaws (points_of m.order)) (f : FrameValue) (w : Window) (fit : IsWindow w)
    (lines : List program.Entry) (are : AreLinesIn (tiling_of m) f lines) (g : FrameValue)
    (grows : GrowsTo (tiling_of m) f g) (x : PlacedTile) (numbers : List ℕ)
    (c : HasCome m settled fits L f w fit lines are g grows x numbers) where
  abbrev t : Tiling
  t = tiling_of m

  abbrev P : Points
  P = points_of m.order

  abbrev T : AcceptedRule P
  T = its_rule m settled

  abbrev F : Address
  F = full t f

  abbrev d : ℕ
  d = length f.digits

  abbrev listing : List (TileOf t)
  listing = tiles_listed t (entries_of lines)

  abbrev b : Address
  b = address_of x.addr

  abbrev u : TileOf t
  u = in_frame P T.rule F b

  abbrev own : TileOf t
  own = record { address = b; motion = u.motion }

  there : IsOfFrame t g own
  there = came.own-among m settled fits L f w fit lines are g grows x numbers c

  pub missing : (addr : programmed.Address) → address_of addr ≡ b → ((i : ℕ) → ¬ HasAddress lines i b)
      → IsMissingTile t g w (entries_of lines) addr
  missing addr named none = record {
    tile = own;
    its_address = sym named;
    of_frame = there;
    tile_meets = c.comes.meets.1;
    no_line = λ e i same. absurd (came.unlisted m settled fits L f w fit lines are g grows x numbers c none
        (came.line-lists m settled fits L f w fit lines are g grows x numbers c e i (same ∙ named)));
  }

  pub missing-not_all : ((i : ℕ) → ¬ HasAddress lines i b) → HasAllTiles t f w d (entries_of lines) → ⊥
  missing-not_all none all = absurd (L.no_fault T F (is_refused m.order) (box_of t w) d listing
      (listing-on m settled fits L f w fit lines are) all.all_listed (walking.Missing u)
      (c.comes.meets, λ i. absurd (came.unlisted m settled fits L f w fit lines are g grows x numbers c none i)))

  -- ---- where its shift is refused
  pub refused-shift : (value : Point) → value ≡ x.motion.shift
      → is_refused m.order (point_in m.order x.motion.shift) ≡ true → IsRefusedShift t g w value
  refused-shift value same bad = record {
    tile = own;
    of_frame = there;
    tile_meets = c.comes.meets.1;
    its_shift = ap (λ (h : MotionOf t). h.shift) (sym c.its_motion) ∙ ap (point_in m.order) (sym same);
    value_in_order = subst (IsOf m.order) (sym same) c.in_order;
    is_refused = ap (λ (h : MotionOf t). is_refused m.order h.shift) (sym c.its_motion) ∙ bad;
  }

  pub refused-not_all : is_refused m.order (point_in m.order x.motion.shift) ≡ true → HasAllTiles t f w d (entries_of lines) → ⊥
  refused-not_all bad all = absurd (L.no_fault T F (is_refused m.order) (box_of t w) d listing
      (listing-on m settled fits L f w fit lines are) all.all_listed (walking.Refused u)
      (c.comes.meets, ap (λ (h : MotionOf t). is_refused m.order h.shift) (sym c.its_motion) ∙ bad))

  -- ---- where a line has the address
  module _ (i : ℕ) (line : program.Entry) (at : slice_get lines i ≡ Some line) (named : address_of line.address ≡ b) where
    -- with another motion
    pub misplaced : (motion : Moved) → motion ≡ x.motion → (¬ (line.motion ≡ x.motion)) → IsMisplaced t g w (entries_of lines) i motion
    misplaced motion same other = record {
      entry = entry_of line;
      is_line = slice_get-image entry_of line lines i at;
      tile = own;
      its_address = sym named ∙ sym (lifted-self (whole g) (address_of line.address) (ap depth named ∙ c.at_depth));
      of_frame = there;
      tile_meets = c.comes.meets.1;
      its_motion = sym c.its_motion ∙ ap (motion_in m.order) (sym same);
      in_order = subst (λ (h : Moved). IsOf m.order h.shift) (sym same) c.in_order;
      other = λ e. absurd (other (e ∙ same));
    }

    pub misplaced-not_all : IsMovedOtherwise line.motion x.motion → HasAllTiles t f w d (entries_of lines) → ⊥
    misplaced-not_all otherwise all = absurd (L.no_fault T F (is_refused m.order) (box_of t w) d listing
        (listing-on m settled fits L f w fit lines are) all.all_listed (walking.WrongPlace i u.motion)
        (record {
          line = line_named P T.rule F (tile_listed t (entry_of line));
          is_line = slice_get-image (line_named P T.rule F) (tile_listed t (entry_of line)) listing i
              (slice_get-image (tile_listed t) (entry_of line) (entries_of lines) i
              (slice_get-image entry_of line lines i at));
          meets = subst Meets (sym name) c.comes.meets;
          motion = ap (λ (y : TileOf t). y.motion) name;
          other = λ e. absurd (otherwise m.order its_order c.in_order (e ∙ sym c.its_motion));
        }))
      where
        name : in_frame P T.rule F (address_of line.address) ≡ u
        name = ap (in_frame P T.rule F) named

        Meets : TileOf t → Type 0
        Meets y = IsAmong y (frame_tiles P T.rule F) × PolygonMeetsBox P.real (box_of t w) (tile_polygon P T.rule (λ z. z) y)

        its_order : IsOf m.order line.motion.shift
        its_order = AllByRecursion-among (λ (e : Entry). NamesTileThere t f w e
            → IsOf m.order e.motion.shift) (entry_of line) (entries_of lines)
            (IsAmong-map entry_of line lines (came.its_line m settled fits L f w fit lines are g grows x numbers c i line at named)) all.of_order
            (subst Meets (sym name) c.comes.meets).1

  pub not-found : (fault : ListFault) → IsNotFound t lines x fault → IsStoppedBy t f g w (entries_of lines) fault
  not-found (Missing addr) h = record {
    cause = missing addr h.0 (λ i. h.1 i);
    not_all = λ e all. absurd (missing-not_all (λ i. h.1 i) all);
  }
  not-found (WrongPlace number motion) h = record {
    cause = (h.0, h.1, misplaced h.0 h.3 h.4 h.5 motion h.2 (λ e. absurd (h.6 e)));
    not_all = λ e all. absurd (misplaced-not_all h.0 h.3 h.4 h.5 (λ o p q e. absurd (h.7 o p q e)) all);
  }
  not-found (CoordLimit value) h = record {
    cause = inr (refused-shift value h.0 h.1);
    not_all = λ e all. absurd (refused-not_all h.1 all);
  }
  not-found TooLong h = elim h [ ]
  not-found (BadLine line place) h = elim h [ ]
  not-found (BadAddress line fault) h = elim h [ ]
  not-found (BadKind line) h = elim h [ ]
  not-found (NotOfFrame line) h = elim h [ ]
  not-found (Double line) h = elim h [ ]
  not-found (Stray line) h = elim h [ ]
  not-found (DepthLimit addr edge) h = elim h [ ]
  not-found NoMemory h = elim h [ ]
