-- The line of a tile that the walk comes to: it was found before, or is found now.
use Rattle.std.proofs.Common.{◌≡◌, ◌⊎◌, inl, inr, ℕ, ◌<◌, ◌^◌, Bool, true, false, List, [], ◌∷◌, ◌++◌, get_or, slice_get, slice_set, Some, refl, sym, ap, ◌∙◌, subst, append-nil}
use Rattle.std.proofs.lemmas.List.{map-append}
use Rattle.std.proofs.lemmas.Option.{slice_get_within}
use Rattle.theory_addresses.specs.Address.{Address}
use Rattle.theory_addresses.specs.Search.{IsAmong}
use Rattle.theory_addresses.proofs.Lists.{AllByRecursion-among, AllByRecursion-append, IsAmong-map, IsAmong-append_right}
use Rattle.cyclo_points.specs.Order.{points_of, is_refused}
use Rattle.cyclo_points.specs.Point.{point_in, IsOf, IsWithin}
use Rattle.cyclo_points.specs.Motion.{motion_in}
use Rattle.cyclo_points.specs.declared.motion.Motion.{Motion as Moved}
use Rattle.theory_dissection.specs.Accepted.{AcceptedRule}
use Rattle.theory_walks.specs.Ancestors.{full}
use Rattle.theory_walks.specs.Frames.{FrameValue, GrowsTo}
use Rattle.theory_walks.proofs.Walks.{StillFits}
use Rattle.listing_text.specs.declared.entry.Entry as program
use Rattle.listing_text.specs.Views.{entry_of}
use Rattle.theory_listings.specs.FrameWalk.{line_named, IsListedIn, IsWalkOn}
use Rattle.plane_geom.specs.declared.window.Window.{Window}
use Rattle.rule_model.specs.declared.rule.Rule.{Rule}
use Rattle.rule_model.specs.Tiling.{Tiling, MotionOf, tiling_of, children}
use Rattle.theory_substitution.specs.Points.{Points}
use Rattle.tile_place.specs.declared.placed_tile.PlacedTile.{PlacedTile}
use Rattle.tile_place.proofs.Plane.{IsSettled, its_rule}
use Rattle.tile_shape.specs.Views.{address_of}
use Rattle.theory_windows.specs.FramePatch.{in_frame}
use Rattle.theory_windows.proofs.Members.{among-map}
use Rattle.window_cover.specs.Windows.{TileOf, box_of, IsWindow}
use Rattle.list_verify.specs.declared.found_lines.FoundLines.{FoundLines}
use Rattle.list_verify.specs.FoundLines.{entries_of, AreLinesIn, no_line, tile_of_line, tiles_listed_so_far, IsInPlace, AreMarked, IsWalkedTo, HasMoreLines}
use Rattle.list_verify.specs.Listing.{tile_listed, tiles_listed}
use Rattle.list_verify.specs.ListLaws.{HasListLaws}
use Rattle.list_verify.specs.LookedUp.{IsKnown, IsNew, IsLookedUp}
use Rattle.list_verify.proofs.Chains.{get_or-at}
use Rattle.list_verify.proofs.Lines.{listed-among, one-tile}
use Rattle.list_verify.proofs.Marks.{set-length, marked-more}
use Rattle.list_verify.proofs.Came as came
use Rattle.list_verify.proofs.Came.{HasCome}

module _ (m : Rule) (settled : IsSettled m) (fits : StillFits (children (tiling_of m)))
    (L : HasListLaws (points_of m.order)) (f : FrameValue) (w : Window) (fit : IsWindow w)
    (lines : List program.Entry) (are : AreLinesIn (tiling_of m) f lines) (g : FrameValue)
    (grows : GrowsTo (tiling_of m) f g) (x : PlacedTile) (numbers : List ℕ)
    (c : HasCome m settled fits L f w fit lines are g grows x numbers) where
  abbrev t : Tiling
  t = tiling_of m

  abbrev P : Points
  P = points_of m.order

  abbrev T : AcceptedRule P
  T = its_rule m settled

  abbrev F : Address
  F = full t f

  abbrev listing : List (TileOf t)
  listing = tiles_listed t (entries_of lines)

  abbrev b : Address
  b = address_of x.addr

  abbrev u : TileOf t
  u = in_frame P T.rule F b

  -- ---- its line, with the tile's motion
  module _ (i : ℕ) (line : program.Entry) (at : slice_get lines i ≡ Some line) (named : address_of line.address ≡ b) where
    its : tile_of_line t f lines i ≡ u
    its = came.its_tile m settled fits L f w fit lines are g grows x numbers c i line at named

    listed : line.motion ≡ x.motion → IsListedIn P T.rule F listing u
    listed same = (
      line_named P T.rule F (tile_listed t (entry_of line)),
      IsAmong-map (line_named P T.rule F) (tile_listed t (entry_of line)) listing
          (listed-among m settled fits L f w fit lines are line
          (came.its_line m settled fits L f w fit lines are g grows x numbers c i line at named)),
      ap (in_frame P T.rule F) named,
      ap (motion_in m.order) same ∙ c.its_motion,
    )

    in-place : line.motion ≡ x.motion → IsWithin (2 ^ 24) x.motion.shift → IsInPlace t f lines i
    in-place same within = record {
      below = slice_get_within lines i line at;
      its_motion = ap (λ (e : program.Entry). motion_in m.order e.motion) own_line
          ∙ ap (motion_in m.order) same ∙ c.its_motion ∙ ap (λ (y : TileOf t). y.motion) (sym its);
      turn_below = subst (λ (h : Moved). h.turn < P.order) moved c.turn_below;
      shift_within = subst (λ (h : Moved). IsWithin (2 ^ 24) h.shift) moved within;
      in_order = subst (λ (h : Moved). IsOf m.order h.shift) moved c.in_order;
    }
      where
        own_line : get_or lines i no_line ≡ line
        own_line = get_or-at lines i line no_line at

        moved : x.motion ≡ (get_or lines i no_line).motion
        moved = sym (ap (λ (e : program.Entry). e.motion) own_line ∙ same)

    -- ---- what is found then
    module _ (marks : List Bool) (marked : AreMarked t f lines numbers marks) where
      pub known-among : slice_get marks i ≡ Some true → IsAmong u (tiles_listed_so_far t f lines numbers)
      known-among known = subst (λ y. IsAmong y (tiles_listed_so_far t f lines numbers)) its
          (IsAmong-map (tile_of_line t f lines) i numbers ((marked.marked i).0 known))

      module _ (fresh : ¬ (slice_get marks i ≡ Some true)) where
        -- it is new
        u-new : ¬ IsAmong u (tiles_listed_so_far t f lines numbers)
        u-new k =
            let j = among-map (tile_of_line t f lines) u numbers k in
            let place = AllByRecursion-among (IsInPlace t f lines) j.0 numbers j.1 marked.in_place in
            let same : j.0 ≡ i = one-tile m settled fits L f w fit lines are j.0 i place.below
            (slice_get_within lines i line at) (sym j.2 ∙ sym its) in
            absurd (fresh ((marked.marked i).1 (subst (λ n. IsAmong n numbers) same j.1)))

        more-tiles : tiles_listed_so_far t f lines (numbers ++ i ∷ []) ≡ tiles_listed_so_far t f lines numbers ++ u ∷ []
        more-tiles = map-append (tile_of_line t f lines) numbers (i ∷ []) ∙ ap (λ y. tiles_listed_so_far t f lines numbers ++ y ∷ []) its

        pub new-walk : line.motion ≡ x.motion → is_refused m.order (point_in m.order x.motion.shift) ≡ false
            → IsWalkedTo t f w lines (numbers ++ i ∷ [])
        new-walk same kept = subst (λ ts. IsWalkOn P (is_refused m.order) T.rule F (box_of t w) listing ts) (sym more-tiles)
            (c.comes.onward (λ k. absurd (u-new k)) (ap (λ (h : MotionOf t). is_refused m.order h.shift) (sym c.its_motion) ∙ kept) (listed same))

        pub new-among : IsAmong u (tiles_listed_so_far t f lines (numbers ++ i ∷ []))
        new-among = subst (IsAmong u) (sym more-tiles) (IsAmong-append_right u (tiles_listed_so_far t f lines numbers) (u ∷ []) (inl refl))

        pub new-marked : line.motion ≡ x.motion → IsWithin (2 ^ 24) x.motion.shift
            → AreMarked t f lines (numbers ++ i ∷ []) (slice_set marks i true)
        new-marked same within = record {
          in_place = AllByRecursion-append (IsInPlace t f lines) numbers (i ∷ []) marked.in_place (in-place same within, tt);
          count = set-length marks i true ∙ marked.count;
          marked = marked-more marks numbers i (subst (λ n. i < n) (sym marked.count) (slice_get_within lines i line at)) marked.marked;
        }

  -- ---- what comes of looking for it
  pub record IsNext (old new : FoundLines) : Type 0 where
    pub stays : g ≡ f
    pub are_marked : AreMarked t f lines new.lines.items new.marks.items
    pub more : HasMoreLines old.lines.items new.lines.items
    pub among : IsAmong u (tiles_listed_so_far t f lines new.lines.items)
    pub walk : (((i : ℕ) → ¬ (slice_get old.marks.items i ≡ Some true))
        ⊎ IsWalkedTo t f w lines old.lines.items) → IsWalkedTo t f w lines new.lines.items

  pub looked-up : (old new : FoundLines) → old.lines.items ≡ numbers
      → AreMarked t f lines old.lines.items old.marks.items → (number : ℕ)
      → IsLookedUp old new lines x number → IsNext old new
  looked-up old new own_numbers marked number h = at h.known_or_new
    where
      mine : AreMarked t f lines numbers old.marks.items
      mine = subst (λ ns. AreMarked t f lines ns old.marks.items) own_numbers marked

      at : IsKnown old new number ⊎ IsNew old new h.line x number → IsNext old new
      at (inl k) = record {
        stays = came.stays m settled fits L f w fit lines are g grows x numbers c number h.line h.is_line h.its_address;
        are_marked = subst (λ ns. AreMarked t f lines ns new.marks.items) (sym k.same_lines)
            (subst (λ ms. AreMarked t f lines old.lines.items ms) (sym k.same_marks) marked);
        more = ([], k.same_lines ∙ sym (append-nil old.lines.items));
        among = subst (λ ns. IsAmong u (tiles_listed_so_far t f lines ns)) (sym own_numbers ∙ sym k.same_lines)
            (known-among number h.line h.is_line h.its_address old.marks.items mine k.known);
        walk = λ before. walked before;
      }
        where
          walked : (((i : ℕ) → ¬ (slice_get old.marks.items i ≡ Some true))
              ⊎ IsWalkedTo t f w lines old.lines.items) → IsWalkedTo t f w lines new.lines.items
          walked (inl none) = absurd (none number k.known)
          walked (inr walk) = subst (λ ns. IsWalkedTo t f w lines ns) (sym k.same_lines) walk
      at (inr k) = record {
        stays = came.stays m settled fits L f w fit lines are g grows x numbers c number h.line h.is_line h.its_address;
        are_marked = subst (λ ns. AreMarked t f lines ns new.marks.items) (sym more-is)
            (subst (λ ms. AreMarked t f lines (numbers ++ number ∷ []) ms) (sym k.marked)
            (new-marked number h.line h.is_line h.its_address old.marks.items mine fresh k.its_motion k.shift_within));
        more = (number ∷ [], k.one_more);
        among = subst (λ ns. IsAmong u (tiles_listed_so_far t f lines ns)) (sym more-is)
            (new-among number h.line h.is_line h.its_address old.marks.items mine fresh);
        walk = λ before. subst (λ ns. IsWalkedTo t f w lines ns) (sym more-is)
            (new-walk number h.line h.is_line h.its_address old.marks.items mine fresh k.its_motion (k.unrefused m.order c.in_order));
      }
        where
          fresh : ¬ (slice_get old.marks.items number ≡ Some true)
          fresh e = absurd (k.not_known e)

          more-is : new.lines.items ≡ numbers ++ number ∷ []
          more-is = k.one_more ∙ ap (λ (ns : List ℕ). ns ++ number ∷ []) own_numbers
