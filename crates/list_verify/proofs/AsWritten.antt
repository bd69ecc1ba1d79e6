-- The text that is written of the tiles of a window is a right listing of it.
use Rattle.std.proofs.Common.{◌≡◌, inl, inr, ℕ, ◌<◌, ◌≤◌, ◌^◌, max, Bool, true, false, cond, List, [], ◌∷◌, map, length, nat_le, Result, Ok, Err, refl, sym, ap, ap₂, ◌∙◌, subst, arith}
use Rattle.std.specs.List.{AllByRecursion}
use Rattle.theory_addresses.specs.Address.{Address, depth}
use Rattle.theory_addresses.specs.Search.{IsAmong}
use Rattle.cyclo_points.specs.Order.{points_of, is_refused}
use Rattle.cyclo_points.specs.Point.{point_in, IsOf}
use Rattle.theory_dissection.specs.Accepted.{AcceptedRule}
use Rattle.theory_edge_to_edge.specs.Contacts.{tables_of}
use Rattle.theory_addresses.specs.Tables.{child_kinds}
use Rattle.theory_frames.specs.Frame.{at_level, IsTileOf}
use Rattle.theory_walks.specs.Ancestors.{full}
use Rattle.theory_walks.specs.Frames.{FrameValue, whole, IsFrameOf}
use Rattle.lazy_walk.specs.Standing.{Stands}
use Rattle.theory_walks.proofs.InFull.{by_tables}
use Rattle.theory_walks.proofs.Walks.{StillFits}
use Rattle.listing_text.specs.Limits.{most_lines}
use Rattle.listing_text.specs.Lines.{lines_in}
use Rattle.listing_text.specs.Listing.{Entry, entries_from, listing_in}
use Rattle.listing_text.specs.declared.listing_fault.ListingFault.{ListingFault}
use Rattle.listing_text.specs.declared.listing_fault.ListingFault.TheVariants.{TooLong}
use Rattle.std.proofs.lemmas.Bool.{leb-true}
use Rattle.listing_text.specs.Written.{entries_text, CanAllBeListed}
use Rattle.theory_listings.specs.FrameListing.{deepest_listed, AreOfFrame, AreUnrefused}
use Rattle.plane_geom.specs.declared.window.Window.{Window}
use Rattle.rule_model.specs.declared.rule.Rule.{Rule}
use Rattle.rule_model.specs.Tiling.{Tiling, tiling_of, children}
use Rattle.theory_substitution.specs.Points.{Points}
use Rattle.tile_place.specs.declared.placed_tile.PlacedTile.{PlacedTile}
use Rattle.tile_place.specs.Searched.{placed_in}
use Rattle.tile_place.proofs.Plane.{IsSettled, its_rule}
use Rattle.tile_shape.specs.Usable.{AreUsable}
use Rattle.tile_shape.specs.Views.{address_of}
use Rattle.theory_windows.specs.FramePatch.{frame_patch, tile_of_ancestor}
use Rattle.theory_windows.specs.FrameWindow.{AreAllThatMeet, IsLeastDepth}
use Rattle.window_cover.specs.Windows.{TileOf, box_of}
use Rattle.window_cover.proofs.FrameNames.{lifted-self}
use Rattle.list_verify.specs.Depth.{IsListedDepth, IsEnoughListed}
use Rattle.list_verify.specs.Listing.{tile_listed, tiles_listed, IsVerified}
use Rattle.list_verify.specs.Written.{tile_entry, tile_entries, IsListedAs}
use Rattle.list_verify.proofs.WrittenTiles as written
use Rattle.list_verify.proofs.WrittenTiles.{IsListOf}

module _ (m : Rule) (settled : IsSettled m) (usable : AreUsable (children (tiling_of m))) (fits : StillFits (children (tiling_of m)))
    (back : (entries : List Entry) → CanAllBeListed (children (tiling_of m)) entries
    → listing_in (children (tiling_of m)) (entries_text entries) ≡ Ok entries)
    (f g : FrameValue) (is : IsFrameOf (tiling_of m) f) (w : Window) (tiles : List PlacedTile) (text : List ℕ)
    (list : IsListOf (tiling_of m) f g w tiles text) where
  abbrev t : Tiling
  t = tiling_of m

  abbrev P : Points
  P = points_of m.order

  abbrev T : AcceptedRule P
  T = its_rule m settled

  abbrev F : Address
  F = full t f

  abbrev d : ℕ
  d = length g.digits

  abbrev entries : List Entry
  entries = tile_entries tiles

  abbrev listing : List (TileOf t)
  listing = tiles_listed t entries

  own_level : at_level F d ≡ whole g
  own_level = written.own_level m settled usable fits back f g is w tiles text list

  its_stand : (x : PlacedTile) → IsAmong x tiles → Stands t g x
  its_stand = written.its_stand m settled usable fits back f g is w tiles text list

  read : listing_in (children t) text ≡ Ok entries
  read = written.read m settled usable fits back f g is w tiles text list

  -- ---- the depth
  deepest_from : (n : ℕ) → n ≤ d → (xs : List PlacedTile)
      → ((x : PlacedTile) → IsAmong x xs → depth (address_of x.addr) ≡ d) → 0 < length xs
      → deepest_listed n (tiles_listed t (tile_entries xs)) ≡ d
  deepest_from n h xs k some = go xs k some
    where
      step : (a b : ℕ) → a ≡ d → b ≤ d → max a b ≡ d
      step a b e l = omega arith

      most : (a b : ℕ) → a ≡ d → b ≤ d → max a b ≤ d
      most a b e l = omega arith

      low : (xs : List PlacedTile) → ((x : PlacedTile) → IsAmong x xs → depth (address_of x.addr) ≡ d)
          → deepest_listed n (tiles_listed t (tile_entries xs)) ≤ d
      low [] k = h
      low (x ∷ xs) k = most (depth (address_of x.addr)) (deepest_listed n (tiles_listed t (tile_entries xs)))
          (k x (inl refl)) (low xs (λ y i. k y (inr i)))

      go : (xs : List PlacedTile) → ((x : PlacedTile) → IsAmong x xs → depth (address_of x.addr) ≡ d)
          → 0 < length xs → deepest_listed n (tiles_listed t (tile_entries xs)) ≡ d
      go [] k some = absurd (omega (arith, some))
      go (x ∷ xs) k some = step (depth (address_of x.addr))
          (deepest_listed n (tiles_listed t (tile_entries xs))) (k x (inl refl)) (low xs (λ y i. k y (inr i)))

  deepest : deepest_listed (length f.digits) listing ≡ d
  deepest = deepest_from (length f.digits) list.grows.no_shallower tiles (λ x i. (its_stand x i).at_depth) list.some

  pub its_depth : IsListedDepth t f text d
  its_depth = record { entries = entries; read = read; is = sym deepest }

  pub not_deeper : (n : ℕ) → IsEnoughListed t f w text n → d ≤ n
  not_deeper n enough = list.least.least n (omega (arith, enough_low, list.grows.no_shallower)) enough.least.within enough.least.holds
    where
      ok_same : (x y : List Entry) → ◌≡◌ {A = Result (List Entry) ListingFault} (Ok x) (Ok y) → x ≡ y
      ok_same x y e = cc

      same : enough.entries ≡ entries
      same = ok_same enough.entries entries (sym enough.read ∙ read)

      enough_low : d ≤ n
      enough_low = subst (λ k. k ≤ n) (ap (λ es. deepest_listed (length f.digits) (tiles_listed t es)) same ∙ deepest) enough.least.not_below

  -- ---- the listing is right
  of_frame : AreOfFrame P T.rule (at_level F d) listing
  of_frame = subst (λ a. AreOfFrame P T.rule a listing) (sym own_level)
      (go tiles (λ x i. by_tables m settled fits f is (whole g) (address_of x.addr) (its_stand x i).of_frame))
    where
      go : (xs : List PlacedTile) → ((x : PlacedTile) → IsAmong x xs
          → IsTileOf (child_kinds (tables_of P T.rule)) (whole g) (address_of x.addr))
          → AreOfFrame P T.rule (whole g) (tiles_listed t (tile_entries xs))
      go [] h = tt
      go (x ∷ xs) h = (h x (inl refl), go xs (λ y i. h y (inr i)))

  lifted_are : map (tile_of_ancestor (whole g)) listing ≡ map (placed_in t.order) tiles
  lifted_are = go tiles its_stand
    where
      one : (x : PlacedTile) → Stands t g x → tile_of_ancestor (whole g) (tile_listed t (tile_entry x)) ≡ placed_in t.order x
      one x s = ap (λ a. record { address = a; motion = (placed_in t.order x).motion }) (lifted-self (whole g) (address_of x.addr) s.at_depth)

      go : (xs : List PlacedTile) → ((x : PlacedTile) → IsAmong x xs → Stands t g x)
          → map (tile_of_ancestor (whole g)) (tiles_listed t (tile_entries xs)) ≡ map (placed_in t.order) xs
      go [] h = refl
      go (x ∷ xs) h = ap₂ (λ (y : TileOf t) (ys : List (TileOf t)). y ∷ ys) (one x (h x (inl refl))) (go xs (λ y i. h y (inr i)))

  all_that_meet : AreAllThatMeet P.real (TileOf t) (frame_patch P T.rule (at_level F d)) (box_of t w) (map (tile_of_ancestor (at_level F d)) listing)
  all_that_meet = subst (λ a. AreAllThatMeet P.real (TileOf t) (frame_patch P T.rule a) (box_of t w) (map (tile_of_ancestor a) listing))
      (sym own_level)
      (subst (AreAllThatMeet P.real (TileOf t) (frame_patch P T.rule (whole g)) (box_of t w)) (sym lifted_are) list.drawn)

  least_there : IsLeastDepth P T.rule F (box_of t w) (deepest_listed (length f.digits) listing) d
  least_there = subst (λ n. IsLeastDepth P T.rule F (box_of t w) n d) (sym deepest)
      (record { not_below = omega arith; within = list.least.within; holds = list.least.holds; least = λ k low high holds. low })

  of_order : (xs : List PlacedTile) → ((x : PlacedTile) → IsAmong x xs → Stands t g x)
      → AllByRecursion (λ (e : Entry). IsOf t.order e.motion.shift) (tile_entries xs)
  of_order [] h = tt
  of_order (x ∷ xs) h = ((h x (inl refl)).in_order, of_order xs (λ y i. h y (inr i)))

  none_refused : (xs : List PlacedTile) → ((x : PlacedTile) → IsAmong x xs
      → is_refused t.order (point_in t.order x.motion.shift) ≡ false)
      → AreUnrefused (is_refused t.order) (tiles_listed t (tile_entries xs))
  none_refused [] h = tt
  none_refused (x ∷ xs) h = (h x (inl refl), none_refused xs (λ y i. h y (inr i)))

  pub verified : IsVerified t f w text (length tiles)
  verified = record {
    entries = entries;
    read = read;
    count = sym (written.count_entries m settled usable fits back f g is w tiles text list tiles);
    right = record {
      of_order = of_order tiles its_stand;
      right = record { depth = d; least = least_there; of_frame = of_frame; all_that_meet = all_that_meet };
    };
    unrefused = none_refused tiles (written.unrefused_one m settled usable fits back f g is w tiles text list);
    centre_found = list.within.centre_found;
  }

  pub few_lines : length (lines_in text) ≤ most_lines
  few_lines = few (nat_le (length (lines_in text)) most_lines) refl read
    where
      few : (b : Bool) → nat_le (length (lines_in text)) most_lines ≡ b
          → cond b (entries_from (children t) 1 (lines_in text)) (Err TooLong) ≡ Ok entries
          → length (lines_in text) ≤ most_lines
      few true e h = leb-true (length (lines_in text)) most_lines e
      few false e h = absurd (cc h)

  pub listed_as : (n : ℕ) → n ≡ length tiles → IsListedAs t f g w text n
  listed_as n e = record {
    grows = list.grows;
    depth = its_depth;
    not_beyond = not_deeper;
    few = few_lines;
    right = subst (IsVerified t f w text) (sym e) verified;
  }

  pub fits_count : length tiles < 2 ^ 32
  fits_count = omega (arith, (written.not_many m settled usable fits back f g is w tiles text list))
