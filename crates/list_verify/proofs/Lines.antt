-- Lines of the frame that are lifted to its depth, as a listing of the theory.
use Rattle.std.proofs.Common.{◌≡◌, inl, inr, ℕ, zero, suc, ◌<◌, ◌≤◌, max, List, [], ◌∷◌, map, length, get_or, slice_get, Some, refl, sym, ap, ◌∙◌, subst, arith}
use Rattle.theory_addresses.specs.Address.{Address, depth}
use Rattle.theory_addresses.specs.Search.{IsAmong}
use Rattle.theory_addresses.specs.Tables.{child_kinds}
use Rattle.theory_addresses.proofs.Lists.{AllByRecursion-among, IsAmong-map}
use Rattle.theory_addresses.proofs.Ranges.{place-among}
use Rattle.cyclo_points.specs.Order.{points_of}
use Rattle.theory_dissection.specs.Accepted.{AcceptedRule, NamesTile}
use Rattle.theory_edge_to_edge.specs.Contacts.{tables_of}
use Rattle.theory_frames.specs.Frame.{at_level, IsTileOf, lifted_in}
use Rattle.theory_walks.specs.Ancestors.{full}
use Rattle.theory_walks.specs.Frames.{FrameValue, whole}
use Rattle.theory_walks.proofs.InFull.{names, deep, by_tables, level-grown, tile-full}
use Rattle.theory_walks.proofs.Walks.{StillFits, GrowsTo-self}
use Rattle.listing_text.specs.declared.entry.Entry as program
use Rattle.listing_text.specs.Views.{entry_of}
use Rattle.theory_listings.specs.FrameListing.{deepest_listed, AreOfFrame}
use Rattle.theory_listings.specs.FrameWalk.{IsListingOn}
use Rattle.theory_listings.proofs.FrameLines.{distinct-through}
use Rattle.plane_geom.specs.declared.window.Window.{Window}
use Rattle.rule_model.specs.declared.rule.Rule.{Rule}
use Rattle.rule_model.specs.Tiling.{Tiling, tiling_of, children}
use Rattle.theory_substitution.specs.Points.{Points}
use Rattle.tile_place.proofs.Plane.{IsSettled, its_rule}
use Rattle.tile_shape.specs.Views.{address_of}
use Rattle.theory_windows.specs.Distinct.{AreDistinct}
use Rattle.theory_windows.specs.FrameCover.{IsWindowOn}
use Rattle.theory_windows.specs.FramePatch.{in_frame}
use Rattle.theory_windows.proofs.Places.{distinct-places}
use Rattle.window_cover.specs.Windows.{TileOf, box_of, IsWindow}
use Rattle.window_cover.proofs.FrameNames.{lifted-self}
use Rattle.list_verify.specs.FoundLines.{entries_of, AreLinesIn, no_line, tile_of_line}
use Rattle.list_verify.specs.Listing.{tile_listed, tiles_listed}
use Rattle.list_verify.specs.ListLaws.{HasListLaws}
use Rattle.list_verify.proofs.Chains.{get_or-at}
use Rattle.list_verify.proofs.LineNumbers.{one-address, one-number, at-number}

module _ (m : Rule) (settled : IsSettled m) (fits : StillFits (children (tiling_of m)))
    (L : HasListLaws (points_of m.order)) (f : FrameValue) (w : Window) (fit : IsWindow w)
    (lines : List program.Entry) (are : AreLinesIn (tiling_of m) f lines) where
  abbrev t : Tiling
  t = tiling_of m

  abbrev P : Points
  P = points_of m.order

  abbrev T : AcceptedRule P
  T = its_rule m settled

  abbrev F : Address
  F = full t f

  abbrev d : ℕ
  d = length f.digits

  abbrev kinds : List (List ℕ)
  kinds = child_kinds (tables_of P T.rule)

  abbrev listing : List (TileOf t)
  listing = tiles_listed t (entries_of lines)

  -- ---- the frame
  pub its_names : NamesTile P T.rule F
  its_names = names m settled fits f are.frame

  pub deep-full : depth F ≡ 64
  deep-full = deep m settled fits f are.frame

  pub window-on : IsWindowOn P T F (box_of t w)
  window-on = record { frame = its_names; wide = omega (arith, fit.some_width); high = omega (arith, fit.some_height) }

  pub own-level : at_level F d ≡ whole f
  own-level = level-grown m settled fits f are.frame f (GrowsTo-self t f are.frame)

  -- ---- the lines
  pub line-of : (e : program.Entry) → IsAmong e lines → IsTileOf (children t) (whole f) (address_of e.address)
  line-of e i = AllByRecursion-among (λ (e : program.Entry). IsTileOf (children t) (whole f) (address_of e.address)) e lines i are.of_frame

  pub line-deep : (e : program.Entry) → IsAmong e lines → depth (address_of e.address) ≡ d
  line-deep e i = AllByRecursion-among (λ (e : program.Entry). depth (address_of e.address) ≡ d) e lines i are.lifted

  -- the depth to which they grow the frame is its own
  pub deepest-is : deepest_listed d listing ≡ d
  deepest-is = go lines line-deep
    where
      step : {a b : ℕ} → a ≡ d → b ≡ d → max a b ≡ d
      step e h = omega arith

      go : (xs : List program.Entry) → ((e : program.Entry) → IsAmong e xs → depth (address_of e.address) ≡ d)
          → deepest_listed d (tiles_listed t (entries_of xs)) ≡ d
      go [] h = refl
      go (x ∷ xs) h = step (h x (inl refl)) (go xs (λ e i. h e (inr i)))

  all-of : (xs : List program.Entry) (g : Address)
      → ((e : program.Entry) → IsAmong e xs → IsTileOf kinds g (address_of e.address))
      → AreOfFrame P T.rule g (tiles_listed t (entries_of xs))
  all-of [] g h = tt
  all-of (x ∷ xs) g h = (h x (inl refl), all-of xs g (λ e i. h e (inr i)))

  its_frame : AreOfFrame P T.rule (at_level F (deepest_listed d listing)) listing
  its_frame = subst (λ k. AreOfFrame P T.rule (at_level F k) listing) (sym deepest-is)
      (subst (λ g. AreOfFrame P T.rule g listing) (sym own-level)
      (all-of lines (whole f) (λ e i. by_tables m settled fits f are.frame (whole f)
      (address_of e.address) (line-of e i))))

  addresses : AreDistinct (map (λ (e : program.Entry). address_of e.address) lines)
  addresses = distinct-places (map (λ (e : program.Entry). address_of e.address) lines) one
    where
      place : (xs : List program.Entry) (i : ℕ) (a : Address) → slice_get (map (λ (e : program.Entry). address_of e.address) xs) i ≡ Some a
          → (e : program.Entry) × (slice_get xs i ≡ Some e) × (address_of e.address ≡ a)
      place [] i a h = absurd (cc h)
      place (x ∷ xs) zero a h = (x, refl, inside h)
        where
          inside : {b c : Address} → Some b ≡ Some c → b ≡ c
          inside e = cc (e)
      place (x ∷ xs) (suc i) a h = place xs i a h

      one : (i j : ℕ) (a : Address) → slice_get (map (λ (e : program.Entry). address_of e.address) lines)
          i ≡ Some a → slice_get (map (λ (e : program.Entry). address_of e.address) lines) j ≡ Some a → i ≡ j
      one i j a h k = let p = place lines i a h in let q = place lines j a k in one-number lines are.apart i j p.0 q.0 p.1 q.1 (p.2 ∙ sym q.2)

  its_distinct : AreDistinct (map (λ (x : TileOf t). lifted_in (at_level F (deepest_listed d listing)) x.address) listing)
  its_distinct = subst (λ k. AreDistinct (map (λ (x : TileOf t). lifted_in (at_level F k) x.address) listing)) (sym deepest-is)
      (subst (λ g. AreDistinct (map (λ (x : TileOf t). lifted_in g x.address) listing)) (sym own-level) (same lines line-deep addresses))
    where
      lift : program.Entry → Address
      lift e = lifted_in (whole f) (address_of e.address)

      mapped : (xs : List program.Entry) → AreDistinct (map lift xs)
          → AreDistinct (map (λ (x : TileOf t). lifted_in (whole f) x.address)
          (tiles_listed t (entries_of xs)))
      mapped xs h = subst (λ (ys : List Address). AreDistinct ys) (images xs) h
        where
          images : (xs : List program.Entry) → map lift xs ≡ map (λ (x : TileOf t). lifted_in (whole f) x.address) (tiles_listed t (entries_of xs))
          images [] = refl
          images (x ∷ xs) = ap (λ (ys : List Address). lift x ∷ ys) (images xs)

      same : (xs : List program.Entry) → ((e : program.Entry) → IsAmong e xs
          → depth (address_of e.address) ≡ d) → AreDistinct
          (map (λ (e : program.Entry). address_of e.address) xs)
          → AreDistinct (map (λ (x : TileOf t). lifted_in (whole f) x.address) (tiles_listed t (entries_of xs)))
      same xs h dist = mapped xs (distinct-through (λ (e : program.Entry). address_of e.address) lift xs
          (λ x y i j e. sym (lifted-self (whole f) (address_of x.address) (h x i)) ∙ e ∙ lifted-self (whole f) (address_of y.address) (h y j)) dist)

  -- the listing of the theory
  pub listing-on : IsListingOn P T F (box_of t w) d listing
  listing-on = record {
    window = window-on;
    within = subst (λ k. k ≤ depth F) (sym deepest-is) (let e = deep-full in let h = are.frame.at_most_64 in omega arith);
    of_frame = its_frame;
    distinct = its_distinct;
  }

  -- ---- a line by its number
  pub listed-among : (e : program.Entry) → IsAmong e lines → IsAmong (tile_listed t (entry_of e)) listing
  listed-among e i = IsAmong-map (tile_listed t) (entry_of e) (entries_of lines) (IsAmong-map entry_of e lines i)

  pub number-among : (i : ℕ) (e : program.Entry) → slice_get lines i ≡ Some e → IsAmong e lines
  number-among i e at = place-among e lines i at

  pub tile-is : (i : ℕ) (e : program.Entry) → slice_get lines i ≡ Some e → tile_of_line t f lines i ≡ in_frame P T.rule F (address_of e.address)
  tile-is i e at = ap (λ (x : program.Entry). in_frame P T.rule F (address_of x.address)) (get_or-at lines i e no_line at)

  pub line-tile : (e : program.Entry) → IsAmong e lines → IsTileOf kinds F (address_of e.address)
  line-tile e i = tile-full m settled fits f are.frame (address_of e.address) (line-of e i)

  -- lines of one tile are one
  pub one-tile : (i j : ℕ) → i < length lines → j < length lines → tile_of_line t f lines i ≡ tile_of_line t f lines j → i ≡ j
  one-tile i j hi hj same =
      let a = get_or lines i no_line in
      let b = get_or lines j no_line in
      let ia = at-number lines i hi in
      let jb = at-number lines j hj in
      one-number lines are.apart i j a b ia jb
      (one-address F (address_of a.address) (address_of b.address) d (line-deep a (number-among i a ia))
      (line-deep b (number-among j b jb)) (ap (λ (x : TileOf t). x.address) same))
