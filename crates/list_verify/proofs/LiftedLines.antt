-- Lines of a listing that are lifted to one depth: they are of the frame, and say the same as before.
use Rattle.std.proofs.Common.{◌≡◌, ◌↔◌, ℕ, ◌≤◌, List, [], ◌∷◌, map, length, find, refl, sym, ap, ap₂, ◌∙◌, subst, arith}
use Rattle.theory_addresses.specs.Address.{Address, depth}
use Rattle.theory_addresses.specs.Search.{IsAmong}
use Rattle.theory_addresses.specs.Tables.{child_kinds}
use Rattle.theory_addresses.proofs.Lists.{AllByRecursion-among, AllByRecursion-from, AllByRecursion-map, IsAmong-map}
use Rattle.cyclo_points.specs.Order.{points_of, is_refused}
use Rattle.cyclo_points.specs.Point.{point_in}
use Rattle.theory_dissection.specs.Accepted.{AcceptedRule}
use Rattle.theory_dissection.specs.Polygons.{tile_polygon}
use Rattle.theory_dissection.proofs.Setting.{Setting}
use Rattle.theory_edge_to_edge.specs.Contacts.{tables_of}
use Rattle.theory_frames.specs.Contain.{values_outward}
use Rattle.theory_frames.specs.Frame.{at_level, IsTileOf, lifted_in}
use Rattle.theory_walks.specs.Ancestors.{full}
use Rattle.theory_walks.specs.Frames.{FrameValue, whole, IsFrameOf, GrowsTo}
use Rattle.theory_walks.proofs.Ancestors.{full-later}
use Rattle.theory_walks.proofs.InFull.{names, deep, level-grown}
use Rattle.theory_walks.proofs.Walks.{StillFits}
use Rattle.listing_text.specs.declared.entry.Entry as program
use Rattle.listing_text.specs.Listing.{Entry}
use Rattle.listing_text.specs.Views.{entry_of}
use Rattle.theory_listings.specs.FrameListing.{AreOfFrame}
use Rattle.theory_listings.specs.FrameLifted.{SayTheSame}
use Rattle.plane_geom.specs.declared.window.Window.{Window}
use Rattle.rule_model.specs.declared.rule.Rule.{Rule}
use Rattle.rule_model.specs.Tiling.{Tiling, tiling_of, children}
use Rattle.theory_substitution.specs.Points.{Points}
use Rattle.tile_place.proofs.Plane.{IsSettled, its_rule}
use Rattle.tile_shape.specs.Views.{address_of}
use Rattle.theory_windows.specs.FramePatch.{in_frame, tile_of_ancestor}
use Rattle.theory_windows.specs.Meeting.{PolygonMeetsBox}
use Rattle.theory_windows.proofs.Members.{among-map}
use Rattle.theory_windows.proofs.Renamed.{lifted-depth, lifted-tile, shorter}
use Rattle.window_cover.specs.Windows.{TileOf, box_of, IsWindow}
use Rattle.list_verify.specs.FoundLines.{entries_of, AreLinesIn}
use Rattle.list_verify.specs.Lifted.{entry_lifted, deepest_entry, AreLifted}
use Rattle.list_verify.specs.LineIndex.{NoneAgain}
use Rattle.list_verify.specs.Listing.{tile_listed, tiles_listed, NamesTileThere}
use Rattle.list_verify.specs.ListLaws.{HasListLaws}
use Rattle.list_verify.specs.Walked.{first_refused_at}

module _ (m : Rule) (settled : IsSettled m) (fits : StillFits (children (tiling_of m)))
    (L : HasListLaws (points_of m.order)) (f : FrameValue) (is : IsFrameOf (tiling_of m) f) (w : Window)
    (fit : IsWindow w)
    (entries : List Entry) (g : FrameValue) (grows : GrowsTo (tiling_of m) f g)
    (deep_is : length g.digits ≡ deepest_entry (tiling_of m) (length f.digits) entries) where
  abbrev t : Tiling
  t = tiling_of m

  abbrev P : Points
  P = points_of m.order

  abbrev T : AcceptedRule P
  T = its_rule m settled

  abbrev setting : Setting
  setting = record { points = P; laws = L.search.points; accepted = T }

  abbrev F : Address
  F = full t f

  abbrev d : ℕ
  d = length f.digits

  abbrev kinds : List (List ℕ)
  kinds = child_kinds (tables_of P T.rule)

  abbrev listing : List (TileOf t)
  listing = tiles_listed t entries

  abbrev low : ℕ
  low = deepest_entry t d entries

  pub whole-low : at_level F low ≡ whole g
  whole-low = ap (at_level F) (sym deep_is) ∙ level-grown m settled fits f is g grows

  pub within : low ≤ depth F
  within = subst (λ n. n ≤ depth F) deep_is (let e = deep m settled fits f is in let h = grows.is_frame.at_most_64 in omega arith)

  pub same-full : full t g ≡ F
  same-full = full-later t f g grows

  pub centre-same : first_refused_at t g w ≡ first_refused_at t f w
  centre-same = ap (λ a. find (is_refused m.order) (values_outward P T.rule a (point_in m.order w.centre) 0 65)) same-full

  module _ (lines : List program.Entry) (are : AreLifted (children t) (whole g) entries (entries_of lines)) where
    pub own-tile : (x : Entry) → IsAmong x entries → IsTileOf kinds (at_level F low) x.address
    own-tile x i = subst (λ a. IsTileOf kinds a x.address) (sym whole-low)
        (subst (λ k. IsTileOf k (whole g) x.address) (sym settled.same_child_kinds)
        (AllByRecursion-among (λ (e : Entry). IsTileOf (children t) (whole g) e.address) x entries i
        are.of_frame))

    pub frame-of : AreOfFrame P T.rule (at_level F low) listing
    frame-of = AllByRecursion-map (λ (x : TileOf t). IsTileOf kinds (at_level F low) x.address) (tile_listed t) entries
        (AllByRecursion-from (λ (e : Entry). IsTileOf kinds (at_level F low) e.address) entries own-tile)

    abbrev lift : TileOf t → TileOf t
    lift x = tile_of_ancestor (at_level F low) x

    pub lifted-are : tiles_listed t (entries_of lines) ≡ map lift listing
    lifted-are = ap (tiles_listed t) are.are ∙ images entries
      where
        images : (es : List Entry) → tiles_listed t (map (entry_lifted (whole g)) es) ≡ map lift (tiles_listed t es)
        images [] = refl
        images (e ∷ es) = ap₂ (λ (x : TileOf t) (xs : List (TileOf t)). x ∷ xs)
            (ap (λ a. tile_of_ancestor a (tile_listed t e)) (sym whole-low)) (images es)

    abbrev others : List (TileOf t)
    others = tiles_listed t (entries_of lines)

    pub say : SayTheSame P (is_refused m.order) T.rule F (box_of t w) d listing others
    say = subst (SayTheSame P (is_refused m.order) T.rule F (box_of t w) d listing) (sym lifted-are)
        (L.lifted T F (names m settled fits f is) (is_refused m.order) (box_of t w) d listing within frame-of)

    -- a line lifted is one of the frame, of its depth
    lift-of : (e : program.Entry) → IsAmong e lines → (x : Entry) × IsAmong x entries × (address_of e.address ≡ lifted_in (at_level F low) x.address)
    lift-of e i =
        let a = among-map (entry_lifted (whole g)) (entry_of e) entries (subst (IsAmong (entry_of e)) are.are (IsAmong-map entry_of e lines i)) in
        (a.0, a.1, ap (λ (y : Entry). y.address) a.2 ∙ ap (λ (b : Address). lifted_in b a.0.address) (sym whole-low))

    pub lines-in : NoneAgain lines (length lines) → AreLinesIn t g lines
    lines-in apart = record {
      frame = grows.is_frame;
      of_frame = AllByRecursion-from (λ (e : program.Entry). IsTileOf (children t) (whole g) (address_of e.address)) lines each;
      lifted = AllByRecursion-from (λ (e : program.Entry). depth (address_of e.address) ≡ length g.digits) lines
          (λ e i. let x = lift-of e i in ap depth x.2
          ∙ lifted-depth setting F (names m settled fits f is) low within x.0.address (own-tile x.0 x.1)
          ∙ sym deep_is);
      apart = apart;
    }
      where
        each : (e : program.Entry) → IsAmong e lines → IsTileOf (children t) (whole g) (address_of e.address)
        each e i =
            let x = lift-of e i in
            let N = names m settled fits f is in
            let tile = own-tile x.0 x.1 in
            subst (λ b. IsTileOf (children t) (whole g) b) (sym x.2)
            (subst (λ a. IsTileOf (children t) a (lifted_in (at_level F low) x.0.address)) whole-low
            (subst (λ k. IsTileOf k (at_level F low) (lifted_in (at_level F low) x.0.address)) settled.same_child_kinds
            (shorter setting F N low within (lifted_in (at_level F low) x.0.address) (lifted-tile setting F N low within x.0.address tile)
            (same-at_most (lifted-depth setting F N low within x.0.address tile)))))
          where
            same-at_most : {a b : ℕ} → a ≡ b → a ≤ b
            same-at_most e = omega arith

    -- ---- their tiles
    name-same : (x : Entry) → IsAmong x entries → in_frame P T.rule (full t g) (lifted_in (whole g) x.address) ≡ in_frame P T.rule F x.address
    name-same x i =
        ap (λ a. in_frame P T.rule a (lifted_in (whole g) x.address)) same-full
        ∙ ap (λ a. in_frame P T.rule F (lifted_in a x.address)) (sym whole-low)
        ∙ (L.search.renamed T F (names m settled fits f is) low within x.address (own-tile x i)).1

    pub there-same : (x : Entry) → IsAmong x entries → NamesTileThere t g w (entry_lifted (whole g) x) ↔ NamesTileThere t f w x
    there-same x i = (subst Meets (name-same x i), subst Meets (sym (name-same x i)))
      where
        Meets : TileOf t → Type 0
        Meets y = PolygonMeetsBox P.real (box_of t w) (tile_polygon P T.rule (λ z. z) y)
