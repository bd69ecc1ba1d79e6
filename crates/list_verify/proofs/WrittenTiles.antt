-- The tiles of a window, as they are written: the text is read back to them.
use Rattle.std.proofs.Common.{◌≡◌, inl, inr, ℕ, suc, ◌<◌, ◌≤◌, false, List, [], ◌∷◌, map, length, Ok, refl, ap, ◌∙◌, subst, arith}
use Rattle.std.specs.List.{AllByRecursion}
use Rattle.theory_addresses.specs.Address.{Address}
use Rattle.theory_addresses.specs.Search.{IsAmong}
use Rattle.theory_addresses.proofs.Lists.{AllByRecursion-among, IsAmong-map}
use Rattle.cyclo_points.specs.declared.order.Order.{Order}
use Rattle.cyclo_points.specs.declared.order.Order.TheVariants.{Four, Six, Eight, Ten}
use Rattle.cyclo_points.specs.Order.{points_of, is_refused}
use Rattle.cyclo_points.specs.Point.{point_in}
use Rattle.cyclo_points.proofs.Refusal.{within-some_beyond, some_beyond-refused}
use Rattle.theory_dissection.specs.Accepted.{AcceptedRule}
use Rattle.theory_frames.specs.Frame.{at_level}
use Rattle.theory_walks.specs.Ancestors.{full}
use Rattle.theory_walks.specs.Frames.{FrameValue, whole, IsFrameOf, GrowsTo}
use Rattle.lazy_walk.specs.Standing.{Stands}
use Rattle.theory_walks.proofs.InFull.{level-grown}
use Rattle.theory_walks.proofs.Walks.{StillFits}
use Rattle.listing_text.specs.Limits.{most_lines}
use Rattle.listing_text.specs.Listing.{Entry, listing_in}
use Rattle.listing_text.specs.Written.{entries_text, CanBeListed, CanAllBeListed}
use Rattle.plane_geom.specs.declared.window.Window.{Window}
use Rattle.rule_model.specs.declared.rule.Rule.{Rule}
use Rattle.rule_model.specs.Tiling.{Tiling, tiling_of, children}
use Rattle.theory_substitution.specs.Points.{Points}
use Rattle.tile_place.specs.declared.placed_tile.PlacedTile.{PlacedTile}
use Rattle.tile_place.specs.Searched.{placed_in}
use Rattle.tile_place.proofs.Plane.{IsSettled, its_rule}
use Rattle.tile_shape.specs.Usable.{AreUsable}
use Rattle.theory_windows.specs.FramePatch.{frame_patch}
use Rattle.theory_windows.specs.FrameWindow.{AreAllThatMeet, IsLeastDepth}
use Rattle.theory_windows.proofs.Members.{no-more}
use Rattle.window_cover.specs.Limits.{IsCoverWithinLimits}
use Rattle.window_cover.specs.Windows.{TileOf, box_of, AreDrawn, IsLeastForWindow}
use Rattle.list_verify.specs.Written.{tile_entry, tile_entries, IsWrittenOf}

-- what is known of the tiles of a window, and of the text that is written of them
pub record IsListOf (t : Tiling) (f g : FrameValue) (w : Window) (tiles : List PlacedTile) (text : List ℕ) : Type 0 where
  pub grows : GrowsTo t f g
  pub drawn : AreDrawn t g w (map (placed_in t.order) tiles)
  pub stand : AllByRecursion (Stands t g) tiles
  pub least : IsLeastForWindow t f w (length g.digits)
  pub within : IsCoverWithinLimits t f w
  pub written : IsWrittenOf tiles text
  pub some : 0 < length tiles

few_turns : (o : Order) → (points_of o).order ≤ 10
few_turns Four = omega arith
few_turns Six = omega arith
few_turns Eight = omega arith
few_turns Ten = omega arith

same_depth : (m n : ℕ) → m ≤ n → n ≤ m → m ≡ n
same_depth m n h k = omega arith

module _ (m : Rule) (settled : IsSettled m) (usable : AreUsable (children (tiling_of m))) (fits : StillFits (children (tiling_of m)))
    (back : (entries : List Entry) → CanAllBeListed (children (tiling_of m)) entries
    → listing_in (children (tiling_of m)) (entries_text entries) ≡ Ok entries)
    (f g : FrameValue) (is : IsFrameOf (tiling_of m) f) (w : Window) (tiles : List PlacedTile) (text : List ℕ)
    (list : IsListOf (tiling_of m) f g w tiles text) where
  abbrev t : Tiling
  t = tiling_of m

  abbrev P : Points
  P = points_of m.order

  abbrev T : AcceptedRule P
  T = its_rule m settled

  abbrev F : Address
  F = full t f

  abbrev d : ℕ
  d = length g.digits

  abbrev entries : List Entry
  entries = tile_entries tiles

  pub own_level : at_level F d ≡ whole g
  own_level = level-grown m settled fits f is g list.grows

  pub its_stand : (x : PlacedTile) → IsAmong x tiles → Stands t g x
  its_stand x i = AllByRecursion-among (Stands t g) x tiles i list.stand

  -- ---- none is refused
  module _ (least : IsLeastDepth P T.rule F (box_of t w) (length f.digits) list.within.drawn_within.depth) where
    limit_depth : list.within.drawn_within.depth ≡ d
    limit_depth =
        same_depth list.within.drawn_within.depth d
        (list.within.drawn_within.least.least d list.least.not_below list.least.within list.least.holds)
        (list.least.least list.within.drawn_within.depth least.not_below least.within least.holds)

  abbrev drawn : List (TileOf t)
  drawn = list.within.drawn_within.drawn

  they_meet : AreDrawn t g w drawn
  they_meet = subst (λ a. AreAllThatMeet P.real (TileOf t) (frame_patch P T.rule a) (box_of t w) drawn)
      (ap (at_level F) (limit_depth list.within.drawn_within.least) ∙ own_level)
      list.within.drawn_within.all_that_meet

  among_drawn : (x : TileOf t) → IsAmong x (map (placed_in t.order) tiles) → IsAmong x drawn
  among_drawn x i =
      let there = AllByRecursion-among (λ (y : TileOf t). IsAmong y (frame_patch P T.rule (whole g)).tiles) x
      (map (placed_in t.order) tiles) i list.drawn.of_patch in
      (they_meet.meeting x there).0 ((list.drawn.meeting x there).1 i)

  pub unrefused_one : (x : PlacedTile) → IsAmong x tiles → is_refused t.order (point_in t.order x.motion.shift) ≡ false
  unrefused_one x i =
      AllByRecursion-among (λ (y : TileOf t). is_refused t.order y.motion.shift ≡ false) (placed_in t.order x)
      drawn (among_drawn (placed_in t.order x) (IsAmong-map (placed_in t.order) x tiles i))
      list.within.drawn_within.none_refused

  count_map : (xs : List PlacedTile) → length (map (placed_in t.order) xs) ≡ length xs
  count_map [] = refl
  count_map (x ∷ xs) = ap suc (count_map xs)

  pub count_entries : (xs : List PlacedTile) → length (tile_entries xs) ≡ length xs
  count_entries [] = refl
  count_entries (x ∷ xs) = ap suc (count_entries xs)

  pub not_many : length tiles ≤ most_lines
  not_many =
      let less = no-more (map (placed_in t.order) tiles) drawn list.drawn.distinct among_drawn in
      let most = list.within.drawn_within.not_too_many in
      omega (arith, less, most, count_map tiles)

  -- ---- the text is read back
  can_be : (x : PlacedTile) → IsAmong x tiles → CanBeListed (children t) (tile_entry x)
  can_be x i =
      let s = its_stand x i in
      let deep = s.at_depth in
      let most = list.grows.is_frame.at_most_64 in
      let turn = s.turn_below in
      let few = few_turns m.order in
      record {
        address = record { fits = s.of_frame.fits; has_room = omega (arith, deep, most) };
        turn = omega (arith, turn, few);
        four = AllByRecursion-among (λ (tile : PlacedTile). length tile.motion.shift.c ≡ 4) x tiles i list.written.four;
        within = within-some_beyond x.motion.shift (some_beyond-refused t.order x.motion.shift s.in_order ∙ unrefused_one x i);
      }

  can_all : (xs : List PlacedTile) → ((x : PlacedTile) → IsAmong x xs
      → CanBeListed (children t) (tile_entry x)) → AllByRecursion (CanBeListed (children t)) (tile_entries xs)
  can_all [] h = tt
  can_all (x ∷ xs) h = (h x (inl refl), can_all xs (λ y i. h y (inr i)))

  pub read : listing_in (children t) text ≡ Ok entries
  read = ap (listing_in (children t)) list.written.is
      ∙ back entries (record {
        each = can_all tiles can_be;
        few = omega (arith, not_many, count_entries tiles);
      })
