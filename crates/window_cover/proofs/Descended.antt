-- The tiles that a descent finds, in order, are the answer.
use Rattle.std.proofs.Common.{◌≡◌, All, ℕ, ◌<◌, ◌≤◌, ◌^◌, Bool, true, false, ℤ, pos, None, List, ◌++◌, map, drop, length, get_or, refl, sym, ap, ◌∙◌}
use Rattle.std.proofs.Common.{subst, arith, append-nil}
use Rattle.std.specs.List.{AllByRecursion}
use Rattle.std.specs.List.Sorted.{IsPermutation}
use Rattle.std.proofs.lemmas.List.{length-map}
use Rattle.std.proofs.lemmas.List.Elements.{All-from_recursion}
use Rattle.std.proofs.lemmas.List.Sorted.{IsPermutation-map}
use Rattle.std.proofs.lemmas.Simd.{map-map}
use Rattle.theory_addresses.specs.Address.{Address, depth, top_kind, Fits}
use Rattle.theory_addresses.specs.Search.{IsAmong}
use Rattle.theory_addresses.proofs.Filters.{IsAmong-filter}
use Rattle.theory_addresses.proofs.Lists.{AllByRecursion-among, AllByRecursion-from, AllByRecursion-map, AllByRecursion-each, IsAmong-map}
use Rattle.theory_substitution.specs.Points.{Points}
use Rattle.cyclo_points.specs.declared.order.Order.{Order}
use Rattle.cyclo_points.specs.declared.point.Point.{Point}
use Rattle.cyclo_points.specs.Order.{points_of, is_refused}
use Rattle.cyclo_points.proofs.Refusal.{some_beyond, some_beyond-decides, some_beyond-refused}
use Rattle.cyclo_points.specs.Motion.{motion_in}
use Rattle.cyclo_points.specs.Point.{IsOf, IsWithin, point_in}
use Rattle.cyclo_points.proofs.OrderLaws.{laws_of}
use Rattle.cyclo_points.proofs.Divisors.{divisors_of}
use Rattle.cyclo_points.proofs.SamePoints.{point_in-exact}
use Rattle.theory_dissection.specs.Accepted.{AcceptedRule, NamesTile}
use Rattle.theory_dissection.proofs.Setting.{Setting}
use Rattle.theory_frames.specs.Contain.{ancestor_motion}
use Rattle.theory_frames.specs.Frame.{at_level, frame_tiles, motion_beside, IsTileOf, StandsInFrame}
use Rattle.theory_frames.proofs.Carried.{some_turn}
use Rattle.theory_frames.proofs.Frames.{IsWhole, frame-placed, StandsInFrame-whole, at_level-fits}
use Rattle.plane_geom.specs.declared.window.Window.{Window}
use Rattle.rule_model.specs.declared.rule.Rule.{Rule}
use Rattle.rule_model.specs.Tiling.{Tiling, tiling_of, children}
use Rattle.rule_model.specs.Views.{rule_of}
use Rattle.tile_shape.specs.Views.{address_of}
use Rattle.tile_shape.proofs.Seen.{steps-there}
use Rattle.tile_place.specs.declared.placed_tile.PlacedTile.{PlacedTile}
use Rattle.tile_place.specs.Searched.{placed_in}
use Rattle.tile_place.proofs.Ahead.{drop-end}
use Rattle.tile_place.proofs.Plane.{IsSettled, its_rule}
use Rattle.theory_walks.specs.Ancestors.{full}
use Rattle.theory_walks.specs.Frames.{FrameValue, whole, IsFrameOf, GrowsTo}
use Rattle.theory_walks.specs.Containing.{first_refused_outward}
use Rattle.theory_walks.proofs.Ancestors.{full-later}
use Rattle.lazy_walk.specs.Standing.{Stands}
use Rattle.theory_walks.proofs.InFull.{names, deep, level-own}
use Rattle.theory_walks.proofs.Walked.{whole-tile_of}
use Rattle.theory_walks.proofs.Walks.{StillFits}
use Rattle.theory_windows.specs.AnyOrder.{HaveSameMembers}
use Rattle.theory_windows.specs.Distinct.{AreDistinct}
use Rattle.theory_windows.specs.FramePatch.{frame_patch}
use Rattle.theory_windows.specs.FrameWindow.{AreAllThatMeet}
use Rattle.theory_windows.specs.Limits.{most_tiles}
use Rattle.theory_windows.specs.Patch.{Covers}
use Rattle.theory_windows.proofs.AnyOrder.{covers_any_order}
use Rattle.theory_windows.proofs.CarriedFrames as frames
use Rattle.theory_windows.proofs.Members.{among-map, same_whole}
use Rattle.theory_descents.specs.Parts.{tiles_below}
use Rattle.theory_descents.proofs.Carried as law
use Rattle.theory_descents.proofs.Descent.{top-of, turn-below, frame-dissection}
use Rattle.theory_descents.proofs.Parts.{IsBelow, below-tile}
use Rattle.window_descent.specs.Climbing.{IsClimbedTo}
use Rattle.window_cover.specs.Answered.{drawn_in, IsFoundBelow, IsAnswered}
use Rattle.window_cover.specs.Lifted.{CanBeLifted}
use Rattle.window_cover.specs.Limits.{IsCoverWithinLimits}
use Rattle.window_cover.specs.Covered.{placed_as}
use Rattle.window_cover.specs.Descending.{tile_in, IsKeptTile}
use Rattle.window_cover.specs.Found.{Found, address_found, CoverValue}
use Rattle.window_cover.specs.InOrder.{AreInOrder, numbers_placed}
use Rattle.window_cover.specs.Windows.{IsWindow, TileOf, box_of, AreDrawn, CoverWindow, IsLeastForWindow}
use Rattle.window_cover.proofs.Distinct.{distinct-by}
use Rattle.window_cover.proofs.Permuted.{map-on, distinct-permuted}
use Rattle.window_cover.proofs.Finished.{quad_at}
use Rattle.window_cover.proofs.Shuffled.{permuted-members}

module _ (m : Rule) (settled : IsSettled m) (fits : StillFits (children (tiling_of m))) (g : FrameValue) (is : IsFrameOf (tiling_of m) g)
    (w : Window) (fit : IsWindow w) (c : CoverValue) (found : IsFoundBelow (tiling_of m) g w c) where
  abbrev t : Tiling
  t = tiling_of m

  abbrev P : Points
  P = points_of m.order

  abbrev T : AcceptedRule P
  T = its_rule m settled

  abbrev setting : Setting
  setting = record { points = P; laws = laws_of m.order; accepted = T }

  abbrev G : Address
  G = full t g

  abbrev n : ℕ
  n = length g.digits

  named : NamesTile P (rule_of m) G
  named = names m settled fits g is

  within-full : n ≤ depth G
  within-full = omega (arith, is.at_most_64, deep m settled fits g is)

  own : at_level G n ≡ whole g
  own = level-own m settled fits g is

  abbrev D : List (TileOf t)
  D = drawn_in t g w

  wide : 0 < w.w
  wide = fit.some_width

  high : 0 < w.h
  high = fit.some_height

  pub all_that_meet : AreAllThatMeet P.real (TileOf t) (frame_patch P (rule_of m) (at_level G n)) (box_of t w) D
  all_that_meet = law.drawn_law P (laws_of m.order) (divisors_of m.order) T G named n within-full (box_of t w) wide high

  -- ---- a tile found
  module _ (x : Found) (i : IsAmong x c.found) where
    drawn-among : IsAmong (tile_in m.order x) D
    drawn-among = subst (IsAmong (tile_in m.order x)) found.found (IsAmong-map (tile_in m.order) x c.found i)

    below-among : IsAmong (tile_in m.order x) (tiles_below P (rule_of m) (top_kind (at_level G n)) n (ancestor_motion P (rule_of m) G n))
    below-among = (IsAmong-filter _ (tile_in m.order x) (tiles_below P (rule_of m) (top_kind (at_level G n)) n
        (ancestor_motion P (rule_of m) G n)) drawn-among).0

    its : IsBelow setting (top_kind (at_level G n)) n (ancestor_motion P (rule_of m) G n)
        (top-of setting (divisors_of m.order) G named n within-full) (turn-below setting (divisors_of m.order) G named n within-full)
        (tile_in m.order x)
    its = below-tile setting (top_kind (at_level G n)) n (ancestor_motion P (rule_of m) G n)
        (top-of setting (divisors_of m.order) G named n within-full) (turn-below setting (divisors_of m.order) G named n within-full)
        (tile_in m.order x) below-among

    pub found-deep : depth (address_found x) ≡ n
    found-deep = its.deep

    frame-among : IsAmong (tile_in m.order x) (frame_tiles P (rule_of m) (whole g))
    frame-among = subst (λ (a : Address). IsAmong (tile_in m.order x) (frame_tiles P (rule_of m) a)) own
        (AllByRecursion-among (λ u. IsAmong u (frame_tiles P (rule_of m) (at_level G n))) (tile_in m.order x) D drawn-among all_that_meet.of_patch)

    -- as it is answered it has no digits more
    same-digits : x.digits ++ drop (length x.digits) g.digits ≡ x.digits
    same-digits = ap (λ ds. x.digits ++ ds) (drop-end g.digits (length x.digits) (omega (arith, found-deep))) ∙ append-nil x.digits

    placed-address : address_of (placed_as g.digits x).addr ≡ address_found x
    placed-address = λ j. record { kind = x.kind; digits = (steps-there (x.digits ++ drop (length x.digits) g.digits) ∙ same-digits) j }

    pub placed-one : placed_in m.order (placed_as g.digits x) ≡ tile_in m.order x
    placed-one = λ j. record { address = placed-address j; motion = motion_in m.order x.motion }

    -- ---- it stands in the frame
    own-tile : IsWhole (children t) (whole g) (address_found x)
    own-tile = record {
      fits = subst (λ k. Fits k (address_found x)) settled.same_child_kinds its.fits;
      same_depth = found-deep;
      same_top = its.top ∙ ap top_kind own;
    }

    motion-is : motion_in m.order x.motion ≡ motion_beside P (rule_of m) g.digits x.digits
    motion-is = AllByRecursion-among (λ u. u.motion ≡ motion_beside P (rule_of m) (whole g).digits u.address.digits) (tile_in m.order x)
        (frame_tiles P (rule_of m) (whole g)) frame-among
        (frame-placed P (laws_of m.order) (some_turn m.order) (rule_of m) (whole g))

    kept : IsKeptTile t x
    kept = AllByRecursion-among (IsKeptTile t) x c.found i found.kept

    pub stands : Stands t g (placed_as g.digits x)
    stands = record {
      its_kind = refl;
      of_frame = subst (IsTileOf (children t) (whole g)) (sym placed-address) (whole-tile_of (children t) (whole g) (address_found x) own-tile);
      at_depth = ap depth placed-address ∙ found-deep;
      in_frame = subst (λ b. StandsInFrame P (rule_of m) (whole g) b (motion_in m.order x.motion)) (sym placed-address)
          (subst (StandsInFrame P (rule_of m) (whole g) (address_found x)) (sym motion-is)
          (StandsInFrame-whole P (laws_of m.order) (some_turn m.order) (rule_of m) (whole g) (address_found x) own-tile));
      turn_below = kept.turn_below;
      in_order = kept.in_order;
    }

  -- ---- the tiles in another order
  module _ (tiles : List PlacedTile) (lifted : IsPermutation (map (placed_as g.digits) c.found) tiles) where
    abbrev E : List (TileOf t)
    E = map (placed_in m.order) tiles

    mixed : IsPermutation D E
    mixed = subst (λ ts. IsPermutation ts E) (map-map (placed_in m.order) (placed_as g.digits) c.found ∙ map-on _ _ c.found (λ x i. placed-one x i)
        ∙ found.found)
        (IsPermutation-map (placed_in m.order) (map (placed_as g.digits) c.found) tiles lifted)

    members : HaveSameMembers D E
    members = permuted-members D E mixed

    distinct : AreDistinct E
    distinct = distinct-permuted D all_that_meet.distinct E mixed

    at-level : AreAllThatMeet P.real (TileOf t) (frame_patch P (rule_of m) (at_level G n)) (box_of t w) E
    at-level = record {
      of_patch = AllByRecursion-from _ E (λ u i. AllByRecursion-among (λ v. IsAmong v (frame_tiles P (rule_of m) (at_level G n))) u D
          ((members u).1 i) all_that_meet.of_patch);
      distinct = distinct;
      meeting = λ u i. (λ h. (members u).0 ((all_that_meet.meeting u i).0 h), λ j. (all_that_meet.meeting u i).1 ((members u).1 j));
    }

    pub drawn : AreDrawn t g w E
    drawn = subst (λ (a : Address). AreAllThatMeet P.real (TileOf t) (frame_patch P (rule_of m) a) (box_of t w) E) own at-level

    pub covered : (from : ℕ) → IsClimbedTo t G w from n → CoverWindow t g w E
    covered from first =
        subst (λ (a : Address). Covers P.real (TileOf t) (frame_patch P (rule_of m) a) (box_of t w) E) own
        (covers_any_order (frame_patch P (rule_of m) (at_level G n)) (frame-dissection setting (divisors_of m.order) G named n within-full)
        (box_of t w) D E all_that_meet.of_patch distinct members
        (law.covers_law P (laws_of m.order) (divisors_of m.order) T G named n within-full (box_of t w) wide high
        ((law.holds_law P (laws_of m.order) (divisors_of m.order) (box_of t w) _).0 first.holds)))

    -- each tile is one found
    source : (a : PlacedTile) → IsAmong a tiles → (x : Found) × IsAmong x c.found × (a ≡ placed_as g.digits x)
    source a i = among-map (placed_as g.digits) a c.found ((permuted-members (map (placed_as g.digits) c.found) tiles lifted a).1 i)

    pub stand : All (Stands t g) tiles
    stand = All-from_recursion (Stands t g) tiles (AllByRecursion-from (Stands t g) tiles
        (λ a i. let x = source a i in subst (Stands t g) (sym x.2) (stands x.0 x.1)))

    -- ---- none are of one place and kind
    placed-tell : (a b : PlacedTile) → IsAmong a tiles → IsAmong b tiles → numbers_placed a ≡ numbers_placed b → placed_in m.order a
        ≡ placed_in m.order b
    placed-tell a b i j e =
        frames.known_law P (laws_of m.order) T (at_level G n) (at_level-fits G n within-full _ named).0 (placed_in m.order a) (placed_in m.order b)
        (among a i) (among b j)
        (named-kind a i ∙ kinds ∙ sym (named-kind b j)) (λ k. record { turn = turns k; shift = shifts k })
      where
        among : (d : PlacedTile) → IsAmong d tiles → IsAmong (placed_in m.order d) (frame_tiles P (rule_of m) (at_level G n))
        among d k = AllByRecursion-among (λ v. IsAmong v (frame_tiles P (rule_of m) (at_level G n))) (placed_in m.order d) E
            (IsAmong-map (placed_in m.order) d tiles k) at-level.of_patch

        named-kind : (d : PlacedTile) → IsAmong d tiles → d.addr.kind ≡ d.kind
        named-kind d k = let x = source d k in ap (λ (q : PlacedTile). q.addr.kind) x.2 ∙ sym (ap (λ (q : PlacedTile). q.kind) x.2)

        kinds : a.kind ≡ b.kind
        kinds = same_whole a.kind b.kind (ap (λ (ns : List ℤ). get_or ns 5 (pos 0)) e)

        turns : a.motion.turn ≡ b.motion.turn
        turns = same_whole a.motion.turn b.motion.turn (ap (λ (ns : List ℤ). get_or ns 4 (pos 0)) e)

        shifts : point_in m.order a.motion.shift ≡ point_in m.order b.motion.shift
        shifts = point_in-exact m.order a.motion.shift b.motion.shift (ap quad_at e)

    pub numbers-distinct : AreDistinct (map numbers_placed tiles)
    numbers-distinct = distinct-by (placed_in m.order) numbers_placed tiles placed-tell distinct

-- ---- all that is promised
unrefused : (o : Order) (p : Point) → IsWithin (2 ^ 24) p → IsOf o p → is_refused o (point_in o p) ≡ false
unrefused o p within of = sym (some_beyond-refused o p of) ∙ at_test (some_beyond p) refl
  where
    at_test : (b : Bool) → some_beyond p ≡ b → b ≡ false
    at_test true e = absurd ((some_beyond-decides p).0 e within)
    at_test false e = refl

module _ (m : Rule) (settled : IsSettled m) (fits : StillFits (children (tiling_of m))) (f g : FrameValue) (grows : GrowsTo (tiling_of m) f g)
    (w : Window) (fit : IsWindow w) (c : CoverValue)
    (found : IsFoundBelow (tiling_of m) g w c) (first : IsClimbedTo (tiling_of m) (full (tiling_of m) f) w (length f.digits) (length g.digits)) where
  same : full (tiling_of m) g ≡ full (tiling_of m) f
  same = full-later (tiling_of m) f g grows

  least : IsLeastForWindow (tiling_of m) f w (length g.digits)
  least = law.climb_law (points_of m.order) (laws_of m.order) (divisors_of m.order) (its_rule m settled) (full (tiling_of m) f)
      (box_of (tiling_of m) w) (length f.digits) (length g.digits) first

  none_refused : AllByRecursion (λ (u : TileOf (tiling_of m)). is_refused m.order u.motion.shift ≡ false) (drawn_in (tiling_of m) g w)
  none_refused = subst (AllByRecursion (λ (u : TileOf (tiling_of m)). is_refused m.order u.motion.shift ≡ false)) found.found
      (AllByRecursion-map _ (tile_in m.order) c.found (AllByRecursion-each (IsKeptTile (tiling_of m)) _ c.found
      (λ x k. unrefused m.order x.motion.shift k.within k.in_order) found.kept))

  few : length (drawn_in (tiling_of m) g w) ≤ most_tiles
  few = subst (λ k. k ≤ most_tiles) (sym (length-map c.found (tile_in m.order))
      ∙ ap (λ (ts : List (TileOf (tiling_of m))). length ts) found.found) found.few

  within : first_refused_outward (tiling_of m) f (point_in m.order w.centre) ≡ None → IsCoverWithinLimits (tiling_of m) f w
  within centre = record {
    centre_found = centre;
    drawn_within = record {
      depth = length g.digits;
      least = least;
      drawn = drawn_in (tiling_of m) g w;
      all_that_meet = subst (λ (a : Address). AreAllThatMeet (points_of m.order).real (TileOf (tiling_of m))
          (frame_patch (points_of m.order) (rule_of m) (at_level a (length g.digits))) (box_of (tiling_of m) w) (drawn_in (tiling_of m) g w)) same
          (all_that_meet m settled fits g grows.is_frame w fit c found);
      none_refused = none_refused;
      not_too_many = few;
    };
  }

  pub can-be-lifted : All (CanBeLifted g) c.found
  can-be-lifted = All-from_recursion (CanBeLifted g) c.found (AllByRecursion-from (CanBeLifted g) c.found
      (λ x i. let d = found-deep m settled fits g grows.is_frame w fit c found x i in omega arith))

  pub answered : (tiles : List PlacedTile) → IsPermutation (map (placed_as g.digits) c.found) tiles
      → (AreDistinct (map numbers_placed tiles) → AreInOrder tiles)
      → first_refused_outward (tiling_of m) f (point_in m.order w.centre) ≡ None → IsAnswered (tiling_of m) f g w tiles
  answered tiles lifted sorted centre = record {
    drawn = drawn m settled fits g grows.is_frame w fit c found tiles lifted;
    stand = stand m settled fits g grows.is_frame w fit c found tiles lifted;
    in_order = sorted (numbers-distinct m settled fits g grows.is_frame w fit c found tiles lifted);
    least = least;
    covered = covered m settled fits g grows.is_frame w fit c found tiles lifted (length f.digits)
        (subst (λ (a : Address). IsClimbedTo (tiling_of m) a w (length f.digits) (length g.digits)) (sym same) first);
    within = within centre;
  }
