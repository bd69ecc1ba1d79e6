-- The tiles found of a window, lifted and in order, are the answer.
use Rattle.std.proofs.Common.{◌≡◌, inl, inr, ℕ, ◌-◌, ◌<◌, ◌≤◌, ℤ, pos, List, [], ◌∷◌, ◌++◌, length, map, get_or, refl, sym, ap, ap₂, ◌∙◌, subst, arith}
use Rattle.std.specs.List.{AllByRecursion, AllZip}
use Rattle.std.proofs.lemmas.List.{length-map}
use Rattle.std.proofs.lemmas.List.Sorted.{IsPermutation-map}
use Rattle.std.proofs.lemmas.Simd.{map-map}
use Rattle.theory_addresses.specs.Address.{Address, depth, Fits}
use Rattle.theory_addresses.specs.Search.{IsAmong}
use Rattle.theory_addresses.proofs.Lists.{AllByRecursion-among, AllByRecursion-from, AllByRecursion-map, IsAmong-map}
use Rattle.theory_substitution.specs.Motion.{Motion, moved}
use Rattle.theory_substitution.specs.Plane.{plane_point}
use Rattle.theory_substitution.specs.Points.{Points}
use Rattle.theory_substitution.specs.RuleParts.{vertices_of}
use Rattle.cyclo_points.specs.Order.{NumberOf, PointsLaw, points_of, is_refused}
use Rattle.cyclo_points.specs.Point.{IsOf, point_in}
use Rattle.cyclo_points.specs.Quad.{Quad}
use Rattle.cyclo_points.specs.declared.motion.Motion.{Motion as Moved}
use Rattle.cyclo_points.specs.Motion.{motion_in}
use Rattle.theory_dissection.specs.Accepted.{NamesTile}
use Rattle.cyclo_points.specs.declared.order.Order.{Order}
use Rattle.theory_frames.specs.Growth.{grown_by}
use Rattle.seeded_growth.specs.Words.{word}
use Rattle.tile_shape.specs.Usable.{AreUsable}
use Rattle.tile_shape.specs.UsesInOrder.{uses_in_order}
use Rattle.theory_frames.specs.Frame.{at_level, motion_beside, frame_tiles, lifted_in, IsTileOf, StandsInFrame}
use Rattle.theory_frames.proofs.Carried.{some_turn}
use Rattle.theory_frames.proofs.Frames.{IsWhole, lifted-whole, lifted-moves_none, frame-placed, StandsInFrame-whole}
use Rattle.cyclo_points.proofs.SamePoints.{point_in-exact}
use Rattle.rule_model.specs.declared.rule.Rule.{Rule}
use Rattle.rule_model.specs.Tiling.{Tiling, tiling_of, children}
use Rattle.rule_model.specs.Views.{rule_of}
use Rattle.tile_place.specs.declared.placed_tile.PlacedTile.{PlacedTile}
use Rattle.tile_place.specs.Searched.{placed_in}
use Rattle.tile_place.proofs.Plane.{IsSettled, its_rule, fits_tables}
use Rattle.theory_walks.specs.Ancestors.{full}
use Rattle.theory_walks.specs.Frames.{FrameValue, whole}
use Rattle.lazy_walk.specs.Standing.{Stands}
use Rattle.theory_walks.proofs.Ancestors.{level-same, level-at}
use Rattle.theory_walks.proofs.Lifting.{Longer, longer, lifted-twice}
use Rattle.theory_walks.proofs.Walked.{whole-tile_of}
use Rattle.theory_walks.proofs.Walks.{StillFits, at_depth-depth, whole-fits}
use Rattle.theory_windows.specs.AnyOrder.{HaveSameMembers}
use Rattle.theory_windows.specs.Distinct.{AreDistinct}
use Rattle.theory_windows.specs.FrameCover.{IsWindowOn, IsFrameAnswer, FrameFinishLaw, FrameEndsLaw}
use Rattle.theory_windows.specs.FrameLaws.{FramePatchLaw}
use Rattle.theory_windows.specs.FramePatch.{frame_patch, tile_of_ancestor}
use Rattle.theory_windows.specs.FrameWindow.{AreAllThatMeet, IsWindowWithin}
use Rattle.theory_windows.specs.Patch.{Covers}
use Rattle.theory_windows.specs.Laws.{OpenTestLaw, OutlineLaw}
use Rattle.theory_windows.proofs.Members.{same_whole}
use Rattle.tile_place.specs.declared.order_key.OrderKey.{OrderKey}
use Rattle.window_cover.specs.Beyond.{IsNotBeyondEnough}
use Rattle.theory_windows.specs.Limits.{most_tiles}
use Rattle.window_cover.specs.Checked.{IsCheckedRule}
use Rattle.window_cover.specs.Found.{Found, address_found}
use Rattle.window_cover.specs.Lifted.{IsLifted}
use Rattle.window_cover.specs.Right.{name_of, IsFound}
use Rattle.window_cover.specs.Windows.{TileOf, box_of, AreDrawn, CoverWindow}
use Rattle.window_cover.proofs.Distinct.{distinct-by}
use Rattle.window_cover.proofs.Keyed.{keyed_in}
use Rattle.window_cover.specs.Working.{Working, state_of, IsEdgeWaiting, IsWorking}
use Rattle.window_cover.proofs.Shuffled.{AreShuffled, keyed-distinct, permuted-members}
use Rattle.window_cover.specs.InOrder.{numbers_placed}
use Rattle.window_cover.proofs.Sorted.{numbers_of, lifted-numbers}

map-same : {A B : Type 0} (f g : A → B) (xs : List A) → ((x : A) → IsAmong x xs → f x ≡ g x) → map f xs ≡ map g xs
map-same f g [] h = refl
map-same {A} {B} f g (x ∷ xs) h = ap₂ (λ (y : B) (ys : List B). y ∷ ys) (h x (inl refl)) (map-same f g xs (λ y i. h y (inr i)))

-- the images of tiles are those of what they were found as
zip-images : {A B C : Type 0} (R : A → B → Type 0) (f : B → C) (g : A → C) (xs : List A) (ys : List B)
    → AllZip R xs ys → ((x : A) (y : B) → R x y → f y ≡ g x) → map f ys ≡ map g xs
zip-images R f g [] [] z h = refl
zip-images R f g [] (y ∷ ys) z h = absurd z
zip-images R f g (x ∷ xs) [] z h = absurd z
zip-images {A} {B} {C} R f g (x ∷ xs) (y ∷ ys) z h = ap₂ (λ (u : C) (us : List C). u ∷ us) (h x y z.0) (zip-images R f g xs ys z.1 h)

zip-each : {A B : Type 0} (R : A → B → Type 0) (Q : B → Type 0) (xs : List A) (ys : List B) → AllZip R xs ys
    → ((x : A) (y : B) → IsAmong x xs → R x y → Q y) → AllByRecursion Q ys
zip-each R Q [] [] z h = tt
zip-each R Q [] (y ∷ ys) z h = absurd z
zip-each R Q (x ∷ xs) [] z h = absurd z
zip-each R Q (x ∷ xs) (y ∷ ys) z h = (h x y (inl refl) z.0, zip-each R Q xs ys z.1 (λ u v i. h u v (inr i)))

none-waiting : {A B : Type 0} (R : A → B → Type 0) (xs : List A) (ys : List B) → AllZip R xs ys → xs ≡ [] → ys ≡ []
none-waiting R [] [] z e = refl
none-waiting R [] (y ∷ ys) z e = absurd z
none-waiting R (x ∷ xs) ys z e = absurd (cc e)

abbrev pub quad_at : List ℤ → Quad ℤ
quad_at ns = record { a0 = get_or ns 0 (pos 0); a1 = get_or ns 1 (pos 0); a2 = get_or ns 2 (pos 0); a3 = get_or ns 3 (pos 0) }

-- the laws that are used, over the points of an order
pub record HasLaws (m : Rule) : Type 0 where
  pub checked : IsCheckedRule m
  pub still_fits : StillFits (children (tiling_of m))
  pub points : PointsLaw m.order
  pub patch : FramePatchLaw (points_of m.order)
  pub known : OutlineLaw (points_of m.order)
  pub open_test : OpenTestLaw (points_of m.order)
  pub finish : FrameFinishLaw (points_of m.order)

-- what the laws and the rule bring
pub laws_of : (m : Rule) → IsCheckedRule m → ((o : Order) → PointsLaw o)
    → ((o : Order) → FramePatchLaw (points_of o)) → ((o : Order) → OutlineLaw (points_of o))
    → ((o : Order) → OpenTestLaw (points_of o)) → ((o : Order) → FrameFinishLaw (points_of o))
    → ((kinds : List (List ℕ)) (base : Address) (start n : ℕ) → AreUsable kinds → Fits kinds base
    → Fits kinds (grown_by (uses_in_order kinds) (word start) n base)) → HasLaws m
laws_of m checked points patch known open_test finish grown = record {
  checked = checked;
  still_fits = λ base start n h. grown (children (tiling_of m)) base start n checked.uses_usable h;
  points = points m.order;
  patch = patch m.order;
  known = known m.order;
  open_test = open_test m.order;
  finish = finish m.order;
}

module _ (m : Rule) (laws : HasLaws m) (f : FrameValue) (c : Working) (right : IsWorking (tiling_of m) f c) where
  abbrev t : Tiling
  t = tiling_of m

  abbrev P : Points
  P = points_of m.order

  abbrev wide : Address
  wide = full t f

  abbrev name : Found → TileOf t
  name = name_of t f

  pub settled : IsSettled m
  settled = record { accepted = laws.checked.accepted; usable = laws.checked.usable; same_child_kinds = laws.checked.same_child_kinds }

  some : 0 < P.order
  some = some_turn m.order

  -- ---- the frame at depth 64
  base-deep : depth f.base ≤ 64
  base-deep = omega (arith, right.frame.holds_base, right.frame.at_most_64)

  pub wide-deep : depth wide ≡ 64
  wide-deep = at_depth-depth t f 64 base-deep

  wide-fits : Fits (children t) wide
  wide-fits = laws.still_fits f.base f.start (64 - depth f.base) right.frame.fits

  pub wide-named : NamesTile P (rule_of m) wide
  wide-named = fits_tables m settled wide wide-fits

  up : Longer t f (length f.digits) 64
  up = longer t f (length f.digits) 64 right.frame.holds_base right.frame.at_most_64

  wide-is : wide ≡ record { kind = f.base.kind; digits = f.digits ++ up.more }
  wide-is = λ i. record { kind = f.base.kind; digits = (up.is ∙ ap (λ (x : FrameValue). x.digits ++ up.more) (sym right.frame.its_digits)) i }

  level-whole : at_level wide (length f.digits) ≡ whole f
  level-whole = level-at t f right.frame (length f.digits) (omega arith) right.frame.at_most_64 ∙ ap whole (sym right.frame.its_digits)

  -- ---- a tile found
  abbrev at_frame : Found → TileOf t
  at_frame x = record { address = lifted_in (whole f) (address_found x); motion = motion_in m.order x.motion }

  module _ (x : Found) (i : IsAmong x c.found) where
    its : IsFound t f x
    its = AllByRecursion-among (IsFound t f) x c.found i right.found

    name-among : IsAmong (name x) (frame_tiles P (rule_of m) wide)
    name-among = AllByRecursion-among (λ u. IsAmong u (frame_tiles P (rule_of m) wide)) (name x)
        (map name c.found) (IsAmong-map name x c.found i) right.state.of_patch

    no_deeper : depth (address_found x) ≤ length f.digits
    no_deeper = its.of_frame.no_deeper

    at_wide : tile_of_ancestor wide (at_frame x) ≡ name x
    at_wide = λ j. record { address = twice j; motion = motion_in m.order x.motion }
      where
        twice : lifted_in wide (lifted_in (whole f) (address_found x)) ≡ lifted_in wide (address_found x)
        twice = subst (λ g. lifted_in g (lifted_in (whole f) (address_found x)) ≡ lifted_in g
            (address_found x)) (sym wide-is) (lifted-twice (whole f) (address_found x) up.more no_deeper)

    own : IsWhole (children t) (whole f) (lifted_in (whole f) (address_found x))
    own = lifted-whole (children t) (whole f) (address_found x) (whole-fits t laws.still_fits f right.frame) its.of_frame

    motion-is : motion_in m.order x.motion ≡ motion_beside P (rule_of m) (whole f).digits (lifted_in (whole f) (address_found x)).digits
    motion-is =
        AllByRecursion-among (λ u. u.motion ≡ motion_beside P (rule_of m) wide.digits u.address.digits)
        (name x) (frame_tiles P (rule_of m) wide) name-among
        (frame-placed P laws.points some (rule_of m) wide)
        ∙ lifted-moves_none P laws.points some (rule_of m) wide (address_found x) (omega (arith, no_deeper, right.frame.at_most_64, wide-deep))
        ∙ ap (λ (g : Address). motion_beside P (rule_of m) g.digits x.digits) (level-same t f right.frame (depth (address_found x)) no_deeper)
        ∙ sym (lifted-moves_none P laws.points some (rule_of m) (whole f) (address_found x) no_deeper)

    pub found-stands : (a : PlacedTile) → IsLifted f x a → Stands t f a
    found-stands a l = record {
      its_kind = l.same_kind ∙ sym l.kind_named;
      of_frame = subst (IsTileOf (children t) (whole f)) (sym l.its_address) (whole-tile_of (children t) (whole f) _ own);
      at_depth = ap depth l.its_address ∙ own.same_depth;
      in_frame = subst (λ b. StandsInFrame P (rule_of m) (whole f) b (motion_in m.order a.motion)) (sym l.its_address)
          (subst (StandsInFrame P (rule_of m) (whole f) (lifted_in (whole f) (address_found x)))
          (sym (ap (motion_in m.order) l.same_motion ∙ motion-is))
          (StandsInFrame-whole P laws.points some (rule_of m) (whole f) (lifted_in (whole f) (address_found x)) own));
      turn_below = subst (λ (g : Moved). g.turn < P.order) (sym l.same_motion) its.turn_below;
      in_order = subst (λ (g : Moved). IsOf m.order g.shift) (sym l.same_motion) its.in_order;
    }

  -- tiles found are known by the numbers of their order
  numbers-tell : (x y : Found) → IsAmong x c.found → IsAmong y c.found → numbers_of x ≡ numbers_of y → name x ≡ name y
  numbers-tell x y i j e =
      laws.known (frame_patch P (rule_of m) wide) (laws.patch (its_rule m settled) wide wide-named) (name x)
      (name y) (name-among x i) (name-among y j)
      (ap₂ (λ (g : Motion (NumberOf m.order)) (k : ℕ). map (λ z. plane_point P (moved P g z)) (vertices_of (rule_of m) k)) motions kinds)
    where
      kinds : x.kind ≡ y.kind
      kinds = same_whole x.kind y.kind (ap (λ (ns : List ℤ). get_or ns 5 (pos 0)) e)

      turns : x.motion.turn ≡ y.motion.turn
      turns = same_whole x.motion.turn y.motion.turn (ap (λ (ns : List ℤ). get_or ns 4 (pos 0)) e)

      shifts : point_in m.order x.motion.shift ≡ point_in m.order y.motion.shift
      shifts = point_in-exact m.order x.motion.shift y.motion.shift (ap quad_at e)

      motions : motion_in m.order x.motion ≡ motion_in m.order y.motion
      motions = λ k. record { turn = turns k; shift = shifts k }

  -- ---- the state at its end
  on : IsWindowOn P (its_rule m settled) wide (box_of t c.window)
  on = record { frame = wide-named; wide = right.window.some_width; high = right.window.some_height }

  none-open : c.border ≡ [] → (state_of t f c).open_edges ≡ []
  none-open = none-waiting (IsEdgeWaiting t) c.border (state_of t f c).open_edges right.border

  -- the window is within the limits
  pub window-within : FrameEndsLaw P → c.border ≡ [] → (start : ℕ) → start ≤ 64 → IsNotBeyondEnough t f c.window start (length f.digits)
      → IsWindowWithin P (is_refused m.order) (rule_of m) wide (box_of t c.window) start most_tiles
  window-within ends closed start l beyond =
      ends (its_rule m settled) wide (is_refused m.order) (box_of t c.window) on start most_tiles
      (omega (arith, l, wide-deep)) (state_of t f c) right.state (none-open closed) beyond
      (let k = right.not_too_many in let n = length-map c.found name in omega (arith, k, n))

  -- ---- the tiles, in the order of keys
  module _ (ks : List OrderKey) (mixed : AreShuffled c.found ks) where
    abbrev ys : List Found
    ys = map (keyed_in c.found) ks

    from-found : (x : Found) → IsAmong x ys → IsAmong x c.found
    from-found x i = (permuted-members c.found ys mixed.tiles x).1 i

    abbrev placed : List (TileOf t)
    placed = map at_frame ys

    named : map (tile_of_ancestor wide) placed ≡ map name ys
    named = map-map (tile_of_ancestor wide) at_frame ys
        ∙ map-same (λ x. tile_of_ancestor wide (at_frame x)) name ys (λ x i. at_wide x (from-found x i))

    distinct : AreDistinct placed
    distinct = distinct-by name at_frame ys
        (λ x y i j e. sym (at_wide x (from-found x i)) ∙ ap (tile_of_ancestor wide) e ∙ at_wide y (from-found y j))
        (keyed-distinct c.found name right.state.distinct ks mixed.keys mixed.numbers)

    deep : AllByRecursion (λ (u : TileOf t). depth u.address ≡ length f.digits) placed
    deep = AllByRecursion-map _ at_frame ys (AllByRecursion-from _ ys (λ x i. (own x (from-found x i)).same_depth))

    members : HaveSameMembers (map name c.found) (map (tile_of_ancestor wide) placed)
    members = subst (HaveSameMembers (map name c.found)) (sym named)
        (permuted-members (map name c.found) (map name ys) (IsPermutation-map name c.found ys mixed.tiles))

    pub answer : c.border ≡ [] → IsFrameAnswer P (is_refused m.order) (rule_of m) wide (box_of t c.window) (length f.digits) placed
    answer closed =
        laws.finish (its_rule m settled) wide (is_refused m.order) (box_of t c.window) on (state_of t f c) right.state (none-open closed)
        (omega (arith, wide-deep, right.frame.at_most_64)) placed distinct deep members

    -- ---- the tiles themselves
    module _ (tiles : List PlacedTile) (zip : AllZip (IsLifted f) ys tiles) where
      pub all-stand : AllByRecursion (Stands t f) tiles
      all-stand = zip-each (IsLifted f) (Stands t f) ys tiles zip (λ x a i l. found-stands x (from-found x i) a l)

      pub numbers-distinct : AreDistinct (map numbers_placed tiles)
      numbers-distinct =
          subst AreDistinct (sym (zip-images (IsLifted f) numbers_placed numbers_of ys tiles zip (lifted-numbers f)))
          (keyed-distinct c.found numbers_of (distinct-by name numbers_of c.found numbers-tell right.state.distinct) ks mixed.keys mixed.numbers)

      placed-is : map (placed_in m.order) tiles ≡ placed
      placed-is = zip-images (IsLifted f) (placed_in m.order) at_frame ys tiles zip
          (λ x a l. ap₂ (λ (b : Address) (g : Moved). record { address = b; motion = motion_in m.order g }) l.its_address l.same_motion)

      module _ (closed : c.border ≡ []) where
        pub drawn : AreDrawn t f c.window (map (placed_in m.order) tiles)
        drawn =
            subst (AreDrawn t f c.window) (sym placed-is)
            (subst (λ g. AreAllThatMeet P.real (TileOf t) (frame_patch P (rule_of m) g) (box_of t c.window)
            placed) level-whole (answer closed).all_that_meet)

        pub covered : CoverWindow t f c.window (map (placed_in m.order) tiles)
        covered =
            subst (CoverWindow t f c.window) (sym placed-is)
            (subst (λ g. Covers P.real (TileOf t) (frame_patch P (rule_of m) g) (box_of t c.window) placed) level-whole (answer closed).covers)
