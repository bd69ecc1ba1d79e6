-- The descent finds exactly the tiles that meet the box.
use Rattle.std.proofs.Common.{◌≡◌, ℕ, zero, suc, ◌+◌, ◌<◌, ◌≤◌, Bool, true, false, cond, List, [], ◌∷◌, ◌++◌, map, flat_map, inl, inr, length, refl}
use Rattle.std.proofs.Common.{sym, ap, ap₂, ◌∙◌, subst, mod-lt, arith}
use Rattle.std.specs.List.{filter, enumerate_from}
use Rattle.theory_ring.specs.Ring.{power}
use Rattle.theory_ring.specs.Sign.{Signed}
use Rattle.theory_ring.specs.Divisor.{DividesWhole}
use Rattle.theory_plane.specs.Box.{OpenBox}
use Rattle.theory_addresses.specs.Address.{Address, depth, top_kind, Fits}
use Rattle.theory_addresses.specs.Search.{IsAmong}
use Rattle.theory_addresses.specs.Tables.{child_kinds}
use Rattle.theory_addresses.proofs.Chains.{chain_of}
use Rattle.theory_addresses.proofs.Filters.{IsAmong-kept, IsAmong-filter}
use Rattle.theory_addresses.proofs.Lists.{AllByRecursion-from}
use Rattle.theory_substitution.specs.Motion.{Motion, followed}
use Rattle.theory_substitution.specs.Rule.{Child, children_of}
use Rattle.theory_substitution.specs.Supertile.{Placed, supertile}
use Rattle.theory_substitution.specs.Placement.{placement}
use Rattle.theory_substitution.proofs.Addresses.{numbered-exists}
use Rattle.theory_edge_to_edge.specs.Contacts.{tables_of}
use Rattle.theory_dissection.specs.Polygons.{tile_polygon}
use Rattle.theory_dissection.proofs.Setting.{Setting}
use Rattle.theory_dissection.proofs.AcrossTouches.{same}
use Rattle.theory_dissection.proofs.Glue.{some_order}
use Rattle.theory_dissection.proofs.RuleAddresses.{top_exists}
use Rattle.theory_frames.specs.Back.{back}
use Rattle.theory_frames.specs.Contain.{ancestor_motion}
use Rattle.theory_frames.specs.Descent.{of_whole}
use Rattle.theory_frames.specs.Frame.{at_level, frame_tiles}
use Rattle.theory_frames.specs.Part.{child_motion}
use Rattle.theory_frames.proofs.Frames.{at_level-depth, at_level-fits}
use Rattle.theory_frames.proofs.Group.{back-turn}
use Rattle.theory_frames.proofs.Outwards.{outward-back, turns_below}
use Rattle.theory_windows.specs.Distinct.{AreDistinct}
use Rattle.theory_windows.specs.Meeting.{PolygonMeetsBox, IsLeftFan}
use Rattle.theory_windows.specs.Patch.{IsDissected}
use Rattle.theory_windows.specs.FramePatch.{frame_patch}
use Rattle.theory_windows.specs.FrameWindow.{AreAllThatMeet}
use Rattle.theory_windows.proofs.Members.{distinct-filter}
use Rattle.theory_windows.proofs.MovedTiles as tiles
use Rattle.theory_windows.proofs.FramePatch.{frame-dissected}
use Rattle.theory_descents.specs.Insets.{IsBeyondBox, IsWithinBox}
use Rattle.theory_descents.specs.Parts.{digit, one_tile, tiles_below, part_polygon, tile_meets, drawn_below}
use Rattle.theory_descents.specs.Descent.{PartTests, AreRightTests, descended}
use Rattle.theory_descents.proofs.Insets.{beyond_meets_not, within_in}
use Rattle.theory_descents.proofs.MeetingTest.{meets_by_test, has_point}
use Rattle.theory_descents.proofs.Parts.{flat_map-ext, below-moved, below-kind, below-in}

-- ---- filters
filter-append : {A : Type 0} (t : A → Bool) (xs ys : List A) → filter t (xs ++ ys) ≡ filter t xs ++ filter t ys
filter-append t [] ys = refl
filter-append {A} t (x ∷ xs) ys = at_test (t x) (filter-append t xs ys)
  where
    at_test : (b : Bool) → filter t (xs ++ ys) ≡ filter t xs ++ filter t ys → cond b (x ∷ filter t (xs ++ ys)) (filter t (xs ++ ys))
        ≡ cond b (x ∷ filter t xs) (filter t xs) ++ filter t ys
    at_test true e = ap (λ u. x ∷ u) e
    at_test false e = e

filter-flat_map : {A B : Type 0} (t : B → Bool) (f : A → List B) (xs : List A) → filter t (flat_map f xs) ≡ flat_map (λ x. filter t (f x)) xs
filter-flat_map t f [] = refl
filter-flat_map t f (x ∷ xs) = filter-append t (f x) (flat_map f xs) ∙ ap (λ u. filter t (f x) ++ u) (filter-flat_map t f xs)

filter-map : {A B : Type 0} (t : B → Bool) (f : A → B) (xs : List A) → filter t (map f xs) ≡ map f (filter (λ x. t (f x)) xs)
filter-map t f [] = refl
filter-map {A} t f (x ∷ xs) = at_test (t (f x)) (filter-map t f xs)
  where
    at_test : (b : Bool) → filter t (map f xs) ≡ map f (filter (λ x. t (f x)) xs)
        → cond b (f x ∷ filter t (map f xs)) (filter t (map f xs)) ≡ map f (cond b (x ∷ filter (λ x. t (f x)) xs) (filter (λ x. t (f x)) xs))
    at_test true e = ap (λ u. f x ∷ u) e
    at_test false e = e

filter-none : {A : Type 0} (t : A → Bool) (xs : List A) → ((x : A) → IsAmong x xs → t x ≡ false) → filter t xs ≡ []
filter-none t [] h = refl
filter-none t (x ∷ xs) h = ap (λ b. cond b (x ∷ filter t xs) (filter t xs)) (h x (inl refl)) ∙ filter-none t xs (λ y i. h y (inr i))

filter-all : {A : Type 0} (t : A → Bool) (xs : List A) → ((x : A) → IsAmong x xs → t x ≡ true) → filter t xs ≡ xs
filter-all t [] h = refl
filter-all t (x ∷ xs) h = ap (λ b. cond b (x ∷ filter t xs) (filter t xs)) (h x (inl refl)) ∙ ap (λ u. x ∷ u) (filter-all t xs (λ y i. h y (inr i)))

module _ (T : Setting) (whole : DividesWhole T.points.real) where
  open T use {points as P, laws as W, accepted.{rule as r, numbered as N, edge_to_edge as D}}

  abbrev A : Type 0
  A = P.ring.carrier

  abbrev S : Signed
  S = P.real

  -- the motion of the base's ancestor is the motion back
  pub motion-back : (f : Address) (n : ℕ) → ancestor_motion P r f n ≡ back P (placement P r (at_level f n).digits)
  motion-back f n = outward-back P W (some_order T) r (turns_below P r (some_order T) (λ j c hj hc. N.turn_below j c hj hc)) (at_level f n).digits

  -- ---- the parts of one part; the digits of a tile say nothing of whether it meets the box
  pub parts_law : (box : OpenBox S.ops.carrier) (k n : ℕ) (m : Motion A)
      → drawn_below P r box k (suc n) m
      ≡ flat_map (λ (c : ℕ × Child A). map (of_whole (digit c.0 k))
      (drawn_below P r box c.1.kind n (child_motion P r (power P.ring r.factor n) m c.1))) (enumerate_from 0 (children_of r k))
  parts_law box k n m =
      filter-flat_map (tile_meets P r box) (λ (c : ℕ × Child A). map (of_whole (digit c.0 k))
      (tiles_below P r c.1.kind n (child_motion P r (power P.ring r.factor n) m c.1))) (enumerate_from 0 (children_of r k))
      ∙ flat_map-ext _ _ (enumerate_from 0 (children_of r k))
      (λ c. filter-map (tile_meets P r box) (of_whole (digit c.0 k)) (tiles_below P r c.1.kind n (child_motion P r (power P.ring r.factor n) m c.1)))

  module _ (box : OpenBox S.ops.carrier) (wide : 0 < box.w) (high : 0 < box.h) where
    abbrev meets : Placed A → Bool
    meets = tile_meets P r box

    fan : (t : Placed A) → t.address.kind < length r.kinds → IsLeftFan S (tile_polygon P r (λ z. z) t)
    fan t ht = tiles.left_fan T (λ z. z) (same T) t ht

    -- the test of a tile is right
    pub meets-is : (t : Placed A) → t.address.kind < length r.kinds → meets t ≡ true → PolygonMeetsBox S box (tile_polygon P r (λ z. z) t)
    meets-is t ht = (meets_by_test S W.of_real W.of_order whole box wide high (tile_polygon P r (λ z. z) t) (fan t ht)).0

    pub is-meets : (t : Placed A) → t.address.kind < length r.kinds → PolygonMeetsBox S box (tile_polygon P r (λ z. z) t) → meets t ≡ true
    is-meets t ht = (meets_by_test S W.of_real W.of_order whole box wide high (tile_polygon P r (λ z. z) t) (fan t ht)).1

    module _ (k n : ℕ) (m : Motion A) (hk : k < length r.kinds) (turn : m.turn < P.order) where
      -- ---- a part beyond the box
      left_out : IsBeyondBox S box (part_polygon P r k n m) → (t : Placed A) → IsAmong t (tiles_below P r k n m) → meets t ≡ false
      left_out out t i = at_test (meets t) refl
        where
          at_test : (b : Bool) → meets t ≡ b → b ≡ false
          at_test false e = refl
          at_test true e =
              let p = meets-is t (below-kind T k n m hk turn t i) e in
              absurd (beyond_meets_not S W.of_real W.of_order box (part_polygon P r k n m) out
              (p.0, p.1, p.2, below-in T k n m hk turn t i p.0 p.1 p.3))

      pub pruned_law : IsBeyondBox S box (part_polygon P r k n m) → drawn_below P r box k n m ≡ []
      pruned_law out = filter-none meets (tiles_below P r k n m) (left_out out)

      -- ---- a part within it
      taken : IsWithinBox S box (part_polygon P r k n m) → (t : Placed A) → IsAmong t (tiles_below P r k n m) → meets t ≡ true
      taken within t i =
          let ht = below-kind T k n m hk turn t i in
          let p = has_point S W.of_real W.of_order whole (tile_polygon P r (λ z. z) t) (fan t ht) in
          is-meets t ht (
            p.0,
            p.1,
            within_in S W.of_real W.of_order box (part_polygon P r k n m) within p.0 p.1
                (below-in T k n m hk turn t i p.0 p.1 p.2),
            p.2,
          )

      pub taken_law : IsWithinBox S box (part_polygon P r k n m) → drawn_below P r box k n m ≡ tiles_below P r k n m
      taken_law within = filter-all meets (tiles_below P r k n m) (taken within)

    -- ---- the descent
    module _ (tests : PartTests A) (right : AreRightTests P r box tests) where
      by_tests : (k n : ℕ) (m : Motion A) → k < length r.kinds → m.turn < P.order → (xs : List (Placed A)) → xs ≡ drawn_below P r box k n m
          → cond (tests.is_pruned k n m) [] (cond (tests.is_taken k n m) (tiles_below P r k n m) xs) ≡ drawn_below P r box k n m
      by_tests k n m hk turn xs e = at_pruned (tests.is_pruned k n m) refl (tests.is_taken k n m) refl
        where
          at_pruned : (b : Bool) → tests.is_pruned k n m ≡ b → (c : Bool) → tests.is_taken k n m ≡ c → cond b [] (cond c (tiles_below P r k n m) xs)
              ≡ drawn_below P r box k n m
          at_pruned true l c h = sym (pruned_law k n m hk turn (right.pruned k n m l))
          at_pruned false l true h = sym (taken_law k n m hk turn (right.taken k n m h))
          at_pruned false l false h = e

      pub descent_law : (k n : ℕ) (m : Motion A) → k < length r.kinds → m.turn < P.order → descended P r box tests k n m ≡ drawn_below P r box k n m
      descent_law k zero m hk turn = by_tests k 0 m hk turn (filter meets (one_tile k m ∷ [])) refl
      descent_law k (suc n) m hk turn = by_tests k (suc n) m hk turn _
          (each_part (enumerate_from 0 (children_of r k)) (λ c i. descent_law c.1.kind n (child_motion P r (power P.ring r.factor n) m c.1)
          (numbered-exists P r N.child_exists k hk c i) (mod-lt (m.turn + c.1.motion.turn) (omega arith)))
          ∙ sym (parts_law box k n m))
        where
          each_part : (cs : List (ℕ × Child A))
              → ((c : ℕ × Child A) → IsAmong c cs → descended P r box tests c.1.kind n (child_motion P r (power P.ring r.factor n) m c.1)
              ≡ drawn_below P r box c.1.kind n (child_motion P r (power P.ring r.factor n) m c.1))
              → flat_map (λ (c : ℕ × Child A). map (of_whole (digit c.0 k))
              (descended P r box tests c.1.kind n (child_motion P r (power P.ring r.factor n) m c.1))) cs
              ≡ flat_map (λ (c : ℕ × Child A). map (of_whole (digit c.0 k))
              (drawn_below P r box c.1.kind n (child_motion P r (power P.ring r.factor n) m c.1))) cs
          each_part [] h = refl
          each_part (c ∷ cs) h = ap₂ (λ u v. map (of_whole (digit c.0 k)) u ++ v) (h c (inl refl)) (each_part cs (λ d i. h d (inr i)))

  -- ---- on a frame
  module _ (f : Address) (fits : Fits (child_kinds (tables_of P r)) f) (n : ℕ) (within : n ≤ depth f) where
    abbrev pub top_of : ℕ
    top_of = top_kind (at_level f n)

    abbrev pub motion_of : Motion A
    motion_of = ancestor_motion P r f n

    pub ancestor-fits : Fits (child_kinds (tables_of P r)) (at_level f n)
    ancestor-fits = (at_level-fits f n within (child_kinds (tables_of P r)) fits).0

    pub turn-below : motion_of.turn < P.order
    turn-below = subst (λ (g : Motion A). g.turn < P.order) (sym (motion-back f n))
        (back-turn P W (placement P r (at_level f n).digits) (some_order T))

    pub top-of : top_of < length r.kinds
    top-of = top_exists T f.kind (at_level f n).digits (chain_of (tables_of P r) (at_level f n) ancestor-fits)

    pub frame-below : frame_tiles P r (at_level f n) ≡ tiles_below P r top_of n motion_of
    frame-below =
        ap (λ j. map (λ (t : Placed A). record { address = t.address; motion = followed P t.motion (back P (placement P r (at_level f n).digits)) })
        (supertile P r top_of j)) (at_level-depth f n within)
        ∙ ap (λ (g : Motion A). map (λ (t : Placed A). record { address = t.address; motion = followed P t.motion g }) (supertile P r top_of n))
        (sym (motion-back f n))
        ∙ sym (below-moved P W r top_of n motion_of turn-below)

    -- the tiles are distinct, and a point belongs to one of them alone
    pub frame-dissection : IsDissected S (Placed A) (frame_patch P r (at_level f n))
    frame-dissection = frame-dissected T (at_level f n) (chain_of (tables_of P r) (at_level f n) ancestor-fits)

    module _ (box : OpenBox S.ops.carrier) (wide : 0 < box.w) (high : 0 < box.h) where
      abbrev pub drawn : List (Placed A)
      drawn = drawn_below P r box top_of n motion_of

      abbrev passes : Placed A → Bool
      passes = tile_meets P r box

      pub frame-drawn : AreAllThatMeet S (Placed A) (frame_patch P r (at_level f n)) box drawn
      frame-drawn = record {
        of_patch = AllByRecursion-from _ drawn (λ t i. subst (IsAmong t) (sym frame-below)
            (IsAmong-filter passes t (tiles_below P r top_of n motion_of) i).0);
        distinct = distinct-filter passes (tiles_below P r top_of n motion_of) (subst AreDistinct frame-below frame-dissection.distinct);
        meeting = λ t i.
            let j : IsAmong t (tiles_below P r top_of n motion_of) = subst (IsAmong t) frame-below i in
            let ht = below-kind T top_of n motion_of top-of turn-below t j in (
              λ h. IsAmong-kept passes t (tiles_below P r top_of n motion_of) j (is-meets box wide high t ht h),
              λ h. meets-is box wide high t ht (IsAmong-filter passes t (tiles_below P r top_of n motion_of) h).1,
            );
      }
