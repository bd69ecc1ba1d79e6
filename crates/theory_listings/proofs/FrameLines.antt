-- The lines of a listing by addresses name tiles of the frame, and the listing is right exactly where the lines are.
use Rattle.std.proofs.Common.{◌≡◌, inl, inr, ◌↔◌, ℕ, ◌≤◌, max, Bool, false, List, [], ◌∷◌, map, refl, sym, ap, ap₂, ◌∙◌, subst, arith}
use Rattle.std.specs.List.{AllByRecursion}
use Rattle.theory_ring.specs.Sign.{Signed}
use Rattle.theory_plane.specs.Box.{OpenBox}
use Rattle.theory_addresses.specs.Address.{Address, depth}
use Rattle.theory_addresses.specs.Search.{IsAmong}
use Rattle.theory_addresses.specs.Tables.{child_kinds}
use Rattle.theory_addresses.proofs.Lists.{AllByRecursion-among, AllByRecursion-from, AllByRecursion-map, IsAmong-map}
use Rattle.theory_substitution.specs.Motion.{Motion}
use Rattle.theory_substitution.specs.Supertile.{Placed}
use Rattle.theory_edge_to_edge.specs.Contacts.{tables_of}
use Rattle.theory_dissection.specs.Polygons.{tile_polygon}
use Rattle.theory_dissection.proofs.Setting.{Setting}
use Rattle.theory_frames.specs.Frame.{at_level, frame_tiles, IsTileOf, lifted_in}
use Rattle.theory_windows.specs.Distinct.{AreDistinct}
use Rattle.theory_windows.specs.Meeting.{PolygonMeetsBox}
use Rattle.theory_windows.specs.GrowingPatch.{GrowingPatch, IsOfDepth}
use Rattle.theory_windows.specs.EnoughDepth.{AreDrawnAtDepth, IsLeastEnough}
use Rattle.theory_windows.specs.FramePatch.{growing_frame, tile_of_ancestor, in_frame}
use Rattle.theory_windows.specs.FrameWindow.{IsLeastDepth}
use Rattle.theory_windows.specs.FrameCover.{IsWindowOn}
use Rattle.theory_windows.proofs.Members.{among-map}
use Rattle.theory_windows.proofs.CarriedFrames.{lift_law, named_law, drawn_law}
use Rattle.theory_windows.proofs.FrameDrawn.{fine-deep, lifted-one}
use Rattle.theory_windows.proofs.FrameWindow.{least-enough, enough-least}
use Rattle.theory_windows.proofs.Renamed.{lifted-depth, renamed, longer, further}
use Rattle.theory_listings.specs.Lines.{ListLine, named_tiles, deepest_line, AreLinesOf}
use Rattle.theory_listings.specs.RightList.{IsRightList, AreNoneRefused, IsAllListed}
use Rattle.theory_listings.specs.FrameListing.{deepest_listed, AreOfFrame, IsRightListing, AreUnrefused, AreAllListed}
use Rattle.theory_listings.specs.FrameWalk.{line_named, lines_named, IsListedIn}
use Rattle.theory_listings.proofs.Lines.{max-right}

at_most-trans : (a b c : ℕ) → a ≤ b → b ≤ c → a ≤ c
at_most-trans a b c h k = omega arith

-- ---- the greatest listed depth
max-left : (a b c : ℕ) → c ≤ b → c ≤ max a b
max-left a b c h = omega arith

at_least : (n : ℕ) → n ≤ n
at_least n = omega arith

pub deepest-first : {A : Type 0} (m : ℕ) (listing : List (Placed A)) → m ≤ deepest_listed m listing
deepest-first m [] = at_least m
deepest-first m (x ∷ xs) = max-left (depth x.address) (deepest_listed m xs) m (deepest-first m xs)

pub deepest-among : {A : Type 0} (m : ℕ) (listing : List (Placed A)) (x : Placed A) → IsAmong x listing → depth x.address ≤ deepest_listed m listing
deepest-among m [] x i = elim i [ ]
deepest-among m (y ∷ ys) x (inl e) = subst (λ d. d ≤ deepest_listed m (y ∷ ys))
    (ap (λ (q : Placed _). depth q.address) (sym e)) (max-right (depth y.address) (deepest_listed m ys))
deepest-among m (y ∷ ys) x (inr i) = max-left (depth y.address) (deepest_listed m ys) (depth x.address) (deepest-among m ys x i)

-- ---- distinct images, by distinct images of another kind
pub distinct-through : {A B C : Type 0} (g : A → B) (h : A → C) (xs : List A)
    → ((x y : A) → IsAmong x xs → IsAmong y xs → h x ≡ h y → g x ≡ g y) → AreDistinct (map g xs)
    → AreDistinct (map h xs)
distinct-through g h [] f d = tt
distinct-through {A} {B} g h (x ∷ xs) f d = (λ i. absurd (d.0 (again i)), distinct-through g h xs (λ y z i j. f y z (inr i) (inr j)) d.1)
  where
    again : IsAmong (h x) (map h xs) → IsAmong (g x) (map g xs)
    again i = let m = among-map h (h x) xs i in subst (λ b. IsAmong b (map g xs)) (sym (f x m.0 (inl refl) (inr m.1) m.2)) (IsAmong-map g m.0 xs m.1)

module _ (T : Setting) where
  open T use {points as P, laws as W, accepted.{rule as r}}

  abbrev A : Type 0
  A = P.ring.carrier

  abbrev S : Signed
  S = P.real

  abbrev children : List (List ℕ)
  children = child_kinds (tables_of P r)

  abbrev shift_of : Placed A → Motion A
  shift_of x = x.motion

  module _ (f : Address) (refused : A → Bool) (box : OpenBox S.ops.carrier)
      (on : IsWindowOn P T.accepted f box) (m : ℕ) (listing : List (Placed A)) where
    abbrev F : GrowingPatch S (Placed A)
    F = growing_frame P refused r f

    abbrev lines : List (ListLine (Placed A) (Motion A))
    lines = lines_named P r f listing

    abbrev low : ℕ
    low = deepest_listed m listing

    -- ---- the lines
    pub deepest-is : deepest_line m lines ≡ low
    deepest-is = each listing
      where
        each : (xs : List (Placed A)) → deepest_line m (lines_named P r f xs) ≡ deepest_listed m xs
        each [] = refl
        each (x ∷ xs) = ap (max (depth x.address)) (each xs)

    pub named-are : named_tiles lines ≡ map (λ (x : Placed A). in_frame P r f x.address) listing
    named-are = each listing
      where
        each : (xs : List (Placed A)) → named_tiles (lines_named P r f xs) ≡ map (λ (x : Placed A). in_frame P r f x.address) xs
        each [] = refl
        each (x ∷ xs) = ap (λ (ts : List (Placed A)). in_frame P r f x.address ∷ ts) (each xs)

    -- a line's tile at a depth of the frame, where its address is of the frame
    at-depth : (n : ℕ) → n ≤ depth f → (a : Address) → IsTileOf children (at_level f n) a
        → lifted_in f (lifted_in (at_level f n) a) ≡ lifted_in f a
    at-depth n within a h = ap (λ (t : Placed A). t.address) (renamed T f on.frame n within a h)

    -- a tile of the frame at a depth has the name of its address
    fine-is : (n : ℕ) → n ≤ depth f → (x : Placed A) → IsAmong x (frame_tiles P r (at_level f n)) → tile_of_ancestor f x ≡ in_frame P r f x.address
    fine-is n within x i =
        let b = (named_law P W T.accepted f on.frame refused n within (tile_of_ancestor f x)).0
        ((lift_law P W T.accepted f on.frame refused n within (tile_of_ancestor f x)).1 (x, i, refl)) in
        let same : x ≡ record { address = b.0; motion = (in_frame P r f b.0).motion }
        = lifted-one T f on.frame refused n within x
        (record { address = b.0; motion = (in_frame P r f b.0).motion })
        (fine-deep T f on.frame refused n within x i) b.2 b.3 in
        b.3 ∙ ap (λ (y : Placed A). in_frame P r f y.address) (sym same)

    -- the name of a line's address, by the line lifted to that depth
    fine-line : (n : ℕ) → n ≤ depth f → (x : Placed A) → IsTileOf children (at_level f n) x.address
        → IsAmong (tile_of_ancestor (at_level f n) x) (frame_tiles P r (at_level f n))
        → tile_of_ancestor f (tile_of_ancestor (at_level f n) x) ≡ in_frame P r f x.address
    fine-line n within x h i = fine-is n within (tile_of_ancestor (at_level f n) x) i ∙ renamed T f on.frame n within x.address h

    -- a line with its tile's motion, lifted
    placed-line : (n : ℕ) → n ≤ depth f → (x : Placed A) → IsTileOf children (at_level f n) x.address → x.motion ≡ (in_frame P r f x.address).motion
        → tile_of_ancestor f (tile_of_ancestor (at_level f n) x) ≡ in_frame P r f x.address
    placed-line n within x h e = λ i. record { address = at-depth n within x.address h i; motion = e i }

    deep-line : (n : ℕ) → n ≤ depth f → (x : Placed A) → IsTileOf children (at_level f n) x.address
        → depth (tile_of_ancestor (at_level f n) x).address ≡ n
    deep-line n within x h = lifted-depth T f on.frame n within x.address h

    -- ---- listed tiles
    -- a tile of the frame at depth n is listed exactly where it is one of the lines, lifted
    module _ (n : ℕ) (within : n ≤ depth f) (of_frame : AreOfFrame P r (at_level f n) listing) where
      of-line : (x : Placed A) → IsAmong x listing → IsTileOf children (at_level f n) x.address
      of-line x i = AllByRecursion-among (λ (x : Placed A). IsTileOf children (at_level f n) x.address) x listing i of_frame

      fine-listed : (t : Placed A) → IsAmong t (frame_tiles P r (at_level f n))
          → IsAmong t (map (tile_of_ancestor (at_level f n)) listing) → IsListedIn P r f listing (tile_of_ancestor f t)
      fine-listed t i j =
          let s = among-map (tile_of_ancestor (at_level f n)) t listing j in
          let fine : IsAmong (tile_of_ancestor (at_level f n) s.0) (frame_tiles P r (at_level f n)) = subst
          (λ u. IsAmong u (frame_tiles P r (at_level f n))) s.2 i in (
            line_named P r f s.0,
            IsAmong-map (line_named P r f) s.0 listing s.1,
            sym (ap (tile_of_ancestor f) s.2 ∙ fine-line n within s.0 (of-line s.0 s.1) fine),
            ap (λ (u : Placed A). u.motion) (sym s.2),
          )

      listed-fine : (t : Placed A) → IsAmong t (frame_tiles P r (at_level f n))
          → IsListedIn P r f listing (tile_of_ancestor f t) → IsAmong t (map (tile_of_ancestor (at_level f n)) listing)
      listed-fine t i h =
          let s = among-map (line_named P r f) h.0 listing h.1 in
          let its_name : in_frame P r f s.0.address ≡ tile_of_ancestor f t = ap (λ (l : ListLine (Placed A) (Motion A)). l.tile) (sym s.2) ∙ h.2 in
          let its_motion : s.0.motion ≡ t.motion = ap (λ (l : ListLine (Placed A) (Motion A)). l.motion) (sym s.2) ∙ h.3 in
          let placed : tile_of_ancestor f (tile_of_ancestor (at_level f n) s.0) ≡ tile_of_ancestor f t
          = placed-line n within s.0 (of-line s.0 s.1) (its_motion ∙ ap (λ (u : Placed A). u.motion) (sym its_name)) ∙ its_name in
          let same : t ≡ tile_of_ancestor (at_level f n) s.0
          = lifted-one T f on.frame refused n within t (tile_of_ancestor (at_level f n) s.0)
          (fine-deep T f on.frame refused n within t i) (deep-line n within s.0 (of-line s.0 s.1))
          (sym placed) in
          subst (λ u. IsAmong u (map (tile_of_ancestor (at_level f n)) listing)) (sym same)
          (IsAmong-map (tile_of_ancestor (at_level f n)) s.0 listing s.1)

      -- the lines lifted to depth n, and then to the frame's, are the tiles that they name, where each has its tile's motion
      lifted-are : ((x : Placed A) → IsAmong x listing → tile_of_ancestor f (tile_of_ancestor (at_level f n) x) ≡ in_frame P r f x.address)
          → map (tile_of_ancestor f) (map (tile_of_ancestor (at_level f n)) listing) ≡ named_tiles lines
      lifted-are each = go listing each ∙ sym named-are
        where
          go : (xs : List (Placed A))
              → ((x : Placed A) → IsAmong x xs → tile_of_ancestor f (tile_of_ancestor (at_level f n) x) ≡ in_frame P r f x.address)
              → map (tile_of_ancestor f) (map (tile_of_ancestor (at_level f n)) xs) ≡ map (λ (x : Placed A). in_frame P r f x.address) xs
          go [] h = refl
          go (x ∷ xs) h = ap₂ (λ (t : Placed A) (ts : List (Placed A)). t ∷ ts) (h x (inl refl)) (go xs (λ y i. h y (inr i)))

      all-deep : AllByRecursion (λ (t : Placed A). depth t.address ≡ n) (map (tile_of_ancestor (at_level f n)) listing)
      all-deep = AllByRecursion-map (λ (t : Placed A). depth t.address ≡ n) (tile_of_ancestor (at_level f n)) listing
          (AllByRecursion-from (λ (x : Placed A). depth (tile_of_ancestor (at_level f n) x).address ≡ n) listing
          (λ x i. deep-line n within x (of-line x i)))

    -- ---- a right listing has right lines
    module _ (start : low ≤ depth f) where
      abbrev Right : Type 0
      Right = IsRightList S (Placed A) (Motion A) F box shift_of m lines

      pub right-lines : IsRightListing P r f box m listing → Right
      right-lines h = record {
        depth = h.depth;
        least = subst (λ k. IsLeastEnough S (Placed A) F box k h.depth) (sym deepest-is)
            (least-enough T f on.frame refused box low h.depth start h.least);
        drawn = subst (AreDrawnAtDepth S (Placed A) F box h.depth) (lifted-are h.depth h.least.within h.of_frame its_line)
            ((drawn_law P W T.accepted f on.frame refused h.depth h.least.within box
            (map (tile_of_ancestor (at_level f h.depth)) listing)
            (all-deep h.depth h.least.within h.of_frame)).0 h.all_that_meet);
        placed = AllByRecursion-map (λ (l : ListLine (Placed A) (Motion A)). l.motion ≡ l.tile.motion) (line_named P r f) listing
            (AllByRecursion-from (λ (x : Placed A). x.motion ≡ (in_frame P r f x.address).motion) listing (λ x i. ap shift_of (its_line x i)));
      }
        where
          fine : (x : Placed A) → IsAmong x listing → IsAmong (tile_of_ancestor (at_level f h.depth) x) (frame_tiles P r (at_level f h.depth))
          fine x i = AllByRecursion-among (λ (t : Placed A). IsAmong t (frame_tiles P r (at_level f h.depth)))
              (tile_of_ancestor (at_level f h.depth) x) (map (tile_of_ancestor (at_level f h.depth)) listing)
              (IsAmong-map (tile_of_ancestor (at_level f h.depth)) x listing i) h.all_that_meet.of_patch

          its_line : (x : Placed A) → IsAmong x listing → tile_of_ancestor f (tile_of_ancestor (at_level f h.depth) x) ≡ in_frame P r f x.address
          its_line x i = fine-line h.depth h.least.within x (of-line h.depth h.least.within h.of_frame x i) (fine x i)

      pub right-depth : (h : IsRightListing P r f box m listing) → (right-lines h).depth ≡ h.depth
      unfolding right-lines
      right-depth h = refl

      -- and right lines are a right listing, where their addresses are of the frame
      module _ (of_frame : AreOfFrame P r (at_level f low) listing) where
        further-frame : (n : ℕ) → low ≤ n → n ≤ depth f → AreOfFrame P r (at_level f n) listing
        further-frame n h within = AllByRecursion-from (λ (x : Placed A). IsTileOf children (at_level f n) x.address) listing
            (λ x i. further T f on.frame low n h within x.address (of-line low start of_frame x i))

        pub lines-right : Right → IsRightListing P r f box m listing
        lines-right h =
            let least : IsLeastDepth P r f box low h.depth = enough-least T f on.frame refused box low h.depth
            start (subst (λ k. IsLeastEnough S (Placed A) F box k h.depth) deepest-is h.least) in
            let there : AreOfFrame P r (at_level f h.depth) listing = further-frame h.depth least.not_below least.within in
            record {
              depth = h.depth;
              least = least;
              of_frame = there;
              all_that_meet = (drawn_law P W T.accepted f on.frame refused h.depth least.within box
                  (map (tile_of_ancestor (at_level f h.depth)) listing) (all-deep h.depth least.within there)).1
                  (subst (AreDrawnAtDepth S (Placed A) F box h.depth)
                  (sym (lifted-are h.depth least.within there (its_line h.depth least.within there h)))
                  h.drawn);
            }
          where
            its_line : (n : ℕ) → n ≤ depth f → AreOfFrame P r (at_level f n) listing → Right → (x : Placed A) → IsAmong x listing
                → tile_of_ancestor f (tile_of_ancestor (at_level f n) x) ≡ in_frame P r f x.address
            its_line n within there h x i = placed-line n within x (of-line n within there x i)
                (AllByRecursion-among (λ (l : ListLine (Placed A) (Motion A)). l.motion ≡ l.tile.motion)
                (line_named P r f x) lines (IsAmong-map (line_named P r f) x listing i) h.placed)

        -- ---- all are listed
        abbrev All : Type 0
        All = IsAllListed S (Placed A) (Motion A) F box shift_of m lines

        pub listed-lines : AreAllListed P refused r f box m listing → All
        listed-lines h = record {
          depth = h.depth;
          least = subst (λ k. IsLeastEnough S (Placed A) F box k h.depth) (sym deepest-is)
              (least-enough T f on.frame refused box low h.depth start h.least);
          each_listed = λ t d k. let u = (lift_law P W T.accepted f on.frame refused h.depth h.least.within t).0 d in
              subst (IsListedIn P r f listing) (sym u.2)
              (fine-listed h.depth h.least.within (further-frame h.depth h.least.not_below h.least.within)
              u.0 u.1 (h.each_listed u.0 u.1 (meets u.0 t u.2 k)));
          none_refused = λ t d k. let u = (lift_law P W T.accepted f on.frame refused h.depth h.least.within t).0 d in
              subst (λ (v : Placed A). refused v.motion.shift ≡ false) (sym u.2) (h.none_refused u.0 u.1 (meets u.0 t u.2 k));
        }
          where
            meets : (x t : Placed A) → t ≡ tile_of_ancestor f x
                → PolygonMeetsBox S box (tile_polygon P r (λ z. z) t)
                → PolygonMeetsBox S box (tile_polygon P r (λ z. z) x)
            meets x t e k = subst (λ (v : Placed A). PolygonMeetsBox S box (tile_polygon P r (λ z. z) v)) e k

        pub lines-listed : All → AreAllListed P refused r f box m listing
        lines-listed h =
            let least : IsLeastDepth P r f box low h.depth = enough-least T f on.frame refused box low h.depth
            start (subst (λ k. IsLeastEnough S (Placed A) F box k h.depth) deepest-is h.least) in
            record {
              depth = h.depth;
              least = least;
              each_listed = λ x i k. listed-fine h.depth least.within
                  (further-frame h.depth least.not_below least.within) x i
                  (h.each_listed (tile_of_ancestor f x) (deep h.depth least.within x i) k);
              none_refused = λ x i k. h.none_refused (tile_of_ancestor f x) (deep h.depth least.within x i) k;
            }
          where
            deep : (n : ℕ) → n ≤ depth f → (x : Placed A) → IsAmong x (frame_tiles P r (at_level f n))
                → IsOfDepth S (Placed A) F n (tile_of_ancestor f x)
            deep n within x i = (lift_law P W T.accepted f on.frame refused n within (tile_of_ancestor f x)).1 (x, i, refl)

        -- ---- refused shifts, where each line has its tile's motion
        pub unrefused-lines : AllByRecursion (λ (x : Placed A). x.motion ≡ (in_frame P r f x.address).motion)
            listing → AreUnrefused refused listing ↔ AreNoneRefused S (Placed A) (Motion A) F lines
        unrefused-lines placed = (λ h. to listing placed h, λ h. back listing placed h)
          where
            to : (xs : List (Placed A)) → AllByRecursion
                (λ (x : Placed A). x.motion ≡ (in_frame P r f x.address).motion) xs → AreUnrefused refused xs
                → AreNoneRefused S (Placed A) (Motion A) F (lines_named P r f xs)
            to [] p h = tt
            to (x ∷ xs) p h = (subst (λ (g : Motion A). refused g.shift ≡ false) p.0 h.0, to xs p.1 h.1)

            back : (xs : List (Placed A)) → AllByRecursion
                (λ (x : Placed A). x.motion ≡ (in_frame P r f x.address).motion) xs
                → AreNoneRefused S (Placed A) (Motion A) F (lines_named P r f xs) → AreUnrefused refused xs
            back [] p h = tt
            back (x ∷ xs) p h = (subst (λ (g : Motion A). refused g.shift ≡ false) (sym p.0) h.0, back xs p.1 h.1)

    -- ---- lines of the frame
    pub lines-of : low ≤ depth f → AreOfFrame P r (at_level f low) listing
        → AreDistinct (map (λ (x : Placed A). lifted_in (at_level f low) x.address) listing)
        → AreLinesOf S (Placed A) (Motion A) F lines
    lines-of start of_frame distinct = record {
      of_depth = AllByRecursion-map (λ (l : ListLine (Placed A) (Motion A)). IsOfDepth S (Placed A) F l.digits l.tile) (line_named P r f) listing
          (AllByRecursion-from (λ (x : Placed A). IsOfDepth S (Placed A) F (depth x.address) (in_frame P r f x.address)) listing (λ x i. named x i));
      distinct = subst (λ (ts : List (Placed A)). AreDistinct ts) (sym named-are)
          (distinct-through (λ (x : Placed A). lifted_in (at_level f low) x.address)
          (λ (x : Placed A). in_frame P r f x.address) listing same distinct);
    }
      where
        tile : (x : Placed A) → IsAmong x listing → IsTileOf children (at_level f low) x.address
        tile x i = of-line low start of_frame x i

        named : (x : Placed A) → IsAmong x listing → IsOfDepth S (Placed A) F (depth x.address) (in_frame P r f x.address)
        named x i =
            let whole : IsTileOf children f x.address = longer T f on.frame low start x.address (tile x i) in
            (named_law P W T.accepted f on.frame refused (depth x.address) whole.no_deeper
            (in_frame P r f x.address)).1 (x.address, whole, refl, refl)

        own : Placed A → Placed A
        own x = record { address = lifted_in (at_level f low) x.address; motion = (in_frame P r f (lifted_in (at_level f low) x.address)).motion }

        same : (x y : Placed A) → IsAmong x listing → IsAmong y listing
            → in_frame P r f x.address ≡ in_frame P r f y.address
            → lifted_in (at_level f low) x.address ≡ lifted_in (at_level f low) y.address
        same x y i j e = ap (λ (t : Placed A). t.address)
            (lifted-one T f on.frame refused low start (own x) (own y) (deep-line low start x (tile x i)) (deep-line low start y (tile y j))
            (renamed T f on.frame low start x.address (tile x i) ∙ e ∙ sym (renamed T f on.frame low start y.address (tile y j))))

    -- distinct names are distinct addresses
    pub names-apart : low ≤ depth f → AreOfFrame P r (at_level f low) listing → AreDistinct (named_tiles lines)
        → AreDistinct (map (λ (x : Placed A). lifted_in (at_level f low) x.address) listing)
    names-apart start of_frame d =
        distinct-through (λ (x : Placed A). in_frame P r f x.address) (λ (x : Placed A). lifted_in (at_level f low) x.address) listing
        (λ x y i j e. sym (renamed T f on.frame low start x.address (of-line low start of_frame x i))
        ∙ ap (in_frame P r f) e ∙ renamed T f on.frame low start y.address
        (of-line low start of_frame y j))
        (subst (λ (ts : List (Placed A)). AreDistinct ts) named-are d)
