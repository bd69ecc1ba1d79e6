-- A listing says the same where its addresses are lifted.
use Rattle.std.proofs.Common.{◌≡◌, inl, inr, ◌↔◌, ℕ, ◌≤◌, max, Bool, false, List, [], ◌∷◌, map, refl, sym, ap, ap₂, ◌∙◌, subst, arith}
use Rattle.theory_ring.specs.Sign.{Signed}
use Rattle.theory_plane.specs.Box.{OpenBox}
use Rattle.theory_addresses.specs.Address.{Address, depth}
use Rattle.theory_addresses.specs.Search.{IsAmong}
use Rattle.theory_addresses.specs.Tables.{child_kinds}
use Rattle.theory_addresses.proofs.Lists.{AllByRecursion-among, AllByRecursion-from, AllByRecursion-map}
use Rattle.theory_substitution.specs.Supertile.{Placed}
use Rattle.theory_edge_to_edge.specs.Contacts.{tables_of}
use Rattle.theory_dissection.specs.Accepted.{NamesTile}
use Rattle.theory_dissection.specs.Polygons.{tile_polygon}
use Rattle.theory_dissection.proofs.Setting.{Setting}
use Rattle.theory_frames.specs.Frame.{at_level, IsTileOf, lifted_in}
use Rattle.theory_windows.specs.Meeting.{PolygonMeetsBox}
use Rattle.theory_windows.specs.FramePatch.{frame_patch, tile_of_ancestor, in_frame}
use Rattle.theory_windows.specs.FrameWindow.{AreAllThatMeet, IsLeastDepth}
use Rattle.theory_windows.proofs.FrameDrawn.{lifted-one}
use Rattle.theory_windows.proofs.Renamed.{lifted-depth, lifted-tile, renamed, shorter, further}
use Rattle.theory_listings.specs.FrameListing.{deepest_listed, AreOfFrame, IsRightListing, AreUnrefused, AreAllListed, NamesMeeting}
use Rattle.theory_listings.specs.FrameLifted.{SayTheSame}
use Rattle.theory_listings.proofs.Lines.{first-same, first-image, first-source, not-both}
use Rattle.theory_listings.proofs.FrameLines.{deepest-first}

at_most-trans : (a b c : ℕ) → a ≤ b → b ≤ c → a ≤ c
at_most-trans a b c h k = omega arith

at_least : (n : ℕ) → n ≤ n
at_least n = omega arith

both-ways : (m n : ℕ) → m ≤ n → n ≤ m → n ≡ m
both-ways m n h k = omega arith

max-least : (a b c : ℕ) → a ≤ c → b ≤ c → max a b ≤ c
max-least a b c h k = omega arith

max-one : (a b c : ℕ) → a ≡ c → c ≤ max a b
max-one a b c e = omega arith

same-max : (a b c : ℕ) → a ≡ c → a ≤ c
same-max a b c e = omega arith

module _ (T : Setting) where
  open T use {points as P, laws as W, accepted.{rule as r}}

  abbrev A : Type 0
  A = P.ring.carrier

  abbrev S : Signed
  S = P.real

  abbrev children : List (List ℕ)
  children = child_kinds (tables_of P r)

  module _ (f : Address) (fits : NamesTile P r f) (refused : A → Bool) (box : OpenBox S.ops.carrier) (m : ℕ) (listing : List (Placed A))
      (start : deepest_listed m listing ≤ depth f) (of_frame : AreOfFrame P r (at_level f (deepest_listed m listing)) listing) where
    abbrev low : ℕ
    low = deepest_listed m listing

    abbrev lift : Placed A → Placed A
    lift x = tile_of_ancestor (at_level f low) x

    abbrev lifted : List (Placed A)
    lifted = map lift listing

    tile : (x : Placed A) → IsAmong x listing → IsTileOf children (at_level f low) x.address
    tile x i = AllByRecursion-among (λ (x : Placed A). IsTileOf children (at_level f low) x.address) x listing i of_frame

    deep : (x : Placed A) → IsAmong x listing → depth (lift x).address ≡ low
    deep x i = lifted-depth T f fits low start x.address (tile x i)

    -- ---- the depth to which the lines grow the frame
    no-deeper : (xs : List (Placed A)) → ((x : Placed A) → IsAmong x xs → depth (lift x).address ≡ low) → deepest_listed m (map lift xs) ≤ low
    no-deeper [] h = deepest-first m listing
    no-deeper (x ∷ xs) h = max-least _ _ low (same-max _ 0 low (h x (inl refl))) (no-deeper xs (λ y i. h y (inr i)))

    no-shallower : (xs : List (Placed A)) → xs ≡ listing → low ≤ deepest_listed m (map lift xs)
    no-shallower [] e = subst (λ (ys : List (Placed A)). deepest_listed m ys ≤ m) e (at_least m)
    no-shallower (x ∷ xs) e = max-one (depth (lift x).address) (deepest_listed m (map lift xs)) low (deep x (subst (IsAmong x) e (inl refl)))

    pub same-deepest : deepest_listed m lifted ≡ low
    same-deepest = both-ways low (deepest_listed m lifted) (no-shallower listing refl) (no-deeper listing deep)

    -- ---- at each depth from there on the lines lifted are the same
    module _ (n : ℕ) (above : low ≤ n) (within : n ≤ depth f) where
      own-tile : (x : Placed A) → IsAmong x listing → IsTileOf children (at_level f n) x.address
      own-tile x i = further T f fits low n above within x.address (tile x i)

      lift-tile : (x : Placed A) → IsAmong x listing → IsTileOf children (at_level f n) (lift x).address
      lift-tile x i = shorter T f fits n within (lift x).address
          (lifted-tile T f fits low start x.address (tile x i)) (subst (λ k. k ≤ n) (sym (deep x i)) above)

      lifted-again : (x : Placed A) → IsAmong x listing → tile_of_ancestor (at_level f n) (lift x) ≡ tile_of_ancestor (at_level f n) x
      lifted-again x i = lifted-one T f fits refused n within (tile_of_ancestor (at_level f n) (lift x)) (tile_of_ancestor (at_level f n) x)
          (lifted-depth T f fits n within (lift x).address (lift-tile x i)) (lifted-depth T f fits n within x.address (own-tile x i))
          (λ j. record { address = names j; motion = x.motion })
        where
          names : lifted_in f (lifted_in (at_level f n) (lift x).address) ≡ lifted_in f (lifted_in (at_level f n) x.address)
          names = ap (λ (t : Placed A). t.address)
              (renamed T f fits n within (lift x).address (lift-tile x i)
              ∙ renamed T f fits low start x.address (tile x i)
              ∙ sym (renamed T f fits n within x.address (own-tile x i)))

      all-again : map (tile_of_ancestor (at_level f n)) lifted ≡ map (tile_of_ancestor (at_level f n)) listing
      all-again = go listing lifted-again
        where
          go : (xs : List (Placed A)) → ((x : Placed A) → IsAmong x xs → tile_of_ancestor (at_level f n) (lift x) ≡ tile_of_ancestor (at_level f n) x)
              → map (tile_of_ancestor (at_level f n)) (map lift xs) ≡ map (tile_of_ancestor (at_level f n)) xs
          go [] h = refl
          go (x ∷ xs) h = ap₂ (λ (t : Placed A) (ts : List (Placed A)). t ∷ ts) (h x (inl refl)) (go xs (λ y i. h y (inr i)))

      lifted-frame : AreOfFrame P r (at_level f n) lifted
      lifted-frame = AllByRecursion-map (λ (x : Placed A). IsTileOf children (at_level f n) x.address) lift listing
          (AllByRecursion-from (λ (x : Placed A). IsTileOf children (at_level f n) (lift x).address) listing lift-tile)

      own-frame : AreOfFrame P r (at_level f n) listing
      own-frame = AllByRecursion-from (λ (x : Placed A). IsTileOf children (at_level f n) x.address) listing own-tile

    -- ---- what is said
    right-lifted : IsRightListing P r f box m listing → IsRightListing P r f box m lifted
    right-lifted h = record {
      depth = h.depth;
      least = subst (λ k. IsLeastDepth P r f box k h.depth) (sym same-deepest) h.least;
      of_frame = lifted-frame h.depth h.least.not_below h.least.within;
      all_that_meet = subst (AreAllThatMeet S (Placed A) (frame_patch P r (at_level f h.depth)) box)
          (sym (all-again h.depth h.least.not_below h.least.within)) h.all_that_meet;
    }

    lifted-right : IsRightListing P r f box m lifted → IsRightListing P r f box m listing
    lifted-right h =
        let least : IsLeastDepth P r f box low h.depth = subst (λ k. IsLeastDepth P r f box k h.depth) same-deepest h.least in
        record {
          depth = h.depth;
          least = least;
          of_frame = own-frame h.depth least.not_below least.within;
          all_that_meet = subst (AreAllThatMeet S (Placed A) (frame_patch P r (at_level f h.depth)) box)
              (all-again h.depth least.not_below least.within) h.all_that_meet;
        }

    listed-lifted : AreAllListed P refused r f box m listing → AreAllListed P refused r f box m lifted
    listed-lifted h = record {
      depth = h.depth;
      least = subst (λ k. IsLeastDepth P r f box k h.depth) (sym same-deepest) h.least;
      each_listed = λ x i k. subst (IsAmong x) (sym (all-again h.depth h.least.not_below h.least.within)) (h.each_listed x i k);
      none_refused = h.none_refused;
    }

    lifted-listed : AreAllListed P refused r f box m lifted → AreAllListed P refused r f box m listing
    lifted-listed h =
        let least : IsLeastDepth P r f box low h.depth = subst (λ k. IsLeastDepth P r f box k h.depth) same-deepest h.least in
        record {
          depth = h.depth;
          least = least;
          each_listed = λ x i k. subst (IsAmong x) (all-again h.depth least.not_below least.within) (h.each_listed x i k);
          none_refused = h.none_refused;
        }

    -- a line's tile has one name
    same-meeting : (x : Placed A) → IsAmong x listing → (¬ NamesMeeting P r f box (lift x).address) ↔ (¬ NamesMeeting P r f box x.address)
    same-meeting x i = not-both (subst Meets name, subst Meets (sym name))
      where
        Meets : Placed A → Type 0
        Meets t = PolygonMeetsBox S box (tile_polygon P r (λ z. z) t)

        name : in_frame P r f (lift x).address ≡ in_frame P r f x.address
        name = renamed T f fits low start x.address (tile x i)

    turned : {Q R : Type 0} → Q ↔ R → R ↔ Q
    turned h = (h.1, h.0)

    pub say-the-same : SayTheSame P refused r f box m listing lifted
    say-the-same = record {
      deepest = same-deepest;
      right = (lifted-right, right-lifted);
      unrefused = (λ h. own listing h, λ h. AllByRecursion-map (λ (x : Placed A). refused x.motion.shift ≡ false) lift listing h);
      all_listed = (lifted-listed, listed-lifted);
      stray = λ i. (
        λ h. record {
          all_listed = lifted-listed h.all_listed;
          first = first-same (λ (x : Placed A). ¬ NamesMeeting P r f box (lift x).address)
              (λ (x : Placed A). ¬ NamesMeeting P r f box x.address) listing i same-meeting
              (first-source (λ (x : Placed A). ¬ NamesMeeting P r f box x.address) lift listing i h.first);
        },
        λ h. record {
          all_listed = listed-lifted h.all_listed;
          first = first-image (λ (x : Placed A). ¬ NamesMeeting P r f box x.address) lift listing i
              (first-same (λ (x : Placed A). ¬ NamesMeeting P r f box x.address)
              (λ (x : Placed A). ¬ NamesMeeting P r f box (lift x).address) listing i
              (λ x j. turned (same-meeting x j)) h.first);
        },
      );
    }
      where
        own : (xs : List (Placed A)) → AreUnrefused refused (map lift xs) → AreUnrefused refused xs
        own [] h = tt
        own (x ∷ xs) h = (h.0, own xs h.1)
