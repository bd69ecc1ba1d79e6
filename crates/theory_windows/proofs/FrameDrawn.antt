-- The tiles of a frame at a depth that meet a window are, lifted, those drawn of the patch; and they cover what they cover lifted.
use Rattle.std.proofs.Common.{◌≡◌, ◌↔◌, ℕ, suc, ◌≤◌, Bool, cond, List, [], ◌∷◌, ◌++◌, map, drop, refl, sym, ap, ap₂, ◌∙◌, subst}
use Rattle.std.specs.List.{AllByRecursion}
use Rattle.std.proofs.lemmas.List.{append_cancel_right}
use Rattle.theory_ring.specs.Sign.{Signed}
use Rattle.theory_plane.specs.Box.{OpenBox}
use Rattle.theory_plane.specs.Crossing.{member}
use Rattle.theory_addresses.specs.Address.{Address, depth, Fits}
use Rattle.theory_addresses.specs.Search.{IsAmong}
use Rattle.theory_addresses.specs.Tables.{child_kinds}
use Rattle.theory_addresses.proofs.Lists.{AllByRecursion-among, AllByRecursion-from, AllByRecursion-map, IsAmong-map}
use Rattle.theory_substitution.specs.Supertile.{Placed}
use Rattle.theory_edge_to_edge.specs.Contacts.{tables_of}
use Rattle.theory_dissection.specs.Sums.{number_of}
use Rattle.theory_dissection.specs.Polygons.{tile_polygon}
use Rattle.theory_dissection.proofs.Setting.{Setting}
use Rattle.theory_frames.specs.Frame.{at_level, frame_tiles}
use Rattle.theory_windows.specs.Meeting.{PolygonMeetsBox}
use Rattle.theory_windows.specs.Patch.{Covers}
use Rattle.theory_windows.specs.GrowingPatch.{IsOfDepth}
use Rattle.theory_windows.specs.EnoughDepth.{AreDrawnAtDepth}
use Rattle.theory_windows.specs.FramePatch.{frame_patch, growing_frame, tile_of_ancestor}
use Rattle.theory_windows.specs.FrameWindow.{AreAllThatMeet}
use Rattle.theory_windows.proofs.Members.{among-map}
use Rattle.theory_windows.proofs.Places.{distinct-map, distinct-unmap}
use Rattle.theory_windows.proofs.Lifts.{Named, named-depth, lift-named, fine-depth, fine-named, named-fine, named-is, fine_tile}

number-map : {A B : Type 0} (test : B → Bool) (f : A → B) (xs : List A) → number_of test (map f xs) ≡ number_of (λ x. test (f x)) xs
number-map test f [] = refl
number-map test f (x ∷ xs) = ap (λ n. cond (test (f x)) (suc n) n) (number-map test f xs)

module _ (T : Setting) where
  open T use {points as P, laws as W, accepted.{rule as r, numbered as N, edge_to_edge as D}}

  abbrev A : Type 0
  A = P.ring.carrier

  abbrev S : Signed
  S = P.real

  abbrev children : List (List ℕ)
  children = child_kinds (tables_of P r)

  pub covers-lifted : (f : Address) (n : ℕ) (box : OpenBox S.ops.carrier) (tiles : List (Placed A))
      → Covers S (Placed A) (frame_patch P r (at_level f n)) box tiles ↔ Covers S (Placed A) (frame_patch P r f) box (map (tile_of_ancestor f) tiles)
  covers-lifted f n box tiles = (
    λ c p test inside. number-map (λ t. member S (tile_polygon P r (λ z. z) t) p) (tile_of_ancestor f) tiles ∙ c p test inside,
    λ c p test inside. sym (number-map (λ t. member S (tile_polygon P r (λ z. z) t) p) (tile_of_ancestor f) tiles) ∙ c p test inside,
  )

  module _ (f : Address) (fits : Fits children f) (refused : A → Bool) where
    module _ (n : ℕ) (within : n ≤ depth f) where
      abbrev pub Fine : Placed A → Type 0
      Fine x = IsAmong x (frame_tiles P r (at_level f n))

      abbrev OfDepth : Placed A → Type 0
      OfDepth = IsOfDepth S (Placed A) (growing_frame P refused r f) n

      -- a lifted tile of the ancestor's frame is of depth n, and each that is is one
      lift : (x : Placed A) → Fine x → OfDepth (tile_of_ancestor f x)
      lift x i = named-depth T f fits refused n within (tile_of_ancestor f x) (fine-named T f fits refused n within x i)

      pub fine-deep : (x : Placed A) → Fine x → depth x.address ≡ n
      fine-deep x i = fine-depth T f fits refused n within x i

      record Lifted (t : Placed A) : Type 0 where
        fine : Placed A
        among : Fine fine
        deep : depth fine.address ≡ n
        is : t ≡ tile_of_ancestor f fine

      unlift : (t : Placed A) → OfDepth t → Lifted t
      unlift t h =
          let u : Named T f fits refused n within t = lift-named T f fits refused n within t h in
          record {
            fine = fine_tile T f n u.fine;
            among = named-fine T f fits refused n within u.fine u.tile u.deep;
            deep = u.deep;
            is = u.is ∙ named-is T f fits refused n within u.fine u.deep;
          }

      -- tiles of one depth that are one when lifted are one
      pub lifted-one : (x y : Placed A) → depth x.address ≡ n → depth y.address ≡ n → tile_of_ancestor f x ≡ tile_of_ancestor f y → x ≡ y
      lifted-one x y dx dy e = λ i. record { address = record { kind = (e i).address.kind; digits = digits i }; motion = (e i).motion }
        where
          digits : x.address.digits ≡ y.address.digits
          digits = append_cancel_right x.address.digits y.address.digits (drop n f.digits)
              (ap (λ m. x.address.digits ++ drop m f.digits) (sym dx)
              ∙ ap (λ (t : Placed A). t.address.digits) e
              ∙ ap (λ m. y.address.digits ++ drop m f.digits) dy)

      -- ---- what is drawn
      module _ (box : OpenBox S.ops.carrier) (tiles : List (Placed A)) (deep : AllByRecursion (λ (t : Placed A). depth t.address ≡ n) tiles) where
        deep-one : (x : Placed A) → IsAmong x tiles → depth x.address ≡ n
        deep-one x i = AllByRecursion-among (λ (t : Placed A). depth t.address ≡ n) x tiles i deep

        -- a tile of depth n is among the tiles exactly where it is among them lifted
        among-lifted : (x : Placed A) → depth x.address ≡ n → IsAmong (tile_of_ancestor f x) (map (tile_of_ancestor f) tiles) → IsAmong x tiles
        among-lifted x dx i =
            let m = among-map (tile_of_ancestor f) (tile_of_ancestor f x) tiles i in
            subst (λ y. IsAmong y tiles) (sym (lifted-one x m.0 dx (deep-one m.0 m.1) m.2)) m.1

        pub drawn-from : AreAllThatMeet S (Placed A) (frame_patch P r (at_level f n)) box tiles
            → AreDrawnAtDepth S (Placed A) (growing_frame P refused r f) box n (map (tile_of_ancestor f) tiles)
        drawn-from h = record {
          of_depth = AllByRecursion-map OfDepth (tile_of_ancestor f) tiles
              (AllByRecursion-from (λ x. OfDepth (tile_of_ancestor f x)) tiles
              (λ x i. lift x (AllByRecursion-among Fine x tiles i h.of_patch)));
          distinct = distinct-map (tile_of_ancestor f) tiles (λ x y i j e. lifted-one x y (deep-one x i) (deep-one y j) e) h.distinct;
          meeting = λ t d. (λ m. to t m (unlift t d), λ i. back t i (unlift t d));
        }
          where
            to : (t : Placed A) → PolygonMeetsBox S box (tile_polygon P r (λ z. z) t) → Lifted t → IsAmong t (map (tile_of_ancestor f) tiles)
            to t m u =
                subst (λ y. IsAmong y (map (tile_of_ancestor f) tiles)) (sym u.is)
                (IsAmong-map (tile_of_ancestor f) u.fine tiles
                ((h.meeting u.fine u.among).0 (subst
                (λ (y : Placed A). PolygonMeetsBox S box (tile_polygon P r (λ z. z) y)) u.is m)))

            back : (t : Placed A) → IsAmong t (map (tile_of_ancestor f) tiles) → Lifted t → PolygonMeetsBox S box (tile_polygon P r (λ z. z) t)
            back t i u =
                subst (λ (y : Placed A). PolygonMeetsBox S box (tile_polygon P r (λ z. z) y)) (sym u.is)
                ((h.meeting u.fine u.among).1 (among-lifted u.fine u.deep (subst (λ y. IsAmong y (map (tile_of_ancestor f) tiles)) u.is i)))

        pub drawn-to : AreDrawnAtDepth S (Placed A) (growing_frame P refused r f) box n (map (tile_of_ancestor f) tiles)
            → AreAllThatMeet S (Placed A) (frame_patch P r (at_level f n)) box tiles
        drawn-to d = record {
          of_patch = AllByRecursion-from Fine tiles fine;
          distinct = distinct-unmap (tile_of_ancestor f) tiles d.distinct;
          meeting = λ x i. (
            λ m. among-lifted x (fine-deep x i) ((d.meeting (tile_of_ancestor f x) (lift x i)).0 m),
            λ j. (d.meeting (tile_of_ancestor f x) (lift x i)).1 (IsAmong-map (tile_of_ancestor f) x tiles j),
          );
        }
          where
            fine : (x : Placed A) → IsAmong x tiles → Fine x
            fine x i =
                let u : Lifted (tile_of_ancestor f x) = unlift (tile_of_ancestor f x)
                (AllByRecursion-among OfDepth (tile_of_ancestor f x) (map (tile_of_ancestor f) tiles)
                (IsAmong-map (tile_of_ancestor f) x tiles i) d.of_depth) in
                subst Fine (sym (lifted-one x u.fine (deep-one x i) u.deep u.is)) u.among

      -- tiles of depth n are some tiles lifted
      pub record LiftedList (ts : List (Placed A)) : Type 0 where
        pub tiles : List (Placed A)
        pub deep : AllByRecursion (λ (t : Placed A). depth t.address ≡ n) tiles
        pub are : ts ≡ map (tile_of_ancestor f) tiles

      pub unlift-all : (ts : List (Placed A)) → AllByRecursion OfDepth ts → LiftedList ts
      unlift-all [] h = record { tiles = []; deep = tt; are = refl }
      unlift-all (t ∷ ts) h =
          let u : Lifted t = unlift t h.0 in
          let more : LiftedList ts = unlift-all ts h.1 in
          record {
            tiles = u.fine ∷ more.tiles;
            deep = (u.deep, more.deep);
            are = ap₂ (λ (x : Placed A) (xs : List (Placed A)). x ∷ xs) u.is more.are;
          }
