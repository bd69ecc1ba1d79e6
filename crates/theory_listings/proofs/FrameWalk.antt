-- The walk through a listing in a frame.
use Rattle.std.proofs.Common.{◌≡◌, ℕ, zero, suc, ◌<◌, ◌≤◌, Bool, List, [], ◌∷◌, map, length, refl, sym, ap, ◌∙◌, subst, arith, IsTrue}
use Rattle.std.specs.List.{AllByRecursion}
use Rattle.std.proofs.lemmas.List.{length-map}
use Rattle.theory_ring.specs.Sign.{Signed}
use Rattle.theory_ring.specs.Divisor.{DividesWhole}
use Rattle.theory_plane.specs.Plane.{test_point}
use Rattle.theory_plane.specs.Crossing.{member}
use Rattle.theory_plane.specs.Box.{OpenBox}
use Rattle.theory_addresses.specs.Address.{Address, depth}
use Rattle.theory_addresses.specs.Search.{IsAmong}
use Rattle.theory_addresses.specs.Tables.{child_kinds}
use Rattle.theory_addresses.proofs.Chains.{chain_of}
use Rattle.theory_addresses.proofs.Lists.{AllByRecursion-among, AllByRecursion-from, AllByRecursion-map, IsAmong-map}
use Rattle.theory_substitution.specs.Motion.{Motion, moved}
use Rattle.theory_substitution.specs.Plane.{plane_point}
use Rattle.theory_substitution.specs.RuleParts.{edge_count}
use Rattle.theory_substitution.specs.Supertile.{Placed}
use Rattle.theory_edge_to_edge.specs.Contacts.{tables_of}
use Rattle.theory_dissection.specs.Polygons.{tile_polygon}
use Rattle.theory_dissection.proofs.Setting.{Setting}
use Rattle.theory_dissection.proofs.RuleAddresses.{lowest_exists}
use Rattle.theory_frames.specs.Frame.{at_level, frame_tiles, IsTileOf, lifted_in}
use Rattle.theory_windows.specs.Distinct.{AreDistinct}
use Rattle.theory_windows.specs.Outlines.{edges, MeetsBox}
use Rattle.theory_windows.specs.Meeting.{PolygonMeetsBox}
use Rattle.theory_windows.specs.Patch.{HasAcross}
use Rattle.theory_windows.specs.GrowingPatch.{GrowingPatch, IsOfDepth}
use Rattle.theory_windows.specs.PatchWindow.{PatchWindow, LiesAcross}
use Rattle.theory_windows.specs.Refusals.{IsDepthLimit}
use Rattle.theory_windows.specs.FramePatch.{frame_patch, level_in, growing_frame, tile_of_ancestor, in_frame, line_of}
use Rattle.theory_windows.specs.FrameCover.{IsWindowOn}
use Rattle.theory_windows.proofs.CarriedFrames.{frame_patch_law, lift_law, lines_law}
use Rattle.theory_windows.proofs.KindEdges.{line-number}
use Rattle.theory_windows.proofs.Renamed.{shorter, longer}
use Rattle.theory_windows.proofs.Members.{among-map}
use Rattle.theory_listings.specs.Lines.{ListLine, named_tiles, IsLineAt, AreLinesOf}
use Rattle.theory_listings.specs.Walk.{IsWalkedOut, WalkFault, HasWalkCause}
use Rattle.theory_listings.specs.RightList.{IsRightList, IsAllListed}
use Rattle.theory_listings.specs.Theorem.{ComesOn, IsEdgeOfWalk, WalkHolds}
use Rattle.theory_listings.specs.FrameListing.{deepest_listed, AreOfFrame, IsRightListing, AreUnrefused, AreAllListed, NamesMeeting, HasEarlier}
use Rattle.theory_listings.specs.FrameWalk.{line_named, lines_named, IsListedIn, IsWalkOn, IsListingOn, ComesOnIn, IsEdgeOfWalkOn, AreAllCrossed, IsWalkEnd, IsRightInFrame, HasNoListFault}
use Rattle.theory_listings.proofs.Lines.{line-among, tile-line, same_some, first-image, first-source}
use Rattle.theory_listings.proofs.Walk.{walk-holds}
use Rattle.theory_listings.proofs.FrameLines.{deepest-is, deepest-among, named-are, lines-of, names-apart, right-lines, right-depth, lines-right, listed-lines, lines-listed, unrefused-lines}

none_below : (j : ℕ) → j < 0 → ⊥
none_below j h = omega arith

below : (j i : ℕ) → suc j < suc i → j < i
below j i h = omega arith

-- of distinct lifted addresses no line has that of an earlier one
pub none-earlier : {A : Type 0} (f : Address) (listing : List (Placed A)) → AreDistinct (map (λ (x : Placed A). lifted_in f x.address) listing)
    → (i : ℕ) (x : Placed A) → IsLineAt listing i x → HasEarlier f listing i x → ⊥
none-earlier f [] d i x at h = absurd (cc at)
none-earlier f (y ∷ ys) d zero x at h = absurd (none_below h.0 h.2)
none-earlier {A} f (y ∷ ys) d (suc i) x at h = absurd (at_number (λ h. none-earlier f ys d.1 i x at h) h.0 h.1 h.2 h.3 h.4)
  where
    at_number : (HasEarlier f ys i x → ⊥) → (j : ℕ) (e : Placed A) → j < suc i → IsLineAt (y ∷ ys) j e
        → lifted_in f e.address ≡ lifted_in f x.address → ⊥
    at_number more zero e b here same =
        absurd (d.0 (subst (λ a. IsAmong a (map (λ (x : Placed A). lifted_in f x.address) ys))
        (sym same ∙ ap (λ (q : Placed A). lifted_in f q.address) (sym (same_some y e here)))
        (IsAmong-map (λ (q : Placed A). lifted_in f q.address) x ys (line-among ys i x at))))
    at_number more (suc j) e b here same = absurd (more (j, e, below j i b, here, same))

module _ (T : Setting) (divides : DividesWhole T.points.real) where
  open T use {points as P, laws as W, accepted.{rule as r}}

  abbrev A : Type 0
  A = P.ring.carrier

  abbrev S : Signed
  S = P.real

  abbrev children : List (List ℕ)
  children = child_kinds (tables_of P r)

  abbrev LineOf : Type 0
  LineOf = ListLine (Placed A) (Motion A)

  module _ (f : Address) (refused : A → Bool) (box : OpenBox S.ops.carrier)
      (window : IsWindowOn P T.accepted f box) (m : ℕ) (listing : List (Placed A)) where
    abbrev F : GrowingPatch S (Placed A)
    F = growing_frame P refused r f

    abbrev G : PatchWindow S (Placed A)
    G = record { growing = F; dissected = frame_patch_law P W T.accepted f window.frame; box = box; wide = window.wide; high = window.high }

    abbrev lines : List LineOf
    lines = lines_named P r f listing

    abbrev low : ℕ
    low = deepest_listed m listing

    abbrev shift_of : Placed A → Motion A
    shift_of x = x.motion

    abbrev Holds : Type 0
    Holds = WalkHolds S (Placed A) (Motion A) G shift_of m lines

    holds-of : AreLinesOf S (Placed A) (Motion A) F lines → Holds
    holds-of h = walk-holds S W.of_real W.of_order divides G shift_of m lines h

    module _ (on : IsListingOn P T.accepted f box m listing) where
      are_lines : AreLinesOf S (Placed A) (Motion A) F lines
      are_lines = lines-of T f refused box window m listing on.within on.of_frame on.distinct

      holds : Holds
      holds = holds-of are_lines

      comes : (found : List (Placed A)) (u : Placed A)
          → ComesOn S (Placed A) (Motion A) G shift_of lines found u
          → ComesOnIn P refused T.accepted f box listing found u
      comes found u h = record { meets = h.meets; onward = h.onward }

      pub walk-start : (n : ℕ) → n ≤ depth f → (t : Placed A) → IsAmong t (frame_tiles P r (at_level f n))
          → IsTrue (member S (tile_polygon P r (λ z. z) t) (test_point S.ops box.centre))
          → ComesOnIn P refused T.accepted f box listing [] (tile_of_ancestor f t)
      walk-start n within t i inside =
          let d : IsOfDepth S (Placed A) F n (tile_of_ancestor f t)
          = (lift_law P W T.accepted f window.frame refused n within (tile_of_ancestor f t)).1 (t, i, refl) in
          comes [] (tile_of_ancestor f t) (holds.start (tile_of_ancestor f t) (record { of_patch = d.0; holds = inside }))

      -- an edge of a tile found
      module _ (found : List (Placed A)) (a : Address) (e : ℕ) (h : IsEdgeOfWalkOn P refused T.accepted f box listing found a e) where
        its_edge : IsEdgeOfWalk S (Placed A) (Motion A) G shift_of lines found (in_frame P r f a) (line_of P r (in_frame P r f a) e)
        its_edge = record {
          walk = h.walk;
          among = h.among;
          of_tile = line-among (edges (tile_polygon P r (λ z. z) (in_frame P r f a))) e (line_of P r (in_frame P r f a) e)
              (lines_law P W T.accepted (in_frame P r f a)
              (lowest_exists T a.kind a.digits (chain_of (tables_of P r) a h.edge.tile.fits)) e
              h.edge.edge_exists);
          edge_meets = h.edge_meets;
        }

        pub walk-step : (u : Placed A) → LiesAcross S (Placed A) F (line_of P r (in_frame P r f a) e) u
            → ComesOnIn P refused T.accepted f box listing found u
        walk-step u across = comes found u (holds.step found (in_frame P r f a) (line_of P r (in_frame P r f a) e) its_edge u across)

        pub walk-stop : ((u : Placed A) → ¬ LiesAcross S (Placed A) F (line_of P r (in_frame P r f a) e) u)
            → IsDepthLimit S (Placed A) F box (line_of P r (in_frame P r f a) e) (in_frame P r f a)
        walk-stop none = holds.stop found (in_frame P r f a) (line_of P r (in_frame P r f a) e) its_edge none

      pub walk-room : (found : List (Placed A)) → IsWalkOn P refused r f box listing found → (u : Placed A)
          → ¬ IsAmong u found → IsListedIn P r f listing u → length found < length listing
      walk-room found w u new listed = subst (λ k. length found < k) (length-map listing (line_named P r f)) (holds.room found w u new listed)

      pub walk-beyond : (u : Placed A) → low < level_in f u.address → IsAmong u (named_tiles lines) → ⊥
      walk-beyond u beyond i =
          let l = tile-line lines u i in
          let s = among-map (line_named P r f) l.0 listing l.1 in
          let d : IsOfDepth S (Placed A) F l.0.digits l.0.tile = AllByRecursion-among
          (λ (l : LineOf). IsOfDepth S (Placed A) F l.digits l.tile) l.0 lines l.1 are_lines.of_depth in
          absurd (less (level_in f u.address) l.0.digits low (subst (λ (v : Placed A). level_in f v.address ≤ l.0.digits) (sym l.2) d.1)
          (subst (λ (k : LineOf). k.digits ≤ low) (sym s.2) (deepest-among m listing s.0 s.1)) beyond)
        where
          less : (x y z : ℕ) → x ≤ y → y ≤ z → z < x → ⊥
          less x y z g h k = omega arith

      -- ---- the end
      module _ (found : List (Placed A)) (w : IsWalkOn P refused r f box listing found)
          (crossed : AreAllCrossed P T.accepted f box listing found) where
        -- each tile found is that of a line
        out : IsWalkedOut S (Placed A) (frame_patch P r f) box found
        out t i e j k = at_line (AllByRecursion-among (IsListedIn P r f listing) t found i w.each_listed)
          where
            at_line : IsListedIn P r f listing t → HasAcross S (Placed A) (frame_patch P r f) found e
            at_line l =
                let s = among-map (line_named P r f) l.0 listing l.1 in
                let name : in_frame P r f s.0.address ≡ t = ap (λ (l : LineOf). l.tile) (sym s.2) ∙ l.2 in
                at_edge s.0 s.1 name (edge-number s.0 s.1 (subst (λ (u : Placed A). IsAmong e (edges (tile_polygon P r (λ z. z) u))) (sym name) j))
              where
                exists : (x : Placed A) → IsAmong x listing → x.address.kind < length r.kinds
                exists x ix = lowest_exists T x.address.kind x.address.digits (chain_of (tables_of P r) x.address
                    (AllByRecursion-among (λ (x : Placed A). IsTileOf children (at_level f low) x.address) x listing ix on.of_frame).fits)

                -- an edge of a line's tile has a number
                edge-number : (x : Placed A) → IsAmong x listing → IsAmong e (edges (tile_polygon P r (λ z. z) (in_frame P r f x.address)))
                    → (n : ℕ) × (n < edge_count r x.address.kind) × (e ≡ line_of P r (in_frame P r f x.address) n)
                edge-number x ix h = line-number T (λ z. plane_point P (moved P (in_frame P r f x.address).motion z)) x.address.kind (exists x ix) e h

                at_edge : (x : Placed A) → IsAmong x listing → in_frame P r f x.address ≡ t → (n : ℕ)
                    × (n < edge_count r x.address.kind) × (e ≡ line_of P r (in_frame P r f x.address) n)
                    → HasAcross S (Placed A) (frame_patch P r f) found e
                at_edge x ix name n = subst (HasAcross S (Placed A) (frame_patch P r f) found) (sym n.2)
                    (crossed x ix (subst (λ u. IsAmong u found) (sym name) i) n.0 n.1 (subst (MeetsBox S box) n.2 k))

        finished : IsAllListed S (Placed A) (Motion A) F box shift_of m lines
        finished = (holds.finish found w out).1

        pub walk-end : IsWalkEnd P refused T.accepted f box m listing found
        walk-end = record {
          all_found = (holds.finish found w out).0;
          all_listed = lines-listed T f refused box window m listing on.within on.of_frame finished;
          right = right;
          stray = λ i h. record {
            all_listed = lines-listed T f refused box window m listing on.within on.of_frame finished;
            first = first-source (λ (l : LineOf). ¬ PolygonMeetsBox S box (tile_polygon P r (λ z. z) l.tile)) (line_named P r f) listing i
                (holds.stray found w out i (first-image (λ (l : LineOf). ¬ IsAmong l.tile found) (line_named P r f) listing i h)).first;
          };
        }
          where
            right : AllByRecursion (λ (x : Placed A). IsAmong (in_frame P r f x.address) found) listing
                → IsRightListing P r f box m listing × AreUnrefused refused listing
            right each =
                let h = holds.right found w out (subst (AllByRecursion (λ t. IsAmong t found)) (sym (named-are T f refused box window m listing))
                (AllByRecursion-map (λ t. IsAmong t found) (λ (x : Placed A). in_frame P r f x.address) listing each)) in (
                  lines-right T f refused box window m listing on.within on.of_frame h.0,
                  (unrefused-lines T f refused box window m listing on.within on.of_frame
                      (AllByRecursion-from (λ (x : Placed A). x.motion ≡ (in_frame P r f x.address).motion)
                      listing
                      (λ x i. AllByRecursion-among (λ (l : LineOf). l.motion ≡ l.tile.motion)
                      (line_named P r f x) lines (IsAmong-map (line_named P r f) x listing i)
                      h.0.placed))).1 h.1,
                )

      pub walk-no_fault : AreAllListed P refused r f box m listing → (a : WalkFault S (Placed A) (Motion A))
          → ¬ HasWalkCause S (Placed A) (Motion A) F box shift_of lines a
      walk-no_fault h a = holds.no_fault (listed-lines T f refused box window m listing on.within on.of_frame h) a

    -- ---- a right listing
    module _ (h : IsRightListing P r f box m listing) where
      start : low ≤ depth f
      start = at_most h.least.not_below h.least.within
        where
          at_most : {x y z : ℕ} → x ≤ y → y ≤ z → x ≤ z
          at_most g k = omega arith

      right : IsRightList S (Placed A) (Motion A) F box shift_of m lines
      right = right-lines T f refused box window m listing start h

      its_frame : AreOfFrame P r (at_level f low) listing
      its_frame = AllByRecursion-from (λ (x : Placed A). IsTileOf children (at_level f low) x.address) listing (λ x i.
          shorter T f window.frame low start x.address
          (longer T f window.frame h.depth h.least.within x.address
          (AllByRecursion-among (λ (x : Placed A). IsTileOf children (at_level f h.depth) x.address) x
          listing i h.of_frame))
          (deepest-among m listing x i))

      on-frame : IsListingOn P T.accepted f box m listing
      on-frame = record {
        window = window;
        within = start;
        of_frame = its_frame;
        distinct = names-apart T f refused box window m listing start its_frame right.drawn.distinct;
      }

      right-holds : Holds
      right-holds = holds on-frame

      pub right-in_frame : IsRightInFrame P refused T.accepted f box m listing h.depth
      unfolding right
      right-in_frame = record {
        depth = sym (right-depth T f refused box window m listing start h) ∙ right-holds.right_depth right
            ∙ deepest-is T f refused box window m listing;
        listing_on = on-frame;
        all_listed = λ kept. lines-listed T f refused box window m listing start its_frame (right-holds.all_listed right
            ((unrefused-lines T f refused box window m listing start its_frame
            (AllByRecursion-from (λ (x : Placed A). x.motion ≡ (in_frame P r f x.address).motion) listing
            (λ x i. AllByRecursion-among (λ (l : LineOf). l.motion ≡ l.tile.motion) (line_named P r f x) lines
            (IsAmong-map (line_named P r f) x listing i) right.placed))).0 kept));
        each_meets = AllByRecursion-from (λ (x : Placed A). NamesMeeting P r f box x.address) listing meets;
      }
        where
          meets : (x : Placed A) → IsAmong x listing → NamesMeeting P r f box x.address
          meets x i = AllByRecursion-among (λ (t : Placed A). PolygonMeetsBox S box
              (tile_polygon P r (λ z. z) t)) (in_frame P r f x.address) (named_tiles lines)
              (subst (IsAmong (in_frame P r f x.address)) (sym (named-are T f refused box window m listing))
              (IsAmong-map (λ (x : Placed A). in_frame P r f x.address) x listing i))
              (right-holds.each_meets right)

      pub right-no_fault : HasNoListFault P refused T.accepted f box m listing
      right-no_fault = record {
        all_of_frame = λ i c. absurd (c.so (AllByRecursion-among
            (λ (x : Placed A). IsTileOf children (at_level f low) x.address) c.line listing
            (line-among listing i c.line c.is_line) its_frame));
        no_double = λ i c. absurd (none-earlier (at_level f low) listing on-frame.distinct i c.line c.is_line c.earlier);
        none_stray = λ i c. absurd (c.first.so (AllByRecursion-among (λ (x : Placed A). NamesMeeting P r f box x.address) c.first.line listing
            (line-among listing i c.first.line c.first.is_line) right-in_frame.each_meets));
      }
