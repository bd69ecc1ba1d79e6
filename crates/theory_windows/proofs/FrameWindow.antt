-- The least depth at which the frame's polygon is enough for a window, and the limits, are those of the patch.
use Rattle.std.proofs.Common.{◌≡◌, ◌↔◌, inl, inr, ℕ, ◌≤◌, Bool, false, List, map, length, sym, ap, ◌∙◌, subst, arith}
use Rattle.std.specs.List.{AllByRecursion}
use Rattle.std.proofs.lemmas.Bool.{cases_lt}
use Rattle.std.proofs.lemmas.List.{length-map}
use Rattle.theory_ring.specs.Sign.{Signed}
use Rattle.theory_plane.specs.Box.{OpenBox}
use Rattle.theory_addresses.specs.Address.{Address, depth, Fits}
use Rattle.theory_addresses.specs.Tables.{child_kinds}
use Rattle.theory_addresses.proofs.Lists.{AllByRecursion-among, AllByRecursion-from, AllByRecursion-map, IsAmong-map}
use Rattle.theory_substitution.specs.Supertile.{Placed}
use Rattle.theory_edge_to_edge.specs.Contacts.{tables_of}
use Rattle.theory_dissection.proofs.Setting.{Setting}
use Rattle.theory_windows.specs.GrowingPatch.{IsInner}
use Rattle.theory_windows.specs.EnoughDepth.{IsEnough, AreDrawnAtDepth, IsLeastEnough}
use Rattle.theory_windows.specs.GrownPolygon.{HoldsWindow}
use Rattle.theory_windows.specs.Limits.{IsWithinLimits}
use Rattle.theory_windows.specs.FramePatch.{growing_frame, frame_polygon, tile_of_ancestor}
use Rattle.theory_windows.specs.FrameWindow.{IsLeastDepth, IsWindowWithin}
use Rattle.theory_windows.proofs.GrownPolygon.{enough_by_polygon}
use Rattle.theory_windows.proofs.FramePolygon.{frame-whole}
use Rattle.theory_windows.proofs.Renamed.{at-depth}
use Rattle.theory_windows.proofs.FrameDrawn.{Fine, fine-deep, LiftedList, unlift-all, drawn-from, drawn-to}

module _ (T : Setting) where
  open T use {points as P, laws as W, accepted.{rule as r, numbered as N, edge_to_edge as D}}

  abbrev A : Type 0
  A = P.ring.carrier

  abbrev S : Signed
  S = P.real

  abbrev children : List (List ℕ)
  children = child_kinds (tables_of P r)

  module _ (f : Address) (fits : Fits children f) (refused : A → Bool) where
    -- ---- enough depths
    module _ (box : OpenBox S.ops.carrier) where
      abbrev Enough : ℕ → Type 0
      Enough = IsEnough S (Placed A) (growing_frame P refused r f) box

      enough-polygon : (n : ℕ) → n ≤ depth f → Enough n ↔ HoldsWindow S box (frame_polygon P r f n)
      enough-polygon n within = enough_by_polygon S W.of_real W.of_order (growing_frame P refused r f) box n
          (frame_polygon P r f n) (frame-whole T f fits refused n within)

      -- beyond the frame's own depth there are no more tiles
      enough-beyond : (n : ℕ) → depth f ≤ n → Enough n → Enough (depth f)
      enough-beyond n beyond E = record {
        holds_centre = (E.holds_centre.0, (E.holds_centre.1.0, at-depth T f fits E.holds_centre.0 E.holds_centre.1.0), E.holds_centre.2);
        none_on_boundary = λ t h e i m.
            let u : IsInner S (Placed A) (growing_frame P refused r f) n e = E.none_on_boundary t (h.0, at_most _ (depth f) n h.1 beyond) e i m in
            (u.0, u.1, (u.2.0, at-depth T f fits u.0 u.2.0), u.3, u.4);
      }
        where
          at_most : (x y z : ℕ) → x ≤ y → y ≤ z → x ≤ z
          at_most x y z k l = omega arith

      module _ (m n : ℕ) (start : m ≤ depth f) where
        pub least-enough : IsLeastDepth P r f box m n → IsLeastEnough S (Placed A) (growing_frame P refused r f) box m n
        least-enough h = record {
          not_below = h.not_below;
          enough = (enough-polygon n h.within).1 h.holds;
          least = λ k l E. elim (cases_lt (depth f) k) [
            | inl lt ↦ let w = h.within in omega arith
            | inr le ↦ h.least k l le ((enough-polygon k le).0 E)
          ];
        }

        pub enough-least : IsLeastEnough S (Placed A) (growing_frame P refused r f) box m n → IsLeastDepth P r f box m n
        enough-least h = record {
          not_below = h.not_below;
          within = within;
          holds = (enough-polygon n within).0 h.enough;
          least = λ k l w x. h.least k l ((enough-polygon k w).1 x);
        }
          where
            within : n ≤ depth f
            within = elim (cases_lt (depth f) n) [ inl lt ↦ h.least (depth f) start (enough-beyond n (omega arith) h.enough) | inr le ↦ le ]

      -- ---- within the limits
      module _ (m limit : ℕ) (start : m ≤ depth f) where
        same_length : (tiles : List (Placed A)) → length (map (tile_of_ancestor f) tiles) ≡ length tiles
        same_length tiles = length-map tiles (tile_of_ancestor f)

        abbrev Kept : Placed A → Type 0
        Kept t = refused t.motion.shift ≡ false

        pub within-limits : IsWindowWithin P refused r f box m limit → IsWithinLimits S (Placed A) (growing_frame P refused r f) box m limit
        within-limits h = record {
          depth = h.depth;
          least = least-enough m h.depth start h.least;
          drawn = map (tile_of_ancestor f) h.drawn;
          are_drawn = drawn-from T f fits refused h.depth h.least.within box h.drawn
              (AllByRecursion-from _ h.drawn (λ x i. fine-deep T f fits refused h.depth h.least.within x
              (AllByRecursion-among (Fine T f fits refused h.depth h.least.within) x h.drawn i
              h.all_that_meet.of_patch))) h.all_that_meet;
          none_refused = AllByRecursion-map Kept (tile_of_ancestor f) h.drawn h.none_refused;
          not_too_many = subst (λ k. k ≤ limit) (sym (same_length h.drawn)) h.not_too_many;
        }

        pub limits-within : IsWithinLimits S (Placed A) (growing_frame P refused r f) box m limit → IsWindowWithin P refused r f box m limit
        limits-within h =
            let least : IsLeastDepth P r f box m h.depth = enough-least m h.depth start h.least in
            let u : LiftedList T f fits refused h.depth least.within h.drawn = unlift-all T f fits refused
            h.depth least.within h.drawn h.are_drawn.of_depth in
            record {
              depth = h.depth;
              least = least;
              drawn = u.tiles;
              all_that_meet = drawn-to T f fits refused h.depth least.within box u.tiles u.deep
                  (subst (λ ts. AreDrawnAtDepth S (Placed A) (growing_frame P refused r f) box h.depth ts) u.are
                  h.are_drawn);
              none_refused = AllByRecursion-from Kept u.tiles (λ x i.
                  AllByRecursion-among Kept (tile_of_ancestor f x) (map (tile_of_ancestor f) u.tiles)
                  (IsAmong-map (tile_of_ancestor f) x u.tiles i)
                  (subst (AllByRecursion Kept) u.are h.none_refused));
              not_too_many = subst (λ k. k ≤ limit) (ap (λ (ts : List (Placed A)). length ts) u.are ∙ same_length u.tiles) h.not_too_many;
            }
