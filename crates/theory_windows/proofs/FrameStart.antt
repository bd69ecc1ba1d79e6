-- The search on a frame starts with the tile that holds the centre, at the least depth at which the frame holds it.
use Rattle.std.proofs.Common.{◌≡◌, ℕ, ◌<◌, ◌≤◌, Bool, true, false, subst, arith}
use Rattle.theory_ring.specs.Divisor.{DividesWhole}
use Rattle.theory_plane.specs.Plane.{test_point}
use Rattle.theory_plane.specs.Crossing.{member}
use Rattle.theory_plane.specs.Box.{OpenBox}
use Rattle.theory_addresses.specs.Address.{Address, depth}
use Rattle.theory_addresses.specs.Search.{IsAmong}
use Rattle.theory_addresses.proofs.Chains.{chain_of}
use Rattle.theory_substitution.specs.Plane.{plane_point, box_at}
use Rattle.theory_substitution.specs.Supertile.{Placed}
use Rattle.theory_edge_to_edge.specs.Contacts.{tables_of}
use Rattle.theory_dissection.specs.Polygons.{tile_polygon}
use Rattle.theory_dissection.proofs.Setting.{Setting}
use Rattle.theory_frames.specs.Frame.{at_level, frame_tiles, lifted_in}
use Rattle.theory_windows.specs.GrowingPatch.{GrowingPatch}
use Rattle.theory_windows.specs.EnoughDepth.{IsNotBeyond}
use Rattle.theory_windows.specs.SearchState.{started}
use Rattle.theory_windows.specs.PatchWindow.{PatchWindow}
use Rattle.theory_windows.specs.FramePatch.{level_in, growing_frame, tile_of_ancestor}
use Rattle.theory_windows.specs.FrameCover.{IsWindowOn, IsRightOn, IsLeastHolding}
use Rattle.theory_windows.proofs.Steps.{start_right}
use Rattle.theory_windows.proofs.FramePatch.{frame-dissected}
use Rattle.theory_windows.proofs.GrownCrossings.{max-is}
use Rattle.theory_windows.proofs.FrameHolds.{holder-level}
use Rattle.theory_windows.proofs.Lifts.{named-depth, fine-named}
use Rattle.theory_windows.specs.GrowingPatch.{IsOfDepth}

at_most : (x y z : ℕ) → x ≤ y → y ≤ z → x ≤ z
at_most x y z k l = omega arith

module _ (T : Setting) (divides : DividesWhole T.points.real) (f : Address)
    (refused : T.points.ring.carrier → Bool) (centre : T.points.ring.carrier) (w h : ℕ)
    (on : IsWindowOn T.points T.accepted f (box_at T.points centre w h)) where
  open T use {points as P, laws as W, accepted.{rule as r, numbered as N, edge_to_edge as D}}

  abbrev A : Type 0
  A = P.ring.carrier

  abbrev box : OpenBox P.real.ops.carrier
  box = box_at P centre w h

  abbrev F : GrowingPatch P.real (Placed A)
  F = growing_frame P refused r f

  abbrev G : PatchWindow P.real (Placed A)
  G = record { growing = F; dissected = frame-dissected T f (chain_of (tables_of P r) f on.frame); box = box; wide = on.wide; high = on.high }

  pub frame-start : (m n : ℕ) → IsLeastHolding P r f centre m n → (t : Placed A) → IsAmong t (frame_tiles P r (at_level f n))
      → member P.real (tile_polygon P r (λ z. z) t) (test_point P.real.ops (plane_point P centre)) ≡ true
      → IsNotBeyond P.real (Placed A) F box m n
      × (refused t.motion.shift ≡ false → IsRightOn P refused T.accepted f box
      (started P.real (Placed A) F box n (tile_of_ancestor f t)))
  frame-start m n least t i holds =
      subst (λ k. IsNotBeyond P.real (Placed A) F box m k
      × (refused t.motion.shift ≡ false → IsRightOn P refused T.accepted f box
      (started P.real (Placed A) F box k (tile_of_ancestor f t))))
      (max-is m n (level_in f (lifted_in f t.address)) least.not_below there.1
      (λ k l lt at. absurd (least.least k l lt ((holder-level T f on.frame (tile_of_ancestor f t) there.0 centre
      holds k (at_most k n (depth f) (below lt) least.within)).1 at))))
      (start_right P.real W.of_real W.of_order divides G (tile_of_ancestor f t) (record { of_patch = there.0; holds = holds }) m)
    where
      there : IsOfDepth P.real (Placed A) F n (tile_of_ancestor f t)
      there = named-depth T f on.frame refused n least.within (tile_of_ancestor f t) (fine-named T f on.frame refused n least.within t i)

      below : {x y : ℕ} → x < y → x ≤ y
      below lt = omega arith
