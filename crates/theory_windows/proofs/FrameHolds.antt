-- The depths at which the frame holds a point are those from the level of the tile that holds it on.
use Rattle.std.proofs.Common.{◌≡◌, ℕ, ◌≤◌, ◌↔◌, true, List, refl, sym, ap, ◌∙◌}
use Rattle.std.proofs.lemmas.Simd.{map-map}
use Rattle.theory_ring.specs.Ring.{power}
use Rattle.theory_ring.specs.Sign.{Signed}
use Rattle.theory_plane.specs.Plane.{test_point}
use Rattle.theory_plane.specs.Crossing.{member}
use Rattle.theory_addresses.specs.Address.{Address, depth, top_kind, Fits}
use Rattle.theory_addresses.specs.Search.{IsAmong}
use Rattle.theory_addresses.specs.Tables.{Tables, child_kinds}
use Rattle.theory_addresses.proofs.Chains.{chain_of}
use Rattle.theory_substitution.specs.Plane.{plane_point}
use Rattle.theory_substitution.specs.Motion.{Motion, moved}
use Rattle.theory_substitution.specs.RuleParts.{vertices_of}
use Rattle.theory_substitution.specs.Supertile.{Placed}
use Rattle.theory_edge_to_edge.specs.Contacts.{tables_of}
use Rattle.theory_dissection.specs.Polygons.{tile_polygon}
use Rattle.theory_dissection.proofs.Setting.{Setting}
use Rattle.theory_dissection.proofs.Glue.{some_order}
use Rattle.theory_frames.specs.Contain.{ancestor_holds}
use Rattle.theory_frames.specs.Frame.{at_level, frame_tiles}
use Rattle.theory_frames.specs.Outline.{supertile_holds}
use Rattle.theory_frames.proofs.Outwards.{outward-back, turns_below}
use Rattle.theory_windows.specs.FramePatch.{frame_holds, level_in, growing_frame, frame_polygon}
use Rattle.theory_windows.proofs.FromLevel.{held_from_level}
use Rattle.theory_frames.specs.Back.{back}
use Rattle.theory_frames.specs.Outward.{HasTurnsBelow}
use Rattle.theory_substitution.specs.Placement.{placement}
use Rattle.theory_windows.proofs.FramePatch.{frame-dissected}
use Rattle.theory_windows.proofs.FramePolygon.{frame-whole}

module _ (T : Setting) where
  open T use {points as P, laws as W, accepted.{refused, rule as r, numbered as N, edge_to_edge as D}}

  abbrev A : Type 0
  A = P.ring.carrier

  abbrev S : Signed
  S = P.real

  abbrev t : Tables
  t = tables_of P r

  abbrev children : List (List ℕ)
  children = child_kinds t

  -- ---- by the motions found from level to level
  below : HasTurnsBelow P r
  below = turns_below P r (some_order T) (λ k c hk hc. N.turn_below k c hk hc)

  pub ancestor-holds : (f : Address) (n : ℕ) (p : A) → ancestor_holds P r f n p ≡ frame_holds P r f n p
  ancestor-holds f n p = ap (λ (m : Motion A). supertile_holds P r (top_kind (at_level f n)) n m p)
      (outward-back P W (some_order T) r below (at_level f n).digits)

  -- ---- by the frame's polygon
  frame-polygon : (f : Address) (n : ℕ) (p : A) → frame_holds P r f n p ≡ member S (frame_polygon P r f n) (test_point S.ops (plane_point P p))
  frame-polygon f n p =
      ap (λ vs. member S vs (test_point S.ops (plane_point P p)))
      (map-map (plane_point P) (λ z. moved P (back P (placement P r (at_level f n).digits))
      (P.ring.mul (power P.ring r.factor n) z)) (vertices_of r (top_kind (at_level f n))))

  pub holder-level : (f : Address) (fits : Fits children f) (x : Placed A) → IsAmong x (frame_tiles P r f) → (p : A)
      → member S (tile_polygon P r (λ z. z) x) (test_point S.ops (plane_point P p)) ≡ true
      → (n : ℕ) → n ≤ depth f → (frame_holds P r f n p ≡ true) ↔ (level_in f x.address ≤ n)
  holder-level f fits x i p h n within =
      let whole = (frame-whole T f fits refused n within).holds (test_point S.ops (plane_point P p)) (0, refl) in
      let held = held_from_level (growing_frame P refused r f) (frame-dissected T f (chain_of t f fits)) x i
      (test_point S.ops (plane_point P p)) (0, refl) h n in (
        λ g. held.0 (whole.0 (sym (frame-polygon f n p) ∙ g)),
        λ l. frame-polygon f n p ∙ whole.1 (held.1 l),
      )
