-- The tile found in an ancestor of the base is the only tile of the frame that holds the point.
use Rattle.std.proofs.Common.{◌≡◌, ℕ, ◌<◌, ◌≤◌, Bool, true, false, cond, suc, length, map, Some, refl, sym, ap, ◌∙◌}
use Rattle.std.proofs.lemmas.Simd.{map-map}
use Rattle.theory_plane.specs.Plane.{TestPoint, test_point}
use Rattle.theory_plane.specs.Crossing.{member}
use Rattle.theory_addresses.specs.Address.{depth, top_kind, Fits}
use Rattle.theory_addresses.specs.Search.{IsAmong}
use Rattle.theory_addresses.proofs.Lists.{map-ext}
use Rattle.theory_substitution.specs.Points.{Points, PointLaws}
use Rattle.theory_substitution.specs.Plane.{plane_point}
use Rattle.theory_substitution.specs.Motion.{Motion, moved, followed}
use Rattle.theory_substitution.specs.Rule.{Rule as TheRule}
use Rattle.theory_substitution.specs.RuleParts.{vertices_of}
use Rattle.theory_substitution.specs.Supertile.{Placed, supertile}
use Rattle.theory_substitution.proofs.Keeping.{motion-keeps}
use Rattle.theory_substitution.proofs.Motions.{moved-followed}
use Rattle.theory_ring.specs.Ring.{power}
use Rattle.cyclo_points.specs.Order.{NumberOf, PointsLaw, points_of}
use Rattle.theory_dissection.specs.Laws.{DissectionLaw}
use Rattle.theory_dissection.specs.Polygons.{tile_polygon, supertile_polygon}
use Rattle.theory_frames.specs.Frame.{at_level, IsTileOf, lifted_in, StandsInFrame}
use Rattle.theory_frames.specs.Laws.{FoundTileLaw}
use Rattle.theory_frames.specs.Outline.{supertile_holds}
use Rattle.theory_frames.specs.Outward.{HasTurnsBelow}
use Rattle.theory_frames.specs.Descent.{tile_holding}
use Rattle.theory_frames.specs.Contain.{ancestor_motion}
use Rattle.theory_frames.proofs.Carried.{some_turn, ancestor-moved}
use Rattle.theory_frames.proofs.Contained.{found-tile_of}
use Rattle.theory_frames.proofs.Frames.{IsWhole, lifted-whole, top-exists}
use Rattle.theory_frames.proofs.Located.{IsMoved}
use Rattle.theory_frames.proofs.Outwards.{turns_below}
use Rattle.rule_model.specs.declared.rule.Rule.{Rule}
use Rattle.rule_model.specs.Tiling.{tiling_of, children}
use Rattle.rule_model.specs.Views.{rule_of}
use Rattle.tile_place.proofs.Counted.{some_of_one, among-map}
use Rattle.tile_place.proofs.Held.{IsDissected, only_one}
use Rattle.tile_place.proofs.Plane.{IsSettled, its_rule}
use Rattle.theory_walks.specs.Containing.{FrameHolds, IsOnlyHolder, frame_motion}
use Rattle.theory_walks.specs.Frames.{FrameValue, whole}

module _ (P : Points) (W : PointLaws P) (r : TheRule P.ring.carrier) (dissected : IsDissected P r) (p : P.ring.carrier) where
  abbrev point : TestPoint P.real.ops.carrier
  point = test_point P.real.ops (plane_point P p)

  -- the tiles of a supertile that is moved
  abbrev moved_by : Motion P.ring.carrier → Placed P.ring.carrier → Placed P.ring.carrier
  moved_by m t = record { address = t.address; motion = followed P t.motion m }

  abbrev in_tile : (P.ring.carrier → P.ring.carrier) → Placed P.ring.carrier → Bool
  in_tile f t = member P.real (tile_polygon P r f t) point

  -- a moved supertile of which a tile holds the point holds it
  pub supertile_too : (k n : ℕ) (m : Motion P.ring.carrier) → k < length r.kinds → (x : Placed P.ring.carrier)
      → IsAmong x (map (moved_by m) (supertile P r k n)) → in_tile (λ z. z) x ≡ true
      → supertile_holds P r k n m p ≡ true
  supertile_too k n m exists x i holds = of_source (among-map (moved_by m) x (supertile P r k n) i)
    where
      in_whole : Bool
      in_whole = member P.real (supertile_polygon P r (moved P m) k n) point

      at_whole : (b : Bool) (l : ℕ) → suc l ≡ cond b 1 0 → b ≡ true
      at_whole true l e = refl
      at_whole false l e = absurd (cc e)

      at_home : (u : Placed P.ring.carrier) → in_tile (moved P m) u ≡ in_tile (λ z. z) (moved_by m u)
      at_home u = ap (λ vs. member P.real vs point)
          (map-ext (λ z. plane_point P (moved P m (moved P u.motion z)))
          (λ z. plane_point P (moved P (followed P u.motion m) z)) (vertices_of r u.address.kind)
          (λ z. ap (plane_point P) (sym (moved-followed P W u.motion m z))))

      of_source : (u : Placed P.ring.carrier) × IsAmong u (supertile P r k n) × (moved_by m u ≡ x) → supertile_holds P r k n m p ≡ true
      of_source u =
          let some = some_of_one (in_tile (moved P m)) u.0 (supertile P r k n) u.1 (at_home u.0 ∙ ap (in_tile (λ z. z)) u.2 ∙ holds) in
          ap (λ vs. member P.real vs point) (map-map (plane_point P) (λ z. moved P m (P.ring.mul (power P.ring r.factor n) z)) (vertices_of r k))
          ∙ at_whole in_whole some.0 (sym some.1 ∙ (dissected k n exists (moved P m) (motion-keeps P W m) point (0, refl)).one)

module _ (m : Rule) (settled : IsSettled m) (W : PointsLaw m.order) (law : DissectionLaw (points_of m.order))
    (f : FrameValue) (own_fits : Fits (children (tiling_of m)) (whole f))
    (level : ℕ) (within : level ≤ length f.digits) (p : NumberOf m.order) (t : Placed (NumberOf m.order))
    (found : tile_holding (points_of m.order) (rule_of m) (top_kind (at_level (whole f) level)) level
    (ancestor_motion (points_of m.order) (rule_of m) (whole f) level) p ≡ Some t) where
  below : HasTurnsBelow (points_of m.order) (rule_of m)
  below = turns_below (points_of m.order) (rule_of m) (some_turn m.order) settled.usable.numbered.turn_below

  own : IsMoved (points_of m.order) W (rule_of m) (top_kind (at_level (whole f) level)) level
      (ancestor_motion (points_of m.order) (rule_of m) (whole f) level) t
  own = ancestor-moved (points_of m.order) W (some_turn m.order) (rule_of m) (whole f) level p t below found

  -- it is of the frame, and lifted it names a tile of the frame's supertile
  tile_of : IsTileOf (children (tiling_of m)) (whole f) t.address × (depth t.address ≡ level)
  tile_of = found-tile_of (points_of m.order) W (some_turn m.order) (rule_of m) below (whole f) level within t
      own settled.usable.numbered.child_exists own_fits

  pub found-whole : IsWhole (children (tiling_of m)) (whole f) (lifted_in (whole f) t.address)
  found-whole = lifted-whole (children (tiling_of m)) (whole f) t.address own_fits tile_of.0

  pub found-stands : FoundTileLaw (points_of m.order)
      → StandsInFrame (points_of m.order) (rule_of m) (whole f) (lifted_in (whole f) t.address) t.motion
  found-stands found_tile = (found_tile (rule_of m) (whole f) level p t below settled.usable.numbered.child_exists own_fits within found).1

  -- where its polygon holds the point, the frame does, and no other tile of the frame
  module _ (found_tile : FoundTileLaw (points_of m.order))
      (holds : member (points_of m.order).real (tile_polygon (points_of m.order) (rule_of m) (λ z. z) t)
      (test_point (points_of m.order).real.ops (plane_point (points_of m.order) p)) ≡ true) where
    exists : top_kind (whole f) < length (rule_of m).kinds
    exists = top-exists (rule_of m) (whole f) own_fits

    pub frame_too : FrameHolds (tiling_of m) f p
    frame_too =
        supertile_too (points_of m.order) W (rule_of m) (law (its_rule m settled)) p (top_kind (whole f))
        (length f.digits) (frame_motion (tiling_of m) f) exists
        (record { address = lifted_in (whole f) t.address; motion = t.motion }) (found-stands found_tile).among holds

    pub only_holder : IsOnlyHolder (tiling_of m) f p (record { address = lifted_in (whole f) t.address; motion = t.motion })
    only_holder = record {
      here = record { among = (found-stands found_tile).among; holds = holds };
      only = λ y h. only_one (points_of m.order) W (rule_of m) (law (its_rule m settled))
          settled.usable.numbered.child_exists p (top_kind (whole f)) (length f.digits)
          (frame_motion (tiling_of m) f) exists
          frame_too (record { address = lifted_in (whole f) t.address; motion = t.motion }) y (found-stands found_tile).among holds h.among h.holds;
    }
