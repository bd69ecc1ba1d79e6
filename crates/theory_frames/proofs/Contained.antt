-- The tile found in an ancestor has, in the base's frame, the motion that the search gives it.
use Rattle.std.proofs.Common.{◌≡◌, Some, ℕ, ◌<◌, ◌≤◌, length, refl, sym, ap, ap₂, ◌∙◌, subst, arith}
use Rattle.theory_substitution.specs.Points.{Points, PointLaws}
use Rattle.theory_substitution.specs.Motion.{followed}
use Rattle.theory_addresses.specs.Address.{Address, depth, top_kind, kind_at, Fits}
use Rattle.theory_substitution.specs.Rule.{Rule, child_kinds}
use Rattle.theory_addresses.specs.Search.{IsAmong}
use Rattle.theory_substitution.specs.Supertile.{Placed, supertile}
use Rattle.theory_substitution.specs.Placement.{placement}
use Rattle.theory_addresses.proofs.Lists.{IsAmong-map, AllByRecursion-among}
use Rattle.theory_substitution.proofs.Placement.{IsPlaced, supertile-placed}
use Rattle.theory_frames.specs.Back.{back}
use Rattle.theory_frames.specs.Frame.{at_level, HasChildKinds, IsTileOf, motion_beside, frame_tiles, StandsInFrame, lifted_in}
use Rattle.theory_frames.specs.Outward.{HasTurnsBelow}
use Rattle.theory_frames.specs.Contain.{ancestor_motion}
use Rattle.theory_frames.proofs.Fitting.{IsFitting, supertile-fits}
use Rattle.theory_frames.proofs.Frames.{at_level-depth, at_level-fits, top-exists, kind_at-top, kind_at-level, lifted-moves_none, frame-placed}
use Rattle.theory_frames.proofs.Outwards.{outward-back}
use Rattle.theory_frames.proofs.Located.{IsMoved, IsMoved-depth}

module _ (P : Points) (W : PointLaws P) (some : 0 < P.order) (r : Rule P.ring.carrier)
    (below : HasTurnsBelow P r) (f : Address) (level : ℕ) (within : level ≤ depth f)
    (t : Placed P.ring.carrier)
    (h : IsMoved P W r (top_kind (at_level f level)) level (ancestor_motion P r f level) t) where
  own_motion : h.own ≡ placement P r t.address.digits
  own_motion = (AllByRecursion-among (IsPlaced P W r level) (record { address = t.address; motion = h.own })
      (supertile P r (top_kind (at_level f level)) level) h.among
      (supertile-placed P W r (top_kind (at_level f level)) level)).motion_is

  -- its motion is that of the ancestor's frame
  pub found-motion : t.motion ≡ motion_beside P r (at_level f level).digits t.address.digits
  found-motion = h.moved ∙ ap₂ (followed P) own_motion (outward-back P W some r below (at_level f level).digits)

  -- it stands there among the tiles of that frame, and alone beside its address
  pub found-stands : StandsInFrame P r (at_level f level) t.address t.motion
  found-stands = record {
    among = subst (λ m. IsAmong (record { address = t.address; motion = m }) (frame_tiles P r (at_level f level))) (sym h.moved ∙ refl)
        (subst (λ m. IsAmong (record { address = t.address; motion = followed P h.own m })
        (frame_tiles P r (at_level f level))) (sym
        (outward-back P W some r below (at_level f level).digits))
        (IsAmong-map (λ (x : Placed P.ring.carrier). record {
          address = x.address;
          motion = followed P x.motion
              (back P (placement P r (at_level f level).digits));
        })
        (record { address = t.address; motion = h.own }) (supertile P r (top_kind (at_level f level)) (depth (at_level f level)))
        (subst (λ n. IsAmong (record { address = t.address; motion = h.own })
        (supertile P r (top_kind (at_level f level)) n)) (sym (at_level-depth f level within)) h.among)));
    alone = λ g i. AllByRecursion-among (λ x. x.motion ≡ motion_beside P r (at_level f level).digits
        x.address.digits) (record { address = t.address; motion = g }) (frame_tiles P r (at_level f level)) i
        (frame-placed P W some r (at_level f level)) ∙ sym found-motion;
  }

  -- and lifted to the whole frame it has the same motion
  pub found-lifted : t.motion ≡ motion_beside P r f.digits (lifted_in f t.address).digits
  found-lifted =
      found-motion ∙ ap (λ n. motion_beside P r (at_level f n).digits t.address.digits) (sym deep)
      ∙ sym (lifted-moves_none P W some r f t.address (omega (arith, deep, within)))
    where
      deep : depth t.address ≡ level
      deep = IsMoved-depth P W r (top_kind (at_level f level)) level (ancestor_motion P r f level) t h

  -- and it is a tile of the frame
  pub found-tile_of : HasChildKinds P r → Fits (child_kinds r) f → IsTileOf (child_kinds r) f t.address × (depth t.address ≡ level)
  found-tile_of exist fits = (
    record {
      fits = own.fits;
      no_deeper = omega (arith, deep, within);
      same_kind = subst (λ (n : ℕ). kind_at t.address n ≡ kind_at f n) (sym deep) at_its_level;
    },
    deep,
  )
    where
      deep : depth t.address ≡ level
      deep = IsMoved-depth P W r (top_kind (at_level f level)) level (ancestor_motion P r f level) t h

      top_exists : top_kind (at_level f level) < length r.kinds
      top_exists = top-exists r (at_level f level) (at_level-fits f level within (child_kinds r) fits).0

      own : IsFitting P r exist (top_kind (at_level f level)) t.address
      own = AllByRecursion-among (λ (x : Placed P.ring.carrier). IsFitting P r exist
          (top_kind (at_level f level)) x.address) (record { address = t.address; motion = h.own })
          (supertile P r (top_kind (at_level f level)) level) h.among
          (supertile-fits P r exist (top_kind (at_level f level)) level top_exists)

      at_its_level : kind_at t.address level ≡ kind_at f level
      at_its_level =
          ap (kind_at t.address) (sym deep) ∙ kind_at-top t.address.kind t.address.digits ∙ ap Some own.top ∙ sym (kind_at-level f level within)
