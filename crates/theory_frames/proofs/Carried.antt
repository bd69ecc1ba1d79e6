-- The laws of frames, proved over the points of an order.
use Rattle.std.proofs.Common.{◌≡◌, ℕ, ◌<◌, Bool, true, false, cond, Option, None, Some, refl, sym, subst, arith}
use Rattle.theory_addresses.specs.Address.{Address, depth, top_kind}
use Rattle.theory_substitution.specs.Points.{Points, PointLaws}
use Rattle.theory_substitution.specs.Motion.{Motion}
use Rattle.theory_substitution.specs.Rule.{Rule, child_kinds}
use Rattle.theory_substitution.specs.Supertile.{Placed}
use Rattle.theory_substitution.specs.Placement.{placement}
use Rattle.theory_frames.specs.Frame.{at_level, StandsInFrame, IsTileOf, lifted_in}
use Rattle.theory_frames.specs.Outward.{HasTurnsBelow}
use Rattle.theory_frames.specs.Outline.{supertile_holds}
use Rattle.theory_frames.specs.Descent.{tile_holding}
use Rattle.theory_frames.specs.Contain.{ancestor_motion}
use Rattle.theory_frames.specs.Laws.{CoarseEndLaw, AncestorLaw, FoundTileLaw}
use Rattle.theory_frames.proofs.Group.{back-turn}
use Rattle.theory_frames.proofs.Frames.{lifted-stands}
use Rattle.theory_frames.proofs.Outwards.{outward-back}
use Rattle.theory_frames.proofs.Located.{IsMoved, tile_below-moved}
use Rattle.theory_frames.proofs.Contained.{found-stands, found-tile_of}
use Rattle.cyclo_points.specs.declared.order.Order.{Order}
use Rattle.cyclo_points.specs.declared.order.Order.TheVariants.{Four, Six, Eight, Ten}
use Rattle.cyclo_points.specs.Order.{points_of}

pub some_turn : (o : Order) → 0 < (points_of o).order
some_turn Four = omega arith
some_turn Six = omega arith
some_turn Eight = omega arith
some_turn Ten = omega arith

pub held : {A : Type 0} (b : Bool) (x : Option A) (t : A) → cond b x None ≡ Some t → (b ≡ true) × (x ≡ Some t)
held true x t e = (refl, e)
held false x t e = absurd (cc e)

module _ (P : Points) (W : PointLaws P) (some : 0 < P.order) where
  pub coarse_end_law : CoarseEndLaw P
  coarse_end_law = lifted-stands P W some

  pub ancestor_law : AncestorLaw P
  ancestor_law r digits below = outward-back P W some r below digits

  -- the tile that a search in an ancestor ends at is a tile of that ancestor, moved as it is
  pub ancestor-moved : (r : Rule P.ring.carrier) (f : Address) (level : ℕ) (p : P.ring.carrier) (t : Placed P.ring.carrier) → HasTurnsBelow P r
      → tile_holding P r (top_kind (at_level f level)) level (ancestor_motion P r f level) p ≡ Some t
      → IsMoved P W r (top_kind (at_level f level)) level (ancestor_motion P r f level) t
  ancestor-moved r f level p t below e =
      tile_below-moved P W r (top_kind (at_level f level)) level (ancestor_motion P r f level) p t turn
      (held (supertile_holds P r (top_kind (at_level f level)) level (ancestor_motion P r f level) p) _ t e).1
    where
      turn : (ancestor_motion P r f level).turn < P.order
      turn = subst (λ (g : Motion P.ring.carrier). g.turn < P.order)
          (sym (outward-back P W some r below (at_level f level).digits))
          (back-turn P W (placement P r (at_level f level).digits) some)

  pub found_tile_law : FoundTileLaw P
  found_tile_law r f level p t below exist fits within e = (own, lifted)
    where
      moved : IsMoved P W r (top_kind (at_level f level)) level (ancestor_motion P r f level) t
      moved = ancestor-moved r f level p t below e

      own : StandsInFrame P r (at_level f level) t.address t.motion
      own = found-stands P W some r below f level within t moved

      tile : IsTileOf (child_kinds r) f t.address × (depth t.address ≡ level)
      tile = found-tile_of P W some r below f level within t moved exist fits

      lifted : StandsInFrame P r f (lifted_in f t.address) t.motion
      lifted = lifted-stands P W some r f t.address t.motion fits tile.0
          (subst (λ (n : ℕ). StandsInFrame P r (at_level f n) t.address t.motion) (sym tile.1) own)
