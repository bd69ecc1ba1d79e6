-- Tiles in their places in a frame.
use Rattle.std.proofs.Common.{◌≡◌, ℕ, refl, sym, ap, ◌∙◌, subst}
use Rattle.theory_addresses.specs.Address.{Address, Fits}
use Rattle.theory_addresses.specs.Across.{IsAcross}
use Rattle.theory_substitution.specs.Motion.{followed, still}
use Rattle.theory_substitution.specs.Placement.{placement}
use Rattle.cyclo_points.specs.Order.{PointsLaw, points_of}
use Rattle.theory_frames.specs.Back.{back}
use Rattle.theory_frames.specs.Frame.{StandsInFrame, motion_beside}
use Rattle.theory_frames.proofs.Carried.{some_turn}
use Rattle.theory_frames.proofs.Frames.{IsWhole, placement-turn, StandsInFrame-whole}
use Rattle.theory_frames.proofs.Group.{followed-assoc, followed-back}
use Rattle.rule_model.specs.Tiling.{Tiling, MotionOf, contacts, children}
use Rattle.tile_place.specs.Glued.{LiesBeyond}
use Rattle.theory_walks.proofs.Lifting.{touching-top}

-- the tile across names one of the same supertile
pub across-is_whole : (t : Tiling) (f a b : Address) (e back : ℕ) → IsWhole (children t) f a
    → IsAcross (contacts t) a e b back → Fits (children t) b → IsWhole (children t) f b
across-is_whole t f a b e back own x fits = record {
  fits = fits;
  same_depth = x.same_depth ∙ own.same_depth;
  same_top = sym (touching-top (contacts t) a b e back x.only.touched) ∙ own.same_top;
}

module _ (t : Tiling) (W : PointsLaw t.order) (f : Address) where
  -- the base stands still
  pub stands-base : (m : MotionOf t) → Fits (children t) f → m ≡ still (points_of t.order) → StandsInFrame (points_of t.order) t.rule f f m
  stands-base m fits same =
      subst (StandsInFrame (points_of t.order) t.rule f f)
      (followed-back (points_of t.order) W (placement (points_of t.order) t.rule f.digits)
      (placement-turn (points_of t.order) W (some_turn t.order) t.rule f.digits) ∙ sym same)
      (StandsInFrame-whole (points_of t.order) W (some_turn t.order) t.rule f f (record { fits = fits; same_depth = refl; same_top = refl }))

  -- the tile across stands by the motion that glues it, followed by that of the tile before
  pub stands-across : (a b : Address) (m glue : MotionOf t) → IsWhole (children t) f a
      → IsWhole (children t) f b → StandsInFrame (points_of t.order) t.rule f a m → LiesBeyond t a glue b
      → StandsInFrame (points_of t.order) t.rule f b (followed (points_of t.order) glue m)
  stands-across a b m glue own across stands beyond =
      subst (StandsInFrame (points_of t.order) t.rule f b)
      (ap (λ g. followed (points_of t.order) g (back (points_of t.order) (placement (points_of t.order) t.rule f.digits))) beyond
      ∙ followed-assoc (points_of t.order) W glue (placement (points_of t.order) t.rule a.digits)
      (back (points_of t.order) (placement (points_of t.order) t.rule f.digits))
      ∙ ap (followed (points_of t.order) glue) (stands.alone (motion_beside (points_of t.order) t.rule f.digits a.digits) beside.among))
      (StandsInFrame-whole (points_of t.order) W (some_turn t.order) t.rule f b across)
    where
      beside : StandsInFrame (points_of t.order) t.rule f a (motion_beside (points_of t.order) t.rule f.digits a.digits)
      beside = StandsInFrame-whole (points_of t.order) W (some_turn t.order) t.rule f a own
