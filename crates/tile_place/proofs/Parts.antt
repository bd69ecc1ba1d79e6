-- A child of a part, as the program finds it.
use Rattle.std.proofs.Common.{◌≡◌, ℕ, Bool, true, false, cond, List, ◌∷◌, map, find, Some, sym, ap, ◌∙◌, subst}
use Rattle.std.proofs.lemmas.Simd.{map-map}
use Rattle.theory_plane.specs.Crossing.{member}
use Rattle.theory_substitution.specs.Plane.{plane_point}
use Rattle.theory_substitution.specs.Motion.{Motion as MotionOf, followed}
use Rattle.theory_substitution.specs.RuleParts.{child_of}
use Rattle.theory_frames.specs.Outline.{outline, holds_point}
use Rattle.theory_frames.specs.Part as theory
use Rattle.cyclo_points.specs.declared.order.Order.{Order}
use Rattle.cyclo_points.specs.declared.point.Point.{Point}
use Rattle.cyclo_points.specs.declared.motion.Motion.{Motion}
use Rattle.cyclo_points.specs.Order.{NumberOf, points_of}
use Rattle.cyclo_points.specs.Point.{point_in}
use Rattle.plane_geom.specs.Spots.{reals_of, spots_of, test_of}
use Rattle.cyclo_points.specs.Motion.{motion_in}
use Rattle.rule_model.specs.declared.rule.Rule.{Rule}
use Rattle.rule_model.specs.declared.child.Child.{Child}
use Rattle.rule_model.specs.Views.{rule_of, child_in}
use Rattle.theory_frames.specs.Part.{child_part}
use Rattle.tile_place.specs.Parts.{part_in}

module _ (o : Order) (r m : Rule) (eo : o ≡ r.order) (er : r ≡ m) (child : Child) (scale : Point)
    (at : Motion) (product : Point) (moved : Motion) (kind number : ℕ) where
  in_its_order : child_in r.order child ≡ child_of (points_of r.order) (rule_of r) kind number
      → point_in r.order product ≡ (points_of r.order).ring.mul (point_in r.order scale) (point_in r.order child.shift)
      → motion_in r.order moved ≡ followed (points_of r.order)
      (motion_in r.order (record { turn = child.turn; shift = product })) (motion_in r.order at)
      → part_in r.order (record { child = number; kind = child.kind; motion = moved })
      ≡ child_part (points_of r.order) (rule_of r) (point_in r.order scale) (motion_in r.order at) number
      (child_of (points_of r.order) (rule_of r) kind number)
  in_its_order same times moves =
      ap (λ (g : MotionOf (NumberOf r.order)). record { child = number; kind = child.kind; motion = g })
      (moves ∙ ap (λ z. followed (points_of r.order) (record { turn = child.turn; shift = z }) (motion_in r.order at)) times)
      ∙ ap (child_part (points_of r.order) (rule_of r) (point_in r.order scale) (motion_in r.order at) number) same

  -- the part found is the child's
  pub part_is : child_in r.order child ≡ child_of (points_of r.order) (rule_of r) kind number
      → point_in o product ≡ (points_of o).ring.mul (point_in o scale) (point_in o child.shift)
      → motion_in o moved ≡ followed (points_of o) (motion_in o (record { turn = child.turn; shift = product })) (motion_in o at)
      → part_in m.order (record { child = number; kind = child.kind; motion = moved })
      ≡ child_part (points_of m.order) (rule_of m) (point_in m.order scale) (motion_in m.order at) number
      (child_of (points_of m.order) (rule_of m) kind number)
  part_is same times moves =
      subst (λ (m : Rule). part_in m.order (record { child = number; kind = child.kind; motion = moved })
      ≡ child_part (points_of m.order) (rule_of m) (point_in m.order scale) (motion_in m.order at) number
      (child_of (points_of m.order) (rule_of m) kind number)) er
      (in_its_order same
      (subst (λ q. point_in q product ≡ (points_of q).ring.mul (point_in q scale) (point_in q child.shift)) eo times)
      (subst (λ q. motion_in q moved ≡ followed (points_of q)
      (motion_in q (record { turn = child.turn; shift = product })) (motion_in q at)) eo moves))

-- the values of the part found are the child's
abbrev pub values_of_part : (m : Rule) → Point → theory.Part (NumberOf m.order) → List (NumberOf m.order)
values_of_part m scale p = p.motion.shift ∷ outline (points_of m.order) (rule_of m) p.kind (point_in m.order scale) p.motion

-- whether the polygon of the corners found holds the point
pub holds_is : (o q : Order) (e : o ≡ q) (corners read : List Point) (vertices : List (NumberOf q)) (p : Point) (b : Bool)
    → read ≡ corners → map (point_in q) corners ≡ vertices
    → b ≡ member (reals_of o) (spots_of o read) (test_of o p)
    → b ≡ holds_point (points_of q) vertices (point_in q p)
holds_is o q e corners read vertices p b same seen h =
    subst (λ x. b ≡ member (reals_of x) (spots_of x read) (test_of x p)) e h
    ∙ ap (λ vs. member (reals_of q) vs (test_of q p))
    (ap (spots_of q) same ∙ sym (map-map (plane_point (points_of q)) (point_in q) corners)
    ∙ ap (map (plane_point (points_of q))) seen)

-- the first refused value of a part
module _ {A : Type 0} (test : A → Bool) (x : A) (xs : List A) where
  pub first_is : test x ≡ true → find test (x ∷ xs) ≡ Some x
  first_is e = ap (λ b. cond b (Some x) (find test xs)) e

  pub first_not : test x ≡ false → find test (x ∷ xs) ≡ find test xs
  first_not e = ap (λ b. cond b (Some x) (find test xs)) e
