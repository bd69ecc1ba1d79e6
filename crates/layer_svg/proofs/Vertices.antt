-- A vertex from its two numbers.
use Rattle.std.proofs.Common.{◌≡◌, ℕ, ℤ, List, ◌∷◌, ◌++◌, ap, ◌∙◌, append_assoc}
use Rattle.std.specs.Fmt.{signed_decimal}
use Rattle.theory_ring.specs.Ring.{difference}
use Rattle.cyclo_points.specs.declared.point.Point.{Point}
use Rattle.cyclo_points.specs.Order.{points_of}
use Rattle.cyclo_points.specs.Point.{point_in}
use Rattle.cyclo_points.specs.Thousandths.{thousandths}
use Rattle.layer_api.specs.declared.view.View.{View}
use Rattle.layer_api.specs.SvgText.{vertex_text}

joined : (old a b new x y : List ℕ) → a ≡ y ++ old → b ≡ 32 ∷ a → new ≡ x ++ b → new ≡ (x ++ 32 ∷ y) ++ old
joined old a b new x y e f g =
    let all : new ≡ x ++ 32 ∷ (y ++ old) = cc in
    all ∙ simp append_assoc

pub vertex_from : (v : View) (p : Point) (up across : ℤ) (old a b new : List ℕ)
    → up ≡ thousandths v.order ((points_of v.order).y (difference (points_of v.order).ring (point_in v.order p) (point_in v.order v.centre)))
    → across ≡ thousandths v.order ((points_of v.order).x (difference (points_of v.order).ring (point_in v.order p) (point_in v.order v.centre)))
    → a ≡ signed_decimal up ++ old → b ≡ 32 ∷ a → new ≡ signed_decimal across ++ b → new ≡ vertex_text v p ++ old
vertex_from v p up across old a b new is_up is_across e f g =
    joined old a b new _ _ (e ∙ ap (λ z. signed_decimal z ++ old) is_up) f (g ∙ ap (λ z. signed_decimal z ++ b) is_across)
