-- Points of an order are one where their four coefficients are equal one by one.
use Rattle.std.specs.Ordering.{int_eq}
use Rattle.std.specs.Cmp.Lexicographic.{pointwise}
use Rattle.std.proofs.Common.{◌≡◌, Bool, true, false, ◌&&◌, length, refl, ap₂, ◌∙◌}
use Rattle.cyclo_points.specs.declared.order.Order.{Order}
use Rattle.cyclo_points.specs.declared.order.Order.TheVariants.{Four, Six, Eight, Ten}
use Rattle.cyclo_points.specs.declared.point.Point.{Point}
use Rattle.cyclo_points.specs.Order.{points_of}
use Rattle.cyclo_points.specs.Point.{coefficient, point_in, IsOf}
use Rattle.cyclo_points.proofs.Coefficients.{one_by_one}

last_true : (a b : Bool) → a && b && true && true ≡ a && b
last_true false b = refl
last_true true false = refl
last_true true true = refl

-- then they are one point of the order
pub same-points : (o : Order) (p q : Point) → length p.c ≡ 4 → length q.c ≡ 4 → IsOf o p → IsOf o q
    → pointwise int_eq p.c q.c ≡ (points_of o).same (point_in o p) (point_in o q)
same-points Four p q l m f g =
    let a = int_eq (coefficient p 0) (coefficient q 0) in
    let b = int_eq (coefficient p 1) (coefficient q 1) in
    one_by_one p q l m
    ∙ ap₂ (λ x y. a && b && x && y) (ap₂ int_eq f.0 g.0) (ap₂ int_eq f.1 g.1)
    ∙ last_true a b
same-points Six p q l m f g =
    let a = int_eq (coefficient p 0) (coefficient q 0) in
    let b = int_eq (coefficient p 1) (coefficient q 1) in
    one_by_one p q l m
    ∙ ap₂ (λ x y. a && b && x && y) (ap₂ int_eq f.0 g.0) (ap₂ int_eq f.1 g.1)
    ∙ last_true a b
same-points Eight p q l m f g = one_by_one p q l m
same-points Ten p q l m f g = one_by_one p q l m
