-- The window that is made of a centre and half extents, which fits where the request's values do.
use Rattle.std.proofs.Common.{◌≡◌, ◌*◌, ◌^◌, ℕ, List, Ok, ap, subst, lit≤}
use Rattle.builtin_rules.specs.declared.name.Name.{Name}
use Rattle.call_words.specs.declared.window_words.HalfExtents.{HalfExtents}
use Rattle.call_words.specs.Request.{WindowAsked}
use Rattle.call_words.specs.Request.{request_in}
use Rattle.call_words.specs.Request.Request.{Verify}
use Rattle.call_words.proofs.Within.{window-asked}
use Rattle.cyclo_points.specs.declared.order.Order.{Order}
use Rattle.cyclo_points.specs.declared.order.Order.TheVariants.{Four, Six, Eight, Ten}
use Rattle.cyclo_points.specs.declared.point.Point.{Point}
use Rattle.cyclo_points.specs.Point.{IsWithin, quad_of}
use Rattle.cyclo_points.proofs.CoordinateReadings.{reduced_four, reduced_six, pair_six-triples, reduced_eight, reduced_ten}
use Rattle.cyclo_points.proofs.Sizes.{double_difference}
use Rattle.cyclo_points.proofs.Within.{within_wider, zero_within, point_wider}
use Rattle.plane_geom.specs.declared.window.Window.{Window}
use Rattle.window_cover.specs.Windows.{IsWindow}
use Rattle.tile_app.specs.DrawnTile.{point_of_number}
use Rattle.tile_app.specs.Windows.{reduced, window_asked}

pub window_made : (half : HalfExtents) {p q : Point} → p ≡ q
    → (let v : Window = record { centre = p; w = half.w; h = half.h } in v) ≡ record
    { centre = q; w = half.w; h = half.h }
window_made half e = ap (λ c. (let v : Window = record { centre = c; w = half.w; h = half.h } in v)) e

-- ---- a centre is small, also where orders four and six reduce it
reduced-within : (o : Order) (p : Point) → IsWithin (2 ^ 20) p → IsWithin (2 ^ 22) (reduced o p)
reduced-within Four p h = subst (λ z. IsWithin (2 ^ 22) (point_of_number Four z)) (reduced_four (quad_of p)) (record {
  at_0 = within_wider (2 * 2 ^ 20) (2 ^ 22) _ (lit≤ tt) (double_difference (2 ^ 20) _ _ h.at_0 h.at_2);
  at_1 = within_wider (2 * 2 ^ 20) (2 ^ 22) _ (lit≤ tt) (double_difference (2 ^ 20) _ _ h.at_1 h.at_3);
  at_2 = zero_within (2 ^ 22);
  at_3 = zero_within (2 ^ 22);
})
reduced-within Six p h =
    let pair = pair_six-triples (2 ^ 20) p h in
    subst (λ z. IsWithin (2 ^ 22) (point_of_number Six z)) (reduced_six (quad_of p)) (record {
      at_0 = within_wider (3 * 2 ^ 20) (2 ^ 22) _ (lit≤ tt) pair.at_0;
      at_1 = within_wider (3 * 2 ^ 20) (2 ^ 22) _ (lit≤ tt) pair.at_1;
      at_2 = zero_within (2 ^ 22);
      at_3 = zero_within (2 ^ 22);
    })
reduced-within Eight p h = subst (λ z. IsWithin (2 ^ 22) (point_of_number Eight z)) (reduced_eight (quad_of p)) (whole p h)
  where
    whole : (p : Point) → IsWithin (2 ^ 20) p → IsWithin (2 ^ 22) (point_of_number Eight (quad_of p))
    whole p h = let k = point_wider (2 ^ 20) (2 ^ 22) p (lit≤ tt) h in record { at_0 = k.at_0; at_1 = k.at_1; at_2 = k.at_2; at_3 = k.at_3 }
reduced-within Ten p h = subst (λ z. IsWithin (2 ^ 22) (point_of_number Ten z)) (reduced_ten (quad_of p)) (whole p h)
  where
    whole : (p : Point) → IsWithin (2 ^ 20) p → IsWithin (2 ^ 22) (point_of_number Ten (quad_of p))
    whole p h = let k = point_wider (2 ^ 20) (2 ^ 22) p (lit≤ tt) h in record { at_0 = k.at_0; at_1 = k.at_1; at_2 = k.at_2; at_3 = k.at_3 }

-- the window of `verify`
pub window-fits : (o : Order) (words : List (List ℕ)) (name : Name) (addr : List ℕ) (seed : ℕ)
    (window : WindowAsked) → request_in words ≡ Ok (Verify name addr seed window)
    → IsWindow (window_asked o window)
window-fits o words name addr seed window e =
    let fit = window-asked name addr seed window words e in
    record {
      some_width = fit.half.some_width;
      some_height = fit.half.some_height;
      width_fits = fit.half.width_fits;
      height_fits = fit.half.height_fits;
      centre_within = reduced-within o window.at fit.centre;
    }
