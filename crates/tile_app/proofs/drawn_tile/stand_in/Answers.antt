use Rattle.std.proofs.Common.{◌≡◌, ◌≤◌, ◌^◌, All, List, [], ◌∷◌, ◌++◌, pos, length, refl, sym, ap, ◌∙◌, subst, arith}
use Rattle.std.proofs.lemmas.List.Elements.{All-from_recursion}
use Rattle.cyclo_points.specs.declared.order.Order.{Order}
use Rattle.cyclo_points.specs.declared.order.Order.TheVariants.{Four, Six, Eight, Ten}
use Rattle.cyclo_points.specs.declared.point.Point.{Point}
use Rattle.cyclo_points.specs.Point.{IsWithin}
use Rattle.cyclo_points.proofs.Within.{zero_within}
use Rattle.layer_api.specs.Drawable.{IsNear}
use Rattle.tile_app.proofs.drawn_tile.stand_in.Goals as goal

abbrev origin : Point
origin = record { c = pos 0 ∷ pos 0 ∷ pos 0 ∷ pos 0 ∷ [] }

small : IsWithin (2 ^ 25) origin
small = record { at_0 = zero_within _; at_1 = zero_within _; at_2 = zero_within _; at_3 = zero_within _ }

near-origin : (o : Order) → IsNear o origin
near-origin Four = record { of_order = (refl, refl); within = small }
near-origin Six = record { of_order = (refl, refl); within = small }
near-origin Eight = record { of_order = tt; within = small }
near-origin Ten = record { of_order = tt; within = small }

pub returns : goal.returns
returns c = λ o.
    let push = λ (xs : List Point). xs ++ origin ∷ [] in
    let three : c.push-3.new.self.items ≡ origin ∷ origin ∷ origin ∷ [] =
    c.push-3.ensures.items ∙ ap push (c.push-2.ensures.items ∙ ap push (c.push.ensures.items ∙ ap push c.new-outline.ensures)) in
    record {
      three = subst (λ (xs : List Point). 3 ≤ length xs) (sym three) (omega arith);
      near = subst (All (IsNear o)) (sym three)
          (All-from_recursion (IsNear o) (origin ∷ origin ∷ origin ∷ []) (near-origin o, (near-origin o, (near-origin o, tt))));
    }
