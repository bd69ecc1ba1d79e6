use Rattle.std.proofs.Common.{◌≡◌, ◌↔◌, ℕ, suc, Bool, cond, nat_lt, ◌<◌, List, length, get_or, IsTrue, ap, ◌∙◌, subst}
use Rattle.cyclo_points.specs.declared.order.Order.{Order}
use Rattle.cyclo_points.specs.declared.point.Point.{Point}
use Rattle.cyclo_points.specs.Order.{points_of}
use Rattle.cyclo_points.specs.Point.{point_in}
use Rattle.theory_plane.specs.Box.{EdgeMeetsBox}
use Rattle.plane_geom.specs.declared.window.Window.{Window}
use Rattle.rule_model.specs.declared.rule.Rule.{Rule}
use Rattle.rule_model.specs.Usable.{origin}
use Rattle.theory_substitution.specs.Plane.{plane_point}
use Rattle.theory_windows.specs.Outlines.{MeetsBox}
use Rattle.window_cover.specs.Windows.{window_box}
use Rattle.list_verify.specs.FoundLines.{line_between}
use Rattle.list_verify.proofs.Chains.{get_or-default}
use Rattle.list_verify.proofs.window_edges.edge_meets.Goals as goal

same-test : (o : Order) (w : Window) (corners : List Point) (e n : ℕ) (b : Bool) (c d : Point)
    → e < length corners → n < length corners → n ≡ cond (nat_lt (suc e) (length corners)) (suc e) 0
    → IsTrue b ↔ EdgeMeetsBox (points_of o).real (plane_point (points_of o) (point_in o (get_or corners e c)))
    (plane_point (points_of o) (point_in o (get_or corners n d))) (window_box o w)
    → IsTrue b ↔ MeetsBox (points_of o).real (window_box o w) (line_between o corners e)
same-test o w corners e n b c d he hn next h =
    subst (λ (p : Point). IsTrue b ↔ EdgeMeetsBox (points_of o).real
    (plane_point (points_of o) (point_in o p))
    (plane_point (points_of o) (point_in o (get_or corners
    (cond (nat_lt (suc e) (length corners)) (suc e) 0) origin))) (window_box o w))
    (get_or-default corners e c origin he)
    (subst (λ (p : Point). IsTrue b ↔ EdgeMeetsBox (points_of o).real
    (plane_point (points_of o) (point_in o (get_or corners e c)))
    (plane_point (points_of o) (point_in o p)) (window_box o w))
    (get_or-default corners n d origin hn ∙ ap (λ k. get_or corners k origin) next) h)

pub returns : goal.returns
returns c = subst (λ o. IsTrue c.edge_meets_box.result ↔ MeetsBox (points_of o).real (window_box o c.args.window.now)
    (line_between o c.args.corners.now c.args.edge))
    (c.order-order.ensures.order ∙ ap (λ (r : Rule). r.order) c.checked.ensures.rule)
    (same-test c.order-order.result c.args.window.now c.args.corners.now c.args.edge c.next_of-next.result
    c.edge_meets_box.result _ _ c.requires.exists c.next_of-next.ensures.below c.next_of-next.ensures.next
    c.edge_meets_box.ensures.exact)
