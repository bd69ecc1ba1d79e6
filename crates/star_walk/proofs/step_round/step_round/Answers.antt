use Rattle.std.proofs.Common.{◌≡◌, ◌<◌, refl, sym, ap, ◌∙◌, subst}
use Rattle.rule_model.specs.Tiling.{tiling_of}
use Rattle.tile_place.proofs.KindEdges.{edges_counted}
use Rattle.tile_shape.specs.Views.{address_of}
use Rattle.theory_walks.specs.Boundary.{IsBoundaryEdge}
use Rattle.theory_walks.specs.Frames.{lifted_at}
use Rattle.theory_walks.proofs.Outcomes.{if_err-is}
use Rattle.lazy_walk.specs.Crossed.{IsCrossedTo, IsLimitAt}
use Rattle.theory_stars.specs.Corners.{edge_into}
use Rattle.star_walk.specs.Found.{its_edge}
use Rattle.star_walk.proofs.step_round.step_round.Given.{Over}
use Rattle.star_walk.proofs.step_round.step_round.Goals.{After-edge_before-edge}
use Rattle.star_walk.proofs.step_round.step_round.Goals as goal

pub edge_before-edge-requires : goal.edge_before-edge-requires
edge_before-edge-requires g c =
    let vertex = c.args.corner.now.vertex in
    let count = edges_counted c.tables.result.now c.checked.result.now c.args.machine.now
    c.args.corner.now.tile.addr.kind c.edges-edges.result c.tables.ensures.contacts c.checked.ensures.rule
    c.edges-edges.ensures.count in
    record { below = subst (λ n. vertex < n) (sym count) c.requires.vertex_exists }

pub step_grow-requires-clause-edge_exists : goal.step_grow-requires-clause-edge_exists
step_grow-requires-clause-edge_exists g c =
    let edge = c.edge_before-edge.result in
    subst (λ n. edge < n)
    (edges_counted c.tables.result.now c.checked.result.now c.args.machine.now
    c.args.corner.now.tile.addr.kind c.edges-edges.result c.tables.ensures.contacts c.checked.ensures.rule
    c.edges-edges.ensures.count)
    c.edge_before-edge.ensures.exists

-- the edge that is crossed
number : (g : Over) (c : After-edge_before-edge g) → c.edge_before-edge.result ≡ its_edge (tiling_of c.args.machine.now) c.args.corner.now
number g c =
    c.edge_before-edge.ensures.number
    ∙ ap (λ k. edge_into k c.args.corner.now.vertex)
    (edges_counted c.tables.result.now c.checked.result.now c.args.machine.now
    c.args.corner.now.tile.addr.kind c.edges-edges.result c.tables.ensures.contacts c.checked.ensures.rule
    c.edges-edges.ensures.count)

pub returns-in_err-corner-clause-limit_exactly : goal.returns-in_err-corner-clause-limit_exactly
returns-in_err-corner-clause-limit_exactly g c =
    let t = tiling_of c.args.machine.now in
    let a = lifted_at t c.args.frame.now (address_of c.args.corner.now.tile.addr) 64 in (
      λ h. subst (IsBoundaryEdge t a) (number g
          ((goal.at.returns-in_err-corner-clause-limit_exactly g c).After-edge_before-edge))
          (c.in_err-corner.ensures.limit_exactly.0 refl),
      λ k. c.from_residual.ensures.0,
    )

pub returns-in_err-corner-clause-limit : goal.returns-in_err-corner-clause-limit
returns-in_err-corner-clause-limit g c =
    if_err-is _ c.from_residual.result c.in_err-corner.field-0.0 c.from_residual.ensures.1
    (subst (λ e. IsLimitAt (tiling_of c.args.machine.now) c.args.frame.now c.step_grow.new.self
    (address_of c.args.corner.now.tile.addr) e c.in_err-corner.field-0.0)
    (number g ((goal.at.returns-in_err-corner-clause-limit g c).After-edge_before-edge)) c.in_err-corner.ensures.limit)

pub returns-clause-crossed : goal.returns-clause-crossed
returns-clause-crossed g c =
    let k = c.args.corner.now.tile in
    subst (λ e. IsCrossedTo (tiling_of c.args.machine.now) c.args.frame.now c.step_grow.new.self (address_of k.addr) k.motion e
    c.step_grow.new.tile c.in_ok-corner.field-0)
    (number g ((goal.at.returns-clause-crossed g c).After-edge_before-edge)) c.in_ok-corner.ensures.crossed

pub returns-clause-limit_exactly : goal.returns-clause-limit_exactly
returns-clause-limit_exactly g c =
    let t = tiling_of c.args.machine.now in
    let a = lifted_at t c.args.frame.now (address_of c.args.corner.now.tile.addr) 64 in
    let e = number g ((goal.at.returns-clause-limit_exactly g c).After-edge_before-edge) in (
      λ h. subst (IsBoundaryEdge t a) e (c.in_ok-corner.ensures.limit_exactly.0 h),
      λ k.
          c.in_ok-corner.ensures.limit_exactly.1 (subst (IsBoundaryEdge t a) (sym e) k),
    )
