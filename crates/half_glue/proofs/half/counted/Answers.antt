use Rattle.std.proofs.Common.{◌<◌, ◌∙◌, refl, sym, subst}
use Rattle.theory_addresses.specs.Address.{Address}
use Rattle.theory_frames.specs.Frame.{IsTileOf}
use Rattle.rule_model.specs.Tiling.{tiling_of, children}
use Rattle.tile_place.specs.Crossed.{edges_of}
use Rattle.tile_shape.specs.Views.{address_of}
use Rattle.theory_walks.specs.Boundary.{IsBoundaryEdge}
use Rattle.theory_walks.specs.Frames.{whole, lifted_at}
use Rattle.lazy_walk.specs.Crossed.{IsCrossedTo, IsLimitAt}
use Rattle.half_glue.proofs.Across.{glue-edge-there}
use Rattle.half_glue.proofs.CrossedHalves.{found-crossed, found-refused, found-limited}
use Rattle.half_glue.proofs.half.counted.Given.{Over}
use Rattle.half_glue.proofs.half.counted.Goals.{In_ok-step_grow}
use Rattle.half_glue.proofs.half.counted.Goals as goal

pub step_grow-requires-clause-tile : goal.step_grow-requires-clause-tile
step_grow-requires-clause-tile g c =
    let given = c.requires.to_join.given in
    record {
      its_kind = given.its_kind ∙ sym c.copy.ensures.kind;
      of_frame = subst (IsTileOf (children (tiling_of c.args.machine.now)) (whole c.args.frame.now)) (sym c.copy.ensures.seen) given.of_frame;
      motion = record { turn_below = given.turn_below; within = given.within; in_order = given.in_order };
    }

pub step_grow-requires-clause-edge_exists : goal.step_grow-requires-clause-edge_exists
step_grow-requires-clause-edge_exists g c =
    subst (λ k. c.args.edge < edges_of (tiling_of c.args.machine.now) k)
    (c.requires.to_join.given.its_kind ∙ sym c.copy.ensures.kind)
    (glue-edge-there c.args.machine.now c.glue_laws.ensures c.args.tile.now.kind c.args.edge
    c.requires.to_join.glue_edge.glue_edge)

-- the tile across
across : (g : Over) (c : In_ok-step_grow g) → IsCrossedTo (tiling_of c.args.machine.now) c.args.frame.now c.step_grow.new.self
    (address_of c.args.tile.now.addr) c.args.tile.now.motion c.args.edge c.step_grow.new.tile c.in_ok-step_grow.field-0
across g c =
    subst (λ (a : Address). IsCrossedTo (tiling_of c.args.machine.now) c.args.frame.now c.step_grow.new.self a c.args.tile.now.motion
    c.args.edge c.step_grow.new.tile c.in_ok-step_grow.field-0) c.copy.ensures.seen c.in_ok-step_grow.ensures.crossed

pub returns : goal.returns
returns g c =
    let h = across g (goal.at.returns g c).In_ok-step_grow in
    found-crossed c.args.machine.now c.glue_laws.ensures c.gluing_law.ensures c.args.frame.now c.args.tile.now c.args.edge
    c.requires.to_join c.step_grow.new.self c.in_ok-step_grow.ensures.frame c.step_grow.new.tile c.in_ok-step_grow.field-0 h
    (sym (c.refused.ensures.in_order c.args.machine.now.order h.in_order) ∙ c.if-refused.false)

pub returns-then-refused : goal.returns-then-refused
returns-then-refused g c =
    let h = across g (goal.at.returns-then-refused g c).In_ok-step_grow in
    found-refused c.args.machine.now c.glue_laws.ensures c.gluing_law.ensures c.args.frame.now c.args.tile.now c.args.edge
    c.requires.to_join c.step_grow.new.self c.in_ok-step_grow.ensures.frame c.step_grow.new.tile c.in_ok-step_grow.field-0 h
    (sym (c.refused.ensures.in_order c.args.machine.now.order h.in_order) ∙ c.if-refused.true)

pub returns-in_err-step_grow : goal.returns-in_err-step_grow
returns-in_err-step_grow g c =
    let t = tiling_of c.args.machine.now in
    let f = c.args.frame.now in
    let limit = c.in_err-step_grow.field-0.0 in
    let seen = c.copy.ensures.seen in
    found-limited c.args.machine.now c.glue_laws.ensures c.gluing_law.ensures f c.args.tile.now c.args.edge c.requires.to_join
    c.step_grow.new.self c.in_err-step_grow.ensures.frame
    (λ n l h. subst (λ (a : Address). IsBoundaryEdge t (lifted_at t f a n) c.args.edge) seen (c.in_err-step_grow.ensures.least n l h))
    limit (subst (λ (a : Address). IsLimitAt t f c.step_grow.new.self a c.args.edge limit) seen c.in_err-step_grow.ensures.limit)
    (subst (λ (a : Address). IsBoundaryEdge t (lifted_at t f a 64) c.args.edge) seen (c.in_err-step_grow.ensures.limit_exactly.0 refl))
    c.from_residual.result c.from_residual.ensures.1
