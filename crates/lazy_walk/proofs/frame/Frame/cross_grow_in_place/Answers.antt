use Rattle.std.proofs.Common.{◌≡◌, ℕ, ◌+◌, ◌<◌, inl, inr, true, false, List, length, refl, sym, ap, ◌∙◌, subst, arith}
use Rattle.std.proofs.lemmas.Grind.{common_steps}
use Rattle.std.proofs.lemmas.Bool.{cases_lt}
use Rattle.theory_addresses.specs.Across.{IsAcross, LiesOn}
use Rattle.theory_addresses.specs.Address.{Fits}
use Rattle.theory_frames.specs.Frame.{lifted_in}
use Rattle.rule_model.specs.declared.rule.Rule.{Rule}
use Rattle.rule_model.specs.Tiling.{tiling_of, contacts, children}
use Rattle.tile_place.specs.Crossed.{IsOnlyAcross, LiesAlong}
use Rattle.tile_place.proofs.Plane.{BoundariesLaw, IsSettled, part_along}
use Rattle.tile_shape.specs.declared.address.Address.{Address}
use Rattle.tile_shape.specs.Usable.{AreUsable}
use Rattle.tile_shape.specs.Views.{address_of}
use Rattle.theory_walks.specs.Boundary.{IsBoundaryEdge}
use Rattle.theory_walks.specs.Frames.{FrameValue, whole, lifted_at}
use Rattle.theory_walks.proofs.Walks.{StillFits, at_depth-depth, GrowsTo-then}
use Rattle.theory_walks.proofs.Lifting.{lifted-later, lifted-again}
use Rattle.theory_walks.proofs.Crossings.{lifted-is_whole, across-of_frame, traced-before, before-and_now}
use Rattle.lazy_walk.proofs.frame.Frame.cross_grow_in_place.Goals as goal

-- the laws of growth, for the children of the machine's tiling
still_fits : (kinds : List (List ℕ)) (now inside : Rule) → kinds ≡ children (tiling_of inside) → inside ≡ now → AreUsable kinds
    → ((children : List (List ℕ)) → AreUsable children → StillFits children) → StillFits (children (tiling_of now))
still_fits kinds now inside is same usable law = law (children (tiling_of now))
    (subst AreUsable (is ∙ ap (λ (r : Rule). children (tiling_of r)) same) usable)

pub cross_in_place-requires-clause-fits : goal.cross_in_place-requires-clause-fits
cross_in_place-requires-clause-fits g c =
    let fits = still_fits c.uses.result.now c.args.machine.now c.checked-checked.result.now c.uses.ensures
    c.checked-checked.ensures.rule c.kinds-usable.ensures.limits
    (λ children usable base start n h. c.grown_fits_law.ensures children base start n usable h) in
    subst (Fits (children (tiling_of c.args.machine.now))) (sym c.loop-back.invariant.lifted)
    (lifted-is_whole c.args.machine.now fits c.args.self.now (address_of c.args.tile.now) c.requires.frame
    c.requires.of_frame c.loop-back.self c.loop-back.invariant.grown).fits

pub returns-in-Ok-clause-crossed : goal.returns-in-Ok-clause-crossed
returns-in-Ok-clause-crossed g c =
    let t = tiling_of c.args.machine.now in
    let lifted = c.loop-back.invariant.lifted in
    let b = address_of c.cross_in_place.new.addr in
    let fits = still_fits c.uses.result.now c.args.machine.now c.checked-checked.result.now c.uses.ensures
    c.checked-checked.ensures.rule c.kinds-usable.ensures.limits
    (λ children usable base start n h. c.grown_fits_law.ensures children base start n usable h) in
    let across = subst (λ a. IsAcross (contacts t) a c.args.edge b c.in-Ok.back) lifted c.in-Ok.ensures.crossing.crossing.across in
    let here = across-of_frame c.args.machine.now fits c.args.self.now (address_of c.args.tile.now)
    c.requires.frame c.requires.of_frame c.loop-back.self b c.args.edge c.in-Ok.back
    c.loop-back.invariant.grown across c.in-Ok.ensures.answer_fits in
    record {
      across = across;
      only_tile_across = subst (λ a. IsOnlyAcross t a c.args.edge b c.in-Ok.back) lifted c.in-Ok.ensures.only_tile_across;
      leads_back = subst (λ a. IsOnlyAcross t b c.in-Ok.back a c.args.edge) lifted c.in-Ok.ensures.leads_back;
      of_frame = here.0;
      at_depth = here.1;
      inside = λ on. c.in-Ok.ensures.inside on.own (subst (λ a. LiesAlong t a c.args.edge on.own) (sym lifted) on.along);
    }

-- what is on the boundary at depth 64 was so before, and is answered as Outside
pub returns-in-Ok-clause-limit_exactly : goal.returns-in-Ok-clause-limit_exactly
returns-in-Ok-clause-limit_exactly g c = (λ e. absurd (cc e), λ on. refute on)
  where
    refute : IsBoundaryEdge (tiling_of c.args.machine.now)
        (lifted_at (tiling_of c.args.machine.now) c.args.self.now (address_of c.args.tile.now) 64) c.args.edge
        → false ≡ true
    refute on =
        let fits = still_fits c.uses.result.now c.args.machine.now c.checked-checked.result.now c.uses.ensures
        c.checked-checked.ensures.rule c.kinds-usable.ensures.limits
        (λ children usable base start n h. c.grown_fits_law.ensures children base start n usable h) in
        let settled : IsSettled c.args.machine.now = record {
          accepted = c.checked-checked.ensures.accepted;
          usable = c.checked-checked.ensures.usable;
          same_child_kinds = c.checked-checked.ensures.same_child_kinds;
        } in
        let law : BoundariesLaw c.args.machine.now.order = subst BoundariesLaw
        (c.order.ensures.order ∙ ap (λ (r : Rule). r.order) c.checked-checked.ensures.rule)
        c.boundary_law.ensures in
        let traced = traced-before c.args.machine.now fits c.args.self.now (address_of c.args.tile.now)
        c.requires.frame c.requires.of_frame settled law c.args.edge c.requires.edge_exists
        c.loop-back.self
        c.loop-back.invariant.grown on in
        cc (c.in-Ok.ensures.crossing.crossing.boundary_when traced.0 traced.1
        (subst (λ a. LiesOn (contacts (tiling_of c.args.machine.now)) a c.args.edge traced.0 traced.1)
        (sym c.loop-back.invariant.lifted) traced.2))

pub loop-back-smaller : goal.loop-back-smaller
loop-back-smaller g c =
    let longer : length c.grow.new.self.digits ≡ length c.loop-back.self.digits + 1 =
    ap (λ (f : FrameValue). length f.digits) c.in-Ok-grow.ensures.one_more
    ∙ at_depth-depth (tiling_of c.args.machine.now) c.loop-back.self (length c.loop-back.self.digits + 1)
    (omega (arith, c.loop-back.invariant.grown.is_frame.holds_base)) in
    omega (arith, longer, c.in-Ok-grow.ensures.room.0 refl)

-- the edge was on the boundary at the depth before
pub loop-back-preserved : goal.loop-back-preserved
loop-back-preserved g c = record {
  grown = GrowsTo-then (tiling_of c.args.machine.now) c.args.self.now c.loop-back.self c.grow.new.self
      c.loop-back.invariant.grown c.in-Ok-grow.ensures.frame;
  lifted =
      c.raise-in-Ok-grow.ensures ∙ ap (λ (a : Address). lifted_in (whole c.grow.new.self) (address_of a))
      c.in_default.ensures.crossing.unchanged ∙ ap (lifted_in (whole c.grow.new.self)) c.loop-back.invariant.lifted
      ∙ lifted-again (tiling_of c.args.machine.now) c.loop-back.self c.grow.new.self (address_of c.args.tile.now) c.loop-back.invariant.grown.is_frame
      (omega (arith, c.requires.of_frame.no_deeper, c.loop-back.invariant.grown.no_shallower)) c.in-Ok-grow.ensures.one_more;
  before = before-and_now c.args.machine.now fits c.args.self.now (address_of c.args.tile.now)
      c.requires.frame c.requires.of_frame c.loop-back.self c.grow.new.self c.args.edge
      c.loop-back.invariant.grown c.in-Ok-grow.ensures.one_more here c.loop-back.invariant.before;
}
  where
    fits : StillFits (children (tiling_of c.args.machine.now))
    fits = still_fits c.uses.result.now c.args.machine.now c.checked-checked.result.now c.uses.ensures
        c.checked-checked.ensures.rule c.kinds-usable.ensures.limits
        (λ children usable base start n h. c.grown_fits_law.ensures children base start n usable h)

    here : IsBoundaryEdge (tiling_of c.args.machine.now) (lifted_in (whole c.loop-back.self) (address_of c.args.tile.now)) c.args.edge
    here = subst (λ a. IsBoundaryEdge (tiling_of c.args.machine.now) a c.args.edge)
        c.loop-back.invariant.lifted (record {
          own = c.in_default.field-0.edge;
          along = part_along (tiling_of c.args.machine.now) (address_of c.loop-back.tile) c.args.edge
              c.in_default.field-0.edge c.in_default.field-0.part c.in_default.ensures.outside_on_boundary;
        })

pub returns-in-Err-clause-least : goal.returns-in-Err-clause-least
returns-in-Err-clause-least g c = λ n l h. c.loop-back.invariant.before n l (subst (λ (f : FrameValue). n < length f.digits) c.in-Err.ensures.full h)

pub returns-in-Err-clause-limit_exactly : goal.returns-in-Err-clause-limit_exactly
returns-in-Err-clause-limit_exactly g c = (λ e. at_64, λ on. refl)
  where
    deepest : length c.loop-back.self.digits ≡ 64
    deepest = elim (cases_lt (length c.loop-back.self.digits) 64) [
      | inl h ↦ absurd (cc (c.in-Err.ensures.room.1 h))
      | inr h ↦ omega (arith, h, c.loop-back.invariant.grown.is_frame.at_most_64)
    ]

    at_64 : IsBoundaryEdge (tiling_of c.args.machine.now)
        (lifted_at (tiling_of c.args.machine.now) c.args.self.now (address_of c.args.tile.now) 64) c.args.edge
    at_64 =
        subst (λ n. IsBoundaryEdge (tiling_of c.args.machine.now)
        (lifted_at (tiling_of c.args.machine.now) c.args.self.now (address_of c.args.tile.now) n)
        c.args.edge) deepest
        (subst (λ a. IsBoundaryEdge (tiling_of c.args.machine.now) a c.args.edge)
        (c.loop-back.invariant.lifted ∙ lifted-later (tiling_of c.args.machine.now) c.args.self.now
        c.loop-back.self (address_of c.args.tile.now) c.loop-back.invariant.grown)
        (record {
          own = c.in_default.field-0.edge;
          along = part_along (tiling_of c.args.machine.now) (address_of c.loop-back.tile) c.args.edge
              c.in_default.field-0.edge c.in_default.field-0.part c.in_default.ensures.outside_on_boundary;
        }))

pub loop-back-init : goal.loop-back-init
loop-back-init g c = grind (arith, common_steps)

pub cross_in_place-requires-clause-edge_exists : goal.cross_in_place-requires-clause-edge_exists
cross_in_place-requires-clause-edge_exists g c = grind (arith, common_steps)

pub raise-requires-in-Ok-grow : goal.raise-requires-in-Ok-grow
raise-requires-in-Ok-grow g c = grind (arith, common_steps)

pub returns-in-Err-clause-frame : goal.returns-in-Err-clause-frame
returns-in-Err-clause-frame g c = grind (arith, common_steps)
