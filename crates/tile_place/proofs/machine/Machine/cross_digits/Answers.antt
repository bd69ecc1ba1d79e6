use Rattle.std.proofs.Common.{◌≡◌, ◌∙◌, ℕ, refl, Result, Ok, Err, IfOk, OnErr, IsSome, List, map, sym, ap, subst, arith}
use Rattle.std.proofs.lemmas.Grind.{common_steps}
use Rattle.theory_addresses.specs.Address.{Address, Fits}
use Rattle.theory_addresses.specs.Across.{IsAcross}
use Rattle.theory_addresses.specs.Tables.{Tables, child_kinds, type_of}
use Rattle.cyclo_points.specs.declared.order.Order.{Order}
use Rattle.rule_model.specs.declared.rule.Rule.{Rule}
use Rattle.rule_model.specs.Tiling.{tiling_of, contacts, children}
use Rattle.tile_shape.specs.Views.{step_of}
use Rattle.tile_shape.specs.declared.step.Step.{Step}
use Rattle.transducer_core.specs.Crossed.{IsCrossing}
use Rattle.transducer_core.specs.declared.outside.Outside.{Outside}
use Rattle.tile_place.proofs.KindEdges.{edge_typed}
use Rattle.tile_place.proofs.Plane.{OnlyTilesLaw, BoundariesLaw, IsSettled, only_across, way_back, lies_on_boundary, outside_on, along_none}
use Rattle.tile_place.proofs.machine.Machine.cross_digits.Given.{Over}
use Rattle.tile_place.proofs.machine.Machine.cross_digits.Goals.{After-digits-1}
use Rattle.tile_place.proofs.machine.Machine.cross_digits.Goals as goal

-- the transducer's child kinds are those of the tiling
same_kinds : (t : Tables) (now : Rule) → t ≡ contacts (tiling_of now)
    → child_kinds (contacts (tiling_of now)) ≡ children (tiling_of now)
    → child_kinds t ≡ children (tiling_of now)
same_kinds t now is kinds = ap child_kinds is ∙ kinds

-- the digits fit, whatever the answer
fits_of : (t : Tables) (kinds : List (List ℕ)) (before after : Address) (e : ℕ) (x : Result ℕ Outside)
    → child_kinds t ≡ kinds → Fits kinds before
    → IfOk x (λ f. IsAcross t before e after f) → OnErr x (after ≡ before) → Fits kinds after
fits_of t kinds before after e (Ok f) same old h unchanged = subst (λ v. Fits v after) same h.only.fits
fits_of t kinds before after e (Err o) same old h unchanged = subst (Fits kinds) (sym unchanged) old

-- what is unchanged in both parts is unchanged
both : (x : Result ℕ Outside) (kind kind' : ℕ) (xs ys : List Step) → OnErr x ((kind' ≡ kind) × (ys ≡ xs))
    → OnErr x (◌≡◌ {A = Address} (record { kind = kind'; digits = map step_of ys }) (record { kind = kind; digits = map step_of xs }))
both (Ok f) kind kind' xs ys same = tt
both (Err o) kind kind' xs ys same = λ i. record { kind = same.0 i; digits = map step_of (same.1 i) }

-- a law over the order that the machine answers is one over its rule's
of_order : (L : Order → Type 0) (order : Order) (inside now : Rule) → order ≡ inside.order → inside ≡ now → L order → L now.order
of_order L order inside now is same law = subst L (is ∙ ap (λ (r : Rule). r.order) same) law

pub step_across_digits-requires-clause-fits : goal.step_across_digits-requires-clause-fits
step_across_digits-requires-clause-fits g c =
    subst (λ u. Fits u (record { kind = c.args.kind.now; digits = map step_of c.args.digits.now }))
    (sym (same_kinds c.transducer.result.now c.args.self.now c.transducer.ensures c.checked.ensures.same_child_kinds))
    c.requires.edge.fits

pub step_across_digits-requires-clause-edge_exists : goal.step_across_digits-requires-clause-edge_exists
step_across_digits-requires-clause-edge_exists g c =
    subst (λ (t : Tables). IsSome (type_of t c.args.kind.now c.args.edge)) (sym c.transducer.ensures)
    ((edge_typed (tiling_of c.args.self.now) c.args.kind.now c.args.edge).1 c.requires.edge.exists)

-- what the transducer answers, of the tables of the tiling
crossed : (g : Over) (c : After-digits-1 g)
    → IsCrossing (contacts (tiling_of c.args.self.now))
    (record { kind = c.args.kind.now; digits = map step_of c.args.digits.now }) c.args.edge
    c.step_across_digits.result
    (λ _. record { kind = c.step_across_digits.new.kind; digits = map step_of c.step_across_digits.new.digits }) (λ back. back)
crossed g c = subst (λ (t : Tables). IsCrossing t
    (record { kind = c.args.kind.now; digits = map step_of c.args.digits.now }) c.args.edge
    c.step_across_digits.result
    (λ _. record { kind = c.step_across_digits.new.kind; digits = map step_of c.step_across_digits.new.digits }) (λ back. back))
    c.transducer.ensures c.step_across_digits.ensures.crossing

settled : (g : Over) (c : After-digits-1 g) → IsSettled c.args.self.now
settled g c = record {
  accepted = c.checked.ensures.accepted;
  usable = c.checked.ensures.usable;
  same_child_kinds = c.checked.ensures.same_child_kinds;
}

tiles : (g : Over) (c : After-digits-1 g) → OnlyTilesLaw c.args.self.now.order
tiles g c = of_order OnlyTilesLaw c.order-order.result c.checked.result.now c.args.self.now
    c.order-order.ensures.order c.checked.ensures.rule c.across_law.ensures

boundaries : (g : Over) (c : After-digits-1 g) → BoundariesLaw c.args.self.now.order
boundaries g c = of_order BoundariesLaw c.order-order.result c.checked.result.now c.args.self.now
    c.order-order.ensures.order c.checked.ensures.rule c.boundary_law.ensures

pub returns-clause-crossing : goal.returns-clause-crossing
returns-clause-crossing g c = crossed g c

pub returns-clause-answer_fits : goal.returns-clause-answer_fits
returns-clause-answer_fits g c =
    fits_of (contacts (tiling_of c.args.self.now)) (children (tiling_of c.args.self.now))
    (record { kind = c.args.kind.now; digits = map step_of c.args.digits.now })
    (record { kind = c.step_across_digits.new.kind; digits = map step_of c.step_across_digits.new.digits }) c.args.edge c.step_across_digits.result
    c.checked.ensures.same_child_kinds c.requires.edge.fits (crossed g c).across
    (both c.step_across_digits.result c.args.kind.now c.step_across_digits.new.kind c.args.digits.now c.step_across_digits.new.digits
    c.step_across_digits.ensures.unchanged)

pub returns-clause-only_tile_across : goal.returns-clause-only_tile_across
returns-clause-only_tile_across g c =
    only_across c.args.self.now (settled g c) (record
    { kind = c.args.kind.now; digits = map step_of c.args.digits.now }) c.args.edge c.requires.edge.fits
    c.requires.edge.exists
    (tiles g c) (record {
      kind = c.step_across_digits.new.kind;
      digits = map step_of c.step_across_digits.new.digits;
    }) c.step_across_digits.result
    (crossed g c).across

pub returns-clause-leads_back : goal.returns-clause-leads_back
returns-clause-leads_back g c =
    way_back c.args.self.now (settled g c) (record
    { kind = c.args.kind.now; digits = map step_of c.args.digits.now }) c.args.edge c.requires.edge.fits
    c.requires.edge.exists
    (tiles g c) (record {
      kind = c.step_across_digits.new.kind;
      digits = map step_of c.step_across_digits.new.digits;
    }) c.step_across_digits.result
    (crossed g c).across

pub returns-clause-outside_on_boundary : goal.returns-clause-outside_on_boundary
returns-clause-outside_on_boundary g c =
    lies_on_boundary c.args.self.now (settled g c)
    (record { kind = c.args.kind.now; digits = map step_of c.args.digits.now }) c.args.edge
    c.requires.edge.fits c.requires.edge.exists
    (boundaries g c) c.step_across_digits.result (crossed g c).on_boundary

pub returns-clause-boundary_is_outside : goal.returns-clause-boundary_is_outside
returns-clause-boundary_is_outside g c =
    outside_on c.args.self.now (settled g c) (record
    { kind = c.args.kind.now; digits = map step_of c.args.digits.now }) c.args.edge c.requires.edge.fits
    c.requires.edge.exists
    (boundaries g c) (contacts (tiling_of c.args.self.now)) refl c.step_across_digits.result (crossed g c).boundary_when

pub returns-clause-inside : goal.returns-clause-inside
returns-clause-inside g c =
    along_none c.args.self.now (settled g c) (record
    { kind = c.args.kind.now; digits = map step_of c.args.digits.now }) c.args.edge c.requires.edge.fits
    c.requires.edge.exists
    (boundaries g c) (contacts (tiling_of c.args.self.now)) refl c.step_across_digits.result (crossed g c).boundary_when

pub step_across_digits-requires-clause-no_deeper : goal.step_across_digits-requires-clause-no_deeper
step_across_digits-requires-clause-no_deeper g c = grind (arith, common_steps)
