use Rattle.std.proofs.Common.{rules, ◌≡◌, ◌<◌, Some, List, length, map, slice_get, refl, sym, ap, ◌∙◌, subst}
use Rattle.std.proofs.lemmas.Result.{on_ok_weaker}
use Rattle.rule_model.specs.Tiling.{tiling_of}
use Rattle.theory_walks.proofs.Brought.{Brings, brought}
use Rattle.window_cover.specs.Admitted.{found_as}
use Rattle.window_cover.specs.Border.{Waiting}
use Rattle.window_cover.specs.Found.{CoverValue}
use Rattle.window_cover.specs.Kept.{found_in, IsKept}
use Rattle.window_cover.specs.Packed.{unpacked}
use Rattle.window_cover.specs.SearchLaws.{HasSearchLaws}
use Rattle.window_cover.specs.Windows.{IsWindow}
use Rattle.window_cover.specs.Working.{working}
use Rattle.window_cover.proofs.FirstEdge.{tile-there}
use Rattle.window_cover.proofs.OneStep as step
use Rattle.window_cover.proofs.Works.{first-packed, works}
use Rattle.window_cover.proofs.cover.Cover.advance.Given.{Over}
use Rattle.window_cover.proofs.cover.Cover.advance.Goals.{After-put_tile}
use Rattle.window_cover.proofs.cover.Cover.advance.Goals as goal

-- what the rule and the laws bring
brings : (g : Over) (c : After-put_tile g) → Brings HasSearchLaws c.args.machine.now
brings g c = brought HasSearchLaws c.args.machine.now _ _ _ c.checked-checked.ensures.rule
    c.checked-checked.ensures.accepted c.checked-checked.ensures.usable
    c.checked-checked.ensures.same_child_kinds
    c.uses.ensures c.kinds-usable.ensures.limits c.order.ensures.order c.search_laws.ensures c.grown_fits_law.ensures

-- what is found stays when closed edges are passed
passed : (g : Over) (c : After-put_tile g) → ◌≡◌ {A = CoverValue} (record {
  window = c.self.inside.window;
  found = found_in c.self.inside.digits.items c.self.inside.found.items;
  border = map unpacked c.pass.new.self;
}) c.args.self.now
passed g c =
    let inside = c.self.inside in
    ap (λ (b : List Waiting). record {
      window = inside.window;
      found = found_in inside.digits.items inside.found.items;
      border = map unpacked b;
    }) c.pass.ensures
    ∙ c.self.view_is

-- the tile of the first open edge, as it was found
at_first : (g : Over) (c : After-put_tile g) → slice_get c.args.self.now.found c.args.first.tile ≡ Some (found_as c.put_tile.new.tile)
at_first g c = subst (λ (y : CoverValue). slice_get y.found c.args.first.tile ≡ Some
    (found_as c.put_tile.new.tile)) (passed g c) c.put_tile.ensures.as_found

-- the step goes from that tile
from : (g : Over) (c : After-put_tile g) → step.IsFrom c.args.machine.now c.args.frame.now c.args.self.now c.args.first c.put_tile.new.tile
from g c = record {
  brings = brings g c;
  right = c.requires.right;
  is_first = c.requires.is_first;
  at = at_first g c;
  its_kind = c.put_tile.ensures.its_kind;
}

pub invariant_of-self : goal.invariant_of-self
invariant_of-self g c = subst (λ b. IsKept c.self.inside.digits.items c.self.inside.found.items b) (sym c.pass.ensures) c.self.invariant

pub overflow_cast-first : goal.overflow_cast-first
overflow_cast-first g c = search rules

pub put_tile-requires : goal.put_tile-requires
put_tile-requires g c =
    let t = tiling_of c.args.machine.now in
    let B = brought HasSearchLaws c.args.machine.now _ _ _ c.checked-checked.ensures.rule
    c.checked-checked.ensures.accepted c.checked-checked.ensures.usable
    c.checked-checked.ensures.same_child_kinds c.uses.ensures c.kinds-usable.ensures.limits
    c.order.ensures.order c.search_laws.ensures c.grown_fits_law.ensures in
    let inside = c.self.inside in
    let same : ◌≡◌ {A = CoverValue} (record {
      window = inside.window;
      found = found_in inside.digits.items inside.found.items;
      border = map unpacked c.pass.new.self;
    })
    c.args.self.now =
    ap (λ (b : List Waiting). record {
      window = inside.window;
      found = found_in inside.digits.items inside.found.items;
      border = map unpacked b;
    }) c.pass.ensures
    ∙ c.self.view_is in
    record {
      found = subst (λ (y : CoverValue). c.args.first.tile < length y.found) (sym same)
          (tile-there c.args.machine.now B.laws c.args.frame.now (working c.args.self.now)
          (works t B.laws.open_test c.args.frame.now c.args.self.now c.requires.right) c.args.first
          (first-packed c.args.self.now.border ∙ c.requires.is_first));
    }

pub step_grow-requires-clause-frame : goal.step_grow-requires-clause-frame
step_grow-requires-clause-frame g c = c.requires.right.frame

pub step_grow-requires-clause-tile : goal.step_grow-requires-clause-tile
step_grow-requires-clause-tile g c =
    let s = from g ((goal.at.step_grow-requires-clause-tile g c).After-put_tile) in
    let found = step.was_found s in
    record {
      its_kind = sym c.put_tile.ensures.its_kind;
      of_frame = step.of_frame s;
      motion = record { turn_below = found.turn_below; within = found.shift_within; in_order = found.in_order };
    }

pub step_grow-requires-clause-edge_exists : goal.step_grow-requires-clause-edge_exists
step_grow-requires-clause-edge_exists g c = step.has_edge (from g ((goal.at.step_grow-requires-clause-edge_exists g c).After-put_tile))

-- ---- the edge is crossed
pub admit-requires-clause-exists : goal.admit-requires-clause-exists
admit-requires-clause-exists g c =
    let p = (goal.at.admit-requires-clause-exists g c).After-put_tile in
    step.kind_exists (from g p) c.step_grow.new.self c.in-Ok.ensures.frame c.step_grow.new.tile c.in-Ok.field-0 c.in-Ok.ensures.crossed

pub admit-requires-clause-turn_below : goal.admit-requires-clause-turn_below
admit-requires-clause-turn_below g c = c.in-Ok.ensures.crossed.turn_below

pub admit-requires-clause-in_order : goal.admit-requires-clause-in_order
admit-requires-clause-in_order g c = c.in-Ok.ensures.crossed.in_order

pub admit-requires-clause-window : goal.admit-requires-clause-window
admit-requires-clause-window g c = subst (λ (y : CoverValue). IsWindow y.window) (sym c.self.view_is) c.requires.right.window

pub admit-requires-clause-new : goal.admit-requires-clause-new
admit-requires-clause-new g c =
    let p = (goal.at.admit-requires-clause-new g c).After-put_tile in
    step.edges_new (from g p) c.step_grow.new.self c.in-Ok.ensures.frame c.step_grow.new.tile c.in-Ok.field-0 c.in-Ok.ensures.crossed
    _ (passed g p)

pub returns-in-Ok-clause-frame : goal.returns-in-Ok-clause-frame
returns-in-Ok-clause-frame g c = c.in-Ok.ensures.frame

pub returns-in-Ok-clause-next : goal.returns-in-Ok-clause-next
returns-in-Ok-clause-next g c =
    let p = (goal.at.returns-in-Ok-clause-next g c).After-put_tile in
    step.is_next (from g p) c.step_grow.new.self c.in-Ok.ensures.frame c.step_grow.new.tile c.in-Ok.field-0 c.in-Ok.ensures.crossed
    _ (passed g p) c.admit.result c.admit.new.self c.admit.ensures.admitted c.admit.ensures.same_ends

pub returns-in-Ok-clause-not_beyond : goal.returns-in-Ok-clause-not_beyond
returns-in-Ok-clause-not_beyond g c =
    let p = (goal.at.returns-in-Ok-clause-not_beyond g c).After-put_tile in
    step.not_beyond (from g p) c.step_grow.new.self c.in-Ok.ensures.frame c.step_grow.new.tile c.in-Ok.field-0 c.in-Ok.ensures.crossed

pub returns-in-Ok-clause-within : goal.returns-in-Ok-clause-within
returns-in-Ok-clause-within g c =
    let p = (goal.at.returns-in-Ok-clause-within g c).After-put_tile in
    step.within (from g p) c.step_grow.new.self c.in-Ok.ensures.frame c.step_grow.new.tile c.in-Ok.field-0 c.in-Ok.ensures.crossed
    _ (passed g p) c.admit.result c.admit.ensures.cause

pub returns-in-Ok-clause-cause : goal.returns-in-Ok-clause-cause
returns-in-Ok-clause-cause g c =
    let p = (goal.at.returns-in-Ok-clause-cause g c).After-put_tile in
    step.cause (from g p) c.step_grow.new.self c.in-Ok.ensures.frame c.step_grow.new.tile c.in-Ok.field-0 c.in-Ok.ensures.crossed
    _ (passed g p) c.admit.result c.admit.ensures.cause

pub returns-in-Ok-clause-inside : goal.returns-in-Ok-clause-inside
returns-in-Ok-clause-inside g c =
    let p = (goal.at.returns-in-Ok-clause-inside g c).After-put_tile in
    on_ok_weaker c.admit.result
    (λ n. step.inside (from g p) c.step_grow.new.self c.in-Ok.ensures.frame c.step_grow.new.tile c.in-Ok.field-0 c.in-Ok.ensures.crossed)
    c.admit.ensures.admitted

pub returns-in-Ok-clause-least : goal.returns-in-Ok-clause-least
returns-in-Ok-clause-least g c =
    let p = (goal.at.returns-in-Ok-clause-least g c).After-put_tile in
    step.outside_before (from g p) c.step_grow.new.self c.in-Ok.ensures.frame c.in-Ok.ensures.least

-- ---- it is on the boundary at depth 64
pub returns-in-Err-clause-frame : goal.returns-in-Err-clause-frame
returns-in-Err-clause-frame g c = c.in-Err.ensures.frame

pub returns-in-Err-clause-least : goal.returns-in-Err-clause-least
returns-in-Err-clause-least g c =
    let p = (goal.at.returns-in-Err-clause-least g c).After-put_tile in
    step.outside_before (from g p) c.step_grow.new.self c.in-Err.ensures.frame c.in-Err.ensures.least

pub returns-in-Err-clause-not_beyond : goal.returns-in-Err-clause-not_beyond
returns-in-Err-clause-not_beyond g c = λ f0 n grows enough below.
    let p = (goal.at.returns-in-Err-clause-not_beyond g c).After-put_tile in
    absurd (step.none_enough (from g p) (c.in-Err.ensures.limit_exactly.0 refl) f0 n grows enough)

pub returns-in-Err-clause-within : goal.returns-in-Err-clause-within
returns-in-Err-clause-within g c = λ f0 grows within.
    let p = (goal.at.returns-in-Err-clause-within g c).After-put_tile in
    absurd (step.not_within (from g p) (c.in-Err.ensures.limit_exactly.0 refl) f0 grows within)

pub returns-in-Err-clause-cause : goal.returns-in-Err-clause-cause
returns-in-Err-clause-cause g c =
    let p = (goal.at.returns-in-Err-clause-cause g c).After-put_tile in
    step.at_limit (from g p) (c.in-Err.ensures.limit_exactly.0 refl) c.step_grow.new.self c.in-Err.ensures.frame
    c.in-Err.ensures.limit.deepest c.in-Err.limit.addr c.in-Err.ensures.limit.tile c.in-Err.limit.edge c.in-Err.ensures.limit.edge
