use Rattle.std.proofs.Common.{ℕ, ◌<◌, ◌≤◌, length, take, sym, subst, arith, take_all}
use Rattle.theory_addresses.proofs.Lists.{AllByRecursion-each}
use Rattle.cyclo_points.specs.declared.motion.Motion.{Motion}
use Rattle.tile_place.specs.Keys.{FitsKey}
use Rattle.window_cover.specs.declared.fields.Fields.{Fields}
use Rattle.window_cover.specs.Covered.{tile_of}
use Rattle.window_cover.specs.Found.{Found}
use Rattle.window_cover.specs.Keys.{HasKey}
use Rattle.window_cover.specs.Reach.{HoldEach}
use Rattle.window_cover.specs.Words.{AreHeld}
use Rattle.window_cover.proofs.BlockTiles.{each-of}
use Rattle.window_cover.proofs.Words.{held-one_more}
use Rattle.window_cover.proofs.cover.Cover.fields.Goals as goal

pub widened-fields-requires-clause-fits : goal.widened-fields-requires-clause-fits
widened-fields-requires-clause-fits c =
    let found = c.args.self.now.found in
    let k = c.loop-number.number in
    let below : k < length found = omega (arith, c.loop-number-test.true, c.tiles-count.ensures.count) in
    subst (λ (i : ℕ). FitsKey c.place-kind.result.0 i) (sym c.place-kind.ensures.kind)
    (subst (λ (m : Motion). FitsKey m (tile_of found k).kind) (sym c.place-kind.ensures.motion)
    (each-of HasKey found c.tiles_law.ensures.keyed k below))

pub loop-number-preserved : goal.loop-number-preserved
loop-number-preserved c =
    let found = c.args.self.now.found in
    let k = c.loop-number.number in
    let below : k < length found = omega (arith, c.loop-number-test.true, c.tiles-count.ensures.count) in
    let Held : Fields → Found → Type 0 = λ f x. AreHeld f x.motion x.kind in
    let before = AllByRecursion-each (Held c.loop-number.fields) (Held c.widened-fields.result) (take k found)
    (λ x h. c.widened-fields.ensures.kept x.motion x.kind h) c.loop-number.invariant.held in
    record {
      fields = c.widened-fields.ensures.fields;
      held = held-one_more (Held c.widened-fields.result) found k below before
          (subst (λ (i : ℕ). AreHeld c.widened-fields.result (tile_of found k).motion i) c.place-kind.ensures.kind
          (subst (λ (m : Motion). AreHeld c.widened-fields.result m c.place-kind.result.1)
          c.place-kind.ensures.motion c.widened-fields.ensures.held));
    }

pub loop-number-init : goal.loop-number-init
loop-number-init c = record { fields = c.first_fields-fields.ensures; held = tt }

pub returns-clause-hold : goal.returns-clause-hold
returns-clause-hold c =
    let found = c.args.self.now.found in
    let all : length found ≤ c.loop-number.number = omega (arith, c.loop-number-test.false, c.tiles-count.ensures.count) in
    subst (HoldEach c.loop-number.fields) (take_all c.loop-number.number found all) c.loop-number.invariant.held
