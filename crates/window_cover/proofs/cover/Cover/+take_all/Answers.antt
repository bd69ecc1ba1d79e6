use Rattle.std.proofs.Common.{◌≡◌, ℕ, ◌+◌, ◌-◌, ◌<◌, true, List, [], ◌++◌, map, length, set, refl, ap, ap₂, ◌∙◌, arith, IsTrue, IfSome, subst}
use Rattle.std.proofs.lemmas.Result.{IfOk-weaker}
use Rattle.rule_model.specs.declared.rule.Rule.{Rule}
use Rattle.rule_model.specs.Tiling.{tiling_of}
use Rattle.rule_model.specs.Views.{rule_of, rule_in}
use Rattle.theory_substitution.specs.Rule.{children_of}
use Rattle.theory_frames.specs.Descent.{of_whole}
use Rattle.tile_place.proofs.FactorPowers.{power-read}
use Rattle.tile_place.proofs.Plane.{IsSettled}
use Rattle.window_descent.specs.Parts.{IsPartAt}
use Rattle.window_descent.specs.Rows.{levels_of, scale_of}
use Rattle.window_cover.specs.Descending.{IsTakenIn, IsDescended, found_part, tiles_in, digits_above}
use Rattle.window_cover.specs.Windows.{TileOf}
use Rattle.window_cover.proofs.PartSteps.{put-descended, first-part, next-found, next-above, no-more, more-then}
use Rattle.window_cover.proofs.cover.Cover.+take_all.Goals as goal

pub returns-then-level-eq0 : goal.returns-then-level-eq0
returns-then-level-eq0 t c =
    let m = c.args.machine.now in
    record {
      rows = c.requires.rows;
      levels = refl;
      found = IfOk-weaker c.put.result (λ done. IsTrue done → IsTakenIn c.args.self.now c.put.new.self (found_part c.args.part.now c.args.path.now))
          (λ done. IsTrue done
          → IsDescended (tiling_of m) c.args.self.now c.put.new.self c.args.path.now c.args.path.now true c.args.level c.args.part.now)
          (λ done h d. put-descended m c.args.self.now c.put.new.self c.args.path.now true c.args.level
          c.args.part.now c.requires.part c.if-level-eq0.true (λ e. absurd (cc e)) (h d))
          c.put.ensures.put;
    }

pub loop-number-init : goal.loop-number-init
loop-number-init t c =
    let m = c.args.machine.now in
    let settled : IsSettled m = record {
      accepted = c.checked.ensures.accepted;
      usable = c.checked.ensures.usable;
      same_child_kinds = c.checked.ensures.same_child_kinds;
    } in
    let some = c.if-level-eq0.false in
    let one : (c.args.level - 1) + 1 ≡ c.args.level = omega (arith, some) in
    record {
      same_window = refl;
      same_border = refl;
      same_above = refl;
      longer = no-more c.args.self.now.found;
      one_below = one;
      found = ap (λ (ts : List (TileOf (tiling_of m))). tiles_in m.order c.args.self.now.found
          ++ map (of_whole (digits_above c.args.level c.args.path.now)) ts)
          (first-part m settled c.args.self.now.window true c.args.part.now c.args.level (c.args.level - 1) one);
      kept = λ k. k;
      rows = c.requires.rows;
      levels = refl;
      count_is = c.child_count-count.ensures.numbers m.order
          ∙ ap₂ (λ (x : Rule) (k : ℕ). length (children_of (rule_in m.order x) k)) (c.rule.ensures.rule ∙ c.checked.ensures.rule) c.from.ensures;
    }

pub overflow_cast-path : goal.overflow_cast-path
overflow_cast-path t c =
    let m = c.args.machine.now in
    let few = c.checked.ensures.usable.numbered.at_most_16_children c.args.part.now.kind c.requires.part.kind_exists in
    omega (arith, few, c.loop-number-test.true, c.loop-number.invariant.count_is)

pub loop-number-preserved : goal.loop-number-preserved
loop-number-preserved t c =
    let m = c.args.machine.now in
    let settled : IsSettled m = record {
      accepted = c.checked.ensures.accepted;
      usable = c.checked.ensures.usable;
      same_child_kinds = c.checked.ensures.same_child_kinds;
    } in
    let inv = c.loop-number.invariant in
    let below = c.args.level - 1 in
    let i = c.loop-number.number in
    let path = c.loop-number.path in
    let few : i < length (children_of (rule_of m) c.args.part.now.kind) = omega (arith, inv.count_is, c.loop-number-test.true) in
    let rows = c.loop-number.rows in
    let scale = scale_of rows below in
    let there : below < levels_of rows = omega (arith, inv.one_below, inv.levels, c.requires.enough) in
    let scale_is = power-read m.order (rule_of m).factor (levels_of rows) rows.powers.items below (record { c = [] }) inv.rows.powers there in
    let part : IsPartAt m c.args.part.now.kind i scale c.args.part.now.motion c.in-Some.child =
    subst (λ x. IfSome x (IsPartAt m c.args.part.now.kind i scale c.args.part.now.motion)) c.in-Some.is c.in_ok-child.ensures.child in
    let h : IsDescended (tiling_of m) c.loop-number.self c.take_all.new.self
    (set path below (record { child = i; parent = c.args.part.now.kind })) c.take_all.new.path true below c.in-Some.child
    = c.in_ok-take_all.ensures.found c.if-not-branch.false in
    let next = next-found m settled c.args.self.now.window true c.args.part.now c.args.level below
    inv.one_below i few scale scale_is c.in-Some.child part
    c.loop-number.self c.take_all.new.self path c.take_all.new.path c.args.path.now
    (omega (arith, c.loop-number.auto.path, inv.one_below, c.requires.on_path)) inv.same_above h inv.same_window in
    record {
      same_window = h.same_window ∙ inv.same_window;
      same_border = h.same_border ∙ inv.same_border;
      same_above = next-above m settled c.args.self.now.window true c.args.part.now c.args.level below
          inv.one_below i few scale scale_is c.in-Some.child part
          c.loop-number.self c.take_all.new.self path c.take_all.new.path c.args.path.now
          (omega (arith, c.loop-number.auto.path, inv.one_below, c.requires.on_path)) inv.same_above h inv.same_window;
      longer = more-then c.args.self.now.found c.loop-number.self.found c.take_all.new.self.found inv.longer h.longer;
      one_below = inv.one_below;
      found = next ∙ inv.found;
      kept = λ k. h.kept (inv.kept k);
      rows = c.take_all.ensures.rows;
      levels = c.take_all.ensures.levels ∙ c.child.ensures.levels ∙ inv.levels;
      count_is = inv.count_is;
    }
