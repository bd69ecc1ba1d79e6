use Rattle.std.proofs.Common.{◌≡◌, ℕ, ◌+◌, ◌-◌, ◌<◌, Bool, append-nil, true, false, List, [], ◌++◌, map, length, set, refl, sym, ap, ap₂, ◌∙◌, arith, IfSome, subst}
use Rattle.std.proofs.lemmas.Result.{IfOk-weaker}
use Rattle.rule_model.specs.declared.rule.Rule.{Rule}
use Rattle.rule_model.specs.Tiling.{tiling_of}
use Rattle.rule_model.specs.Views.{rule_of, rule_in}
use Rattle.theory_substitution.specs.Rule.{children_of}
use Rattle.theory_frames.specs.Descent.{of_whole}
use Rattle.tile_place.proofs.FactorPowers.{power-read}
use Rattle.tile_place.proofs.Plane.{IsSettled}
use Rattle.window_descent.specs.Parts.{IsPartAt}
use Rattle.window_descent.specs.Rows.{levels_of, scale_of}
use Rattle.window_cover.specs.Descending.{IsDescended, IsJudged, tiles_in, digits_above, found_of}
use Rattle.window_cover.specs.Gathering.{gathered}
use Rattle.window_cover.specs.Runs.{seen}
use Rattle.window_cover.specs.Windows.{TileOf}
use Rattle.window_cover.proofs.PartSteps.{first-part, last-part, next-found, next-above, no-more, more-then}
use Rattle.window_cover.proofs.Gathered.{gathered-none, gathered-as}
use Rattle.window_cover.proofs.runs.Runs.+gathering.Goals as goal

pub gather-returns-in-Some-Beyond : goal.gather-returns-in-Some-Beyond
gather-returns-in-Some-Beyond t c = λ _.
    let m = c.args.machine.now in
    let judged = subst (λ x. IfSome x (IsJudged (tiling_of m) c.args.self.now.leaves.window c.args.all
    c.args.level c.args.part.now)) c.in-Some-Beyond.is c.stands.ensures.judged in
    gathered-none m c.args.self.now c.args.rows.now c.stands.new.rows c.args.blocks.now c.args.path.now c.args.all c.args.level c.args.part.now
    c.stands.ensures.levels c.requires.state c.stands.ensures.rows
    (subst (IsJudged (tiling_of m) c.args.self.now.leaves.window c.args.all c.args.level c.args.part.now) c.in-Some-Beyond.field-0-is judged)

pub gather-returns-in-Some-Within : goal.gather-returns-in-Some-Within
gather-returns-in-Some-Within t c =
    let m = c.args.machine.now in
    let judged = subst (λ x. IfSome x (IsJudged (tiling_of m) c.args.self.now.leaves.window c.args.all
    c.args.level c.args.part.now)) c.in-Some-Within.is c.stands.ensures.judged in
    let same : found_of (tiling_of m) c.args.self.now.leaves.window c.args.all c.args.level c.args.part.now
    ≡ found_of (tiling_of m) c.args.self.now.leaves.window true c.args.level c.args.part.now =
    subst (IsJudged (tiling_of m) c.args.self.now.leaves.window c.args.all c.args.level c.args.part.now) c.in-Some-Within.field-0-is judged in
    IfOk-weaker c.take_in.result _ _
    (λ done h d. gathered-as m c.args.self.now c.args.rows.now c.stands.new.rows c.args.blocks.now
    c.args.path.now c.args.all c.args.level c.args.part.now
    c.stands.ensures.levels true c.take_in.new.self c.take_in.new.rows c.take_in.new.blocks c.take_in.new.path same (h d)) c.take_in.ensures

pub gather-returns-in-Some-Across : goal.gather-returns-in-Some-Across
gather-returns-in-Some-Across t c =
    let m = c.args.machine.now in
    let judged = subst (λ x. IfSome x (IsJudged (tiling_of m) c.args.self.now.leaves.window c.args.all
    c.args.level c.args.part.now)) c.in-Some-Across.is c.stands.ensures.judged in
    let known : (c.args.all ≡ false) × (0 < c.args.level) =
    subst (IsJudged (tiling_of m) c.args.self.now.leaves.window c.args.all c.args.level c.args.part.now) c.in-Some-Across.field-0-is judged in
    IfOk-weaker c.take_in-in-Some-Across.result _ _
    (λ done h d. gathered-as m c.args.self.now c.args.rows.now c.stands.new.rows c.args.blocks.now
    c.args.path.now c.args.all c.args.level c.args.part.now
    c.stands.ensures.levels false c.take_in-in-Some-Across.new.self c.take_in-in-Some-Across.new.rows
    c.take_in-in-Some-Across.new.blocks c.take_in-in-Some-Across.new.path
    (ap (λ (a : Bool). found_of (tiling_of m) c.args.self.now.leaves.window a c.args.level c.args.part.now)
    known.0) (h d)) c.take_in-in-Some-Across.ensures

pub take_in-put_run-requires-clause-low : goal.take_in-put_run-requires-clause-low
take_in-put_run-requires-clause-low t c =
    let own = c.is_run.ensures.low c.if-is_run.true in
    let low = c.requires.state.blocks.low in
    omega (arith, own, low)

pub take_in-returns-then-is_run : goal.take_in-returns-then-is_run
take_in-returns-then-is_run t c =
    let m = c.args.machine.now in
    IfOk-weaker c.put_run.result _ _
    (λ done h d. gathered-as m c.args.self.now c.args.rows.now c.args.rows.now c.args.blocks.now
    c.args.path.now c.args.all c.args.level c.args.part.now
    refl true c.put_run.new.self c.put_run.new.rows c.put_run.new.blocks c.args.path.now
    (ap (λ (a : Bool). found_of (tiling_of m) c.args.self.now.leaves.window a c.args.level c.args.part.now)
    (c.is_run.ensures.all c.if-is_run.true)) (h d)) c.put_run.ensures

pub take_in-overflow_sub-below : goal.take_in-overflow_sub-below
take_in-overflow_sub-below t c = let some = c.is_run.ensures.other c.if-is_run.false in omega (arith, some)

pub take_in-returns : goal.take_in-returns
take_in-returns t c = λ _.
    let m = c.args.machine.now in
    let inv = c.loop-number.invariant in
    let settled : IsSettled m = record {
      accepted = c.checked.ensures.accepted;
      usable = c.checked.ensures.usable;
      same_child_kinds = c.checked.ensures.same_child_kinds;
    } in
    record {
      state = inv.state;
      levels = inv.levels;
      descended = record {
        same_window = inv.same_window;
        same_border = refl;
        same_above = inv.same_above;
        longer = inv.longer;
        found = sym (append-nil (tiles_in m.order (seen c.loop-number.self)))
            ∙ ap (λ (ts : List (TileOf (tiling_of m))). tiles_in m.order (seen c.loop-number.self)
            ++ map (of_whole (digits_above c.args.level c.args.path.now)) ts)
            (sym (last-part m settled c.args.self.now.leaves.window c.args.all c.args.part.now c.args.level
            (c.args.level - 1) inv.one_below c.loop-number.number
            (omega (arith, inv.count_is, c.loop-number-test.false, c.loop-number.auto.number-end)))) ∙ inv.found;
        kept = inv.kept;
      };
    }

pub take_in-loop-number-init : goal.take_in-loop-number-init
take_in-loop-number-init t c =
    let m = c.args.machine.now in
    let settled : IsSettled m = record {
      accepted = c.checked.ensures.accepted;
      usable = c.checked.ensures.usable;
      same_child_kinds = c.checked.ensures.same_child_kinds;
    } in
    let one : (c.args.level - 1) + 1 ≡ c.args.level = (let some = c.is_run.ensures.other c.if-is_run.false in omega (arith, some)) in
    record {
      state = c.requires.state;
      same_window = refl;
      same_above = refl;
      longer = no-more (seen c.args.self.now);
      one_below = one;
      found = ap (λ (ts : List (TileOf (tiling_of m))). tiles_in m.order (seen c.args.self.now)
          ++ map (of_whole (digits_above c.args.level c.args.path.now)) ts)
          (first-part m settled c.args.self.now.leaves.window c.args.all c.args.part.now c.args.level (c.args.level - 1) one);
      kept = λ k. k;
      levels = refl;
      count_is = c.child_count-count.ensures.numbers m.order
          ∙ ap₂ (λ (x : Rule) (k : ℕ). length (children_of (rule_in m.order x) k)) (c.rule.ensures.rule ∙ c.checked.ensures.rule) c.from.ensures;
    }

pub take_in-overflow_cast-path : goal.take_in-overflow_cast-path
take_in-overflow_cast-path t c =
    let m = c.args.machine.now in
    let few = c.checked.ensures.usable.numbered.at_most_16_children c.args.part.now.kind c.requires.part.kind_exists in
    omega (arith, few, c.loop-number-test.true, c.loop-number.invariant.count_is)

pub take_in-loop-number-preserved : goal.take_in-loop-number-preserved
take_in-loop-number-preserved t c =
    let m = c.args.machine.now in
    let settled : IsSettled m = record {
      accepted = c.checked.ensures.accepted;
      usable = c.checked.ensures.usable;
      same_child_kinds = c.checked.ensures.same_child_kinds;
    } in
    let inv = c.loop-number.invariant in
    let below = c.args.level - 1 in
    let i = c.loop-number.number in
    let path = c.loop-number.path in
    let few : i < length (children_of (rule_of m) c.args.part.now.kind) = omega (arith, inv.count_is, c.loop-number-test.true) in
    let rows = c.loop-number.rows in
    let scale = scale_of rows below in
    let there : below < levels_of rows = omega (arith, inv.one_below, inv.levels, c.requires.enough) in
    let scale_is = power-read m.order (rule_of m).factor (levels_of rows) rows.powers.items below (record { c = [] }) inv.state.rows.powers there in
    let part : IsPartAt m c.args.part.now.kind i scale c.args.part.now.motion c.in-Some.child =
    subst (λ x. IfSome x (IsPartAt m c.args.part.now.kind i scale c.args.part.now.motion)) c.in-Some.is c.in_ok-child.ensures.child in
    let g = c.in_ok-gather.ensures c.if-not-branch.false in
    let h : IsDescended (tiling_of m) (gathered c.loop-number.self) (gathered c.gather.new.self)
    (set path below (record { child = i; parent = c.args.part.now.kind })) c.gather.new.path c.args.all below c.in-Some.child
    = g.descended in
    let next = next-found m settled c.args.self.now.leaves.window c.args.all c.args.part.now c.args.level
    below inv.one_below i few scale scale_is c.in-Some.child part
    (gathered c.loop-number.self) (gathered c.gather.new.self) path c.gather.new.path c.args.path.now
    (omega (arith, c.loop-number.auto.path, inv.one_below, c.requires.on_path)) inv.same_above h inv.same_window in
    record {
      state = g.state;
      same_window = h.same_window ∙ inv.same_window;
      same_above = next-above m settled c.args.self.now.leaves.window c.args.all c.args.part.now c.args.level
          below inv.one_below i few scale scale_is c.in-Some.child part
          (gathered c.loop-number.self) (gathered c.gather.new.self) path c.gather.new.path c.args.path.now
          (omega (arith, c.loop-number.auto.path, inv.one_below, c.requires.on_path)) inv.same_above h inv.same_window;
      longer = more-then (seen c.args.self.now) (seen c.loop-number.self) (seen c.gather.new.self) inv.longer h.longer;
      one_below = inv.one_below;
      found = next ∙ inv.found;
      kept = λ k. h.kept (inv.kept k);
      levels = g.levels ∙ c.child.ensures.levels ∙ inv.levels;
      count_is = inv.count_is;
    }
