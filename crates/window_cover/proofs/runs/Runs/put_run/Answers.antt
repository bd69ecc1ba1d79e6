use Rattle.std.proofs.Common.{◌≡◌, ◌-◌, ◌++◌, Some, List, [], IfSome, take, take_all, drop, length, map, sym, ap, ◌∙◌, subst, arith, length-drop}
use Rattle.std.proofs.lemmas.List.{append-nil}
use Rattle.std.proofs.lemmas.Result.{IfOk-weaker}
use Rattle.tile_shape.specs.declared.step.Step.{Step}
use Rattle.tile_shape.specs.Views.{step_of}
use Rattle.window_cover.specs.Blocks.{AreBlocks, IsBlockOf}
use Rattle.window_cover.specs.Found.{Found, CoverValue}
use Rattle.window_cover.specs.Runs.{run_tile, leaves_in}
use Rattle.window_cover.specs.Windows.{IsWindow}
use Rattle.window_cover.proofs.Gathered.{can-run, run-descended}
use Rattle.window_cover.proofs.RunTiles.{later-all, later-map}
use Rattle.window_cover.proofs.runs.Runs.put_run.Goals as goal

pub push-requires-clause-runs : goal.push-requires-clause-runs
push-requires-clause-runs c =
    let r = c.args.self.now in
    let its = subst (λ x. IfSome x (IsBlockOf c.args.machine.now c.args.rows.now c.block.new.rows r.leaves
    c.block.new.leaves c.block.new.self c.args.level
    c.args.part.now.kind c.args.part.now.motion.turn)) c.in-Some.is c.in_ok-block.ensures in
    record {
      tiles = later-all r.leaves.found its.longer.more c.block.new.leaves.found r.runs.items [] r.runs.items
          r.spans.items [] r.spans.items its.longer.is
          (sym (append-nil r.runs.items)) (sym (append-nil r.spans.items)) r.tiles.items c.requires.state.runs.tiles;
      few = c.requires.state.runs.few;
    }

pub push-requires-clause-leaves : goal.push-requires-clause-leaves
push-requires-clause-leaves c =
    let m = c.args.machine.now in
    let r = c.args.self.now in
    let its = subst (λ x. IfSome x (IsBlockOf m c.args.rows.now c.block.new.rows r.leaves c.block.new.leaves c.block.new.self c.args.level
    c.args.part.now.kind c.args.part.now.motion.turn)) c.in-Some.is c.in_ok-block.ensures in
    let long = length-drop c.args.level c.args.path.now in
    let digits : List Step = take (length c.args.path.now - c.args.level) (drop c.args.level c.args.path.now) in
    let own : digits ≡ drop c.args.level c.args.path.now = take_all (length c.args.path.now - c.args.level)
    (drop c.args.level c.args.path.now) (omega (arith, long)) in
    let same : length digits ≡ length (drop c.args.level c.args.path.now) = ap (λ (ds : List Step). length ds) own in
    can-run m c.args.level c.args.part.now c.requires.part c.block.new.leaves.found c.in-Some.block its.block (c.is_far.ensures c.if-is_far.false)
    its.blocks.kept c.checked-usable.ensures.usable.numbered.at_most_16_kinds digits
    (omega (arith, long, same, c.requires.on_path, c.requires.at_most_64))

pub returns : goal.returns
returns c =
    let m = c.args.machine.now in
    let r = c.args.self.now in
    let s = c.push.new.self in
    let level = c.args.level in
    let part = c.args.part.now in
    let its = subst (λ x. IfSome x (IsBlockOf m c.args.rows.now c.block.new.rows r.leaves c.block.new.leaves
    c.block.new.self level part.kind part.motion.turn))
    c.in-Some.is c.in_ok-block.ensures in
    let long = length-drop level c.args.path.now in
    let digits : List Step = take (length c.args.path.now - level) (drop level c.args.path.now) in
    let own : digits ≡ drop level c.args.path.now = take_all (length c.args.path.now - level) (drop level c.args.path.now) (omega (arith, long)) in
    let same = later-map r.leaves.found its.longer.more c.block.new.leaves.found r.runs.items [] r.runs.items
    r.spans.items [] r.spans.items its.longer.is
    (sym (append-nil r.runs.items)) (sym (append-nil r.spans.items)) r.tiles.items c.requires.state.runs.tiles in
    let window = ap (λ (v : CoverValue). v.window) c.push.ensures.same_leaves ∙ its.same_window in
    IfOk-weaker c.push.result _ _
    (λ done h d. record {
      state = record {
        runs = (h d).runs;
        rows = its.rows;
        blocks = subst (λ (v : CoverValue). AreBlocks m v.found c.block.new.self) (sym c.push.ensures.same_leaves) its.blocks;
        window = subst IsWindow (sym window) c.requires.state.window;
      };
      levels = its.levels;
      descended = run-descended m level part c.requires.part c.block.new.leaves.found c.in-Some.block its.block (c.is_far.ensures c.if-is_far.false)
          its.blocks.kept r s c.args.path.now digits own window
          ((h d).tiles ∙ ap (λ (xs : List Found). xs
          ++ map (run_tile (Some part.motion.shift) (map step_of digits))
          (leaves_in c.in-Some.block c.block.new.leaves.found)) same);
    }) c.push.ensures.pushed
