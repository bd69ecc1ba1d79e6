use Rattle.std.proofs.Common.{◌≡◌, List, length, ap, ◌∙◌, arith, length-append}
use Rattle.window_cover.specs.Runs.{run_tiles}
use Rattle.window_cover.specs.declared.run_tile.RunTile.{RunTile}
use Rattle.window_cover.proofs.RunTiles.{pushed-all, pushed-seen, length-run_tiles}
use Rattle.window_cover.proofs.runs.Runs.push.Goals as goal

pub overflow_add-len : goal.overflow_add-len
overflow_add-len c =
    let held = c.args.self.now.tiles.ok in
    let few = c.requires.runs.few in
    omega (arith, held, few, c.len.ensures)

pub overflow_cast-digits : goal.overflow_cast-digits
overflow_cast-digits c = let few = c.requires.leaves.at_most_64 in omega (arith, few)

pub overflow_cast-number : goal.overflow_cast-number
overflow_cast-number c = omega (arith, c.if-number-ge-MOST_TILES.false)

pub push_tiles-requires : goal.push_tiles-requires
push_tiles-requires c = let few = c.requires.leaves.few in omega (arith, few)

pub returns-clause-pushed : goal.returns-clause-pushed
returns-clause-pushed c = λ _.
    let r = c.args.self.now in
    let held_runs = r.runs.ok in
    let held_spans = r.spans.ok in
    let held_tiles = r.tiles.ok in
    let number : c.len-number.result ≡ length r.runs.items = omega (arith, held_runs, c.len-number.ensures) in
    let first : c.len-first.result ≡ length r.spans.items = omega (arith, held_spans, c.len-first.ensures) in
    let long = ap (λ (ts : List RunTile). length ts) c.in_ok-push_tiles.ensures
    ∙ length-append r.tiles.items (run_tiles c.len-number.result c.args.block.now.first
    c.args.block.now.count) in
    let own = length-run_tiles c.len-number.result c.args.block.now.first c.args.block.now.count in
    record {
      runs = record {
        tiles = pushed-all r.leaves.found r.runs.items c.push.new.self.items r.spans.items c.extend_from_slice.new.self.items r.tiles.items
            c.push_tiles.new.tiles.items c.args.shift c.args.digits.now c.args.block.now c.len-number.result c.len-first.result
            c.in_ok-push.ensures.items c.in_ok-extend_from_slice.ensures.items number first
            c.in_ok-push_tiles.ensures c.requires.runs.tiles c.requires.leaves;
        few = omega (arith, long, own, held_tiles, c.len.ensures, c.if-len-block-gt-MOST_TILES.false);
      };
      tiles = pushed-seen r.leaves.found r.runs.items c.push.new.self.items r.spans.items c.extend_from_slice.new.self.items r.tiles.items
          c.push_tiles.new.tiles.items c.args.shift c.args.digits.now c.args.block.now c.len-number.result c.len-first.result
          c.in_ok-push.ensures.items c.in_ok-extend_from_slice.ensures.items number first
          c.in_ok-push_tiles.ensures c.requires.runs.tiles c.requires.leaves;
    }
