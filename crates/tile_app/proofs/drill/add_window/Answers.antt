use Rattle.std.proofs.Common.{inl, inr, sym, ap, subst, arith}
use Rattle.rule_model.specs.Tiling.{tiling_of}
use Rattle.window_cover.specs.declared.cover_fault.CoverFault.TheVariants.{NoMemory}
use Rattle.window_cover.specs.Windows.{IsLeastForWindow}
use Rattle.tile_app.specs.declared.summary.Summary.{Summary}
use Rattle.tile_app.specs.Drill.{IsCovered}
use Rattle.tile_app.proofs.Covering.{at_most_limit, fault-or_ok}
use Rattle.tile_app.proofs.drill.add_window.Goals as goal

-- ---- a window that is covered
pub overflow_cast-count : goal.overflow_cast-count
overflow_cast-count c =
    let x = c.in-Ok.ensures in
    let few = at_most_limit
    (tiling_of c.args.machine.now) c.args.frame.now c.find_tiles.new.frame c.args.window.now
    c.requires.frame x.ends.frame x.found.within x.found.least c.in-Ok.tiles x.found.drawn in
    omega (arith, few, c.len-count.ensures)

pub add-requires : goal.add-requires
add-requires c =
    let x = c.in-Ok.ensures in
    let few = at_most_limit
    (tiling_of c.args.machine.now) c.args.frame.now c.find_tiles.new.frame c.args.window.now
    c.requires.frame x.ends.frame x.found.within x.found.least c.in-Ok.tiles x.found.drawn in
    record { few_tiles = omega (arith, few, c.len-count.ensures) }

pub returns-in-Ok-clause-adds : goal.returns-in-Ok-clause-adds
returns-in-Ok-clause-adds c =
    let t = tiling_of c.args.machine.now in
    let f = c.args.frame.now in
    let g = c.find_tiles.new.frame in
    let x = c.in-Ok.ensures in
    let count = c.len-count in
    let depth = c.depth in
    let covered : IsCovered t f c.args.window.now count.result depth.result = record {
      within = x.found.within;
      later = g;
      grown = x.ends.frame;
      its_depth = depth.ensures.digits;
      least = subst (IsLeastForWindow t f c.args.window.now) (sym depth.ensures.digits) x.found.least;
      tiles = c.in-Ok.tiles;
      stand = x.found.stand;
      drawn = x.found.drawn;
      in_order = x.found.in_order;
      its_count = count.ensures;
    } in
    inl (count.result, depth.result, covered, c.add.ensures)

pub returns-in-Ok-clause-most_tiles_more : goal.returns-in-Ok-clause-most_tiles_more
returns-in-Ok-clause-most_tiles_more c =
    let x = c.in-Ok.ensures in
    let few = at_most_limit
    (tiling_of c.args.machine.now) c.args.frame.now c.find_tiles.new.frame c.args.window.now
    c.requires.frame x.ends.frame x.found.within x.found.least c.in-Ok.tiles x.found.drawn in
    omega (arith, few, c.len-count.ensures, ap (λ (s : Summary). s.tiles) c.add.ensures)

pub returns-in-Ok-clause-one_refused_more : goal.returns-in-Ok-clause-one_refused_more
returns-in-Ok-clause-one_refused_more c = omega (arith, ap (λ (s : Summary). s.refused) c.add.ensures)

-- ---- a window that is refused: want of memory apart, it isn't within its limits
pub returns-in_default : goal.returns-in_default
returns-in_default c =
    let other = c.in_default.not-NoMemory in
    record {
      adds = inr (
        λ h. absurd (other
            (fault-or_ok NoMemory c.find_tiles.result c.in-Err.fault c.in-Err.is (c.find_tiles.ensures.ends.answered h))),
        c.add_refused.ensures,
      );
      most_tiles_more = omega (arith, ap (λ (s : Summary). s.tiles) c.add_refused.ensures);
      one_refused_more = omega (arith, ap (λ (s : Summary). s.refused) c.add_refused.ensures);
    }
