use Rattle.std.proofs.Common.{◌≡◌, ◌-◌, ℕ, length, map, drop, arith, subst, ap, []}
use Rattle.tile_shape.specs.Views.{address_of, step_of}
use Rattle.theory_addresses.specs.Coherent.{IsCoherent}
use Rattle.theory_addresses.proofs.Chains.{chain_of}
use Rattle.pair_machine.specs.Kept.{ArePairsKept}
use Rattle.pair_machine.specs.Reading.{pairs_read}
use Rattle.pair_machine.proofs.Ending.{nothing_kept, same_read, same_views, ends}
use Rattle.pair_machine.proofs.OneLevel.{AtLevel, at_level, kept_below, same_below}
use Rattle.pair_machine.proofs.machine.PairMachine.read.Goals as goal

pub loop-level-init : goal.loop-level-init
loop-level-init c =
    let own = c.as_slice-xs.ensures.value in
    let other = c.as_slice-ys.ensures.value in
    let same : drop c.first_level-level.result (map step_of c.args.a.now.digits.items) ≡ drop
    c.first_level-level.result (map step_of c.args.b.now.digits.items) =
    rw (← own, ← other) (same_views c.as_slice-xs.result.now c.as_slice-ys.result.now
    c.first_level-level.result c.first_level-level.ensures.same_above) in
    let none : pairs_read c.args.self.now (drop c.first_level-level.result
    (map step_of c.args.a.now.digits.items))
    (drop c.first_level-level.result (map step_of c.args.b.now.digits.items)) ≡ [] =
    rw (← own, ← other) c.first_level-level.ensures.none_above in
    record {
      within = omega (arith, ap length own, c.first_level-level.ensures.within);
      kept = nothing_kept c.none-partners.result _ c.none-partners.ensures none;
      same = same_read _ _ same;
    }

pub read_digits-partners-requires : goal.read_digits-partners-requires
read_digits-partners-requires c =
    let coherent : IsCoherent c.args.self.now = rw (← c.self.view_is) c.self.invariant.coherent in
    let h : AtLevel c.args.self.now c.args.a.now.digits.items c.args.b.now.digits.items
    c.as_slice-xs.result.now c.as_slice-ys.result.now c.loop-level.level c.also-fresh.result
    c.loop-level.partners =
    at_level c.args.self.now c.args.a.now.kind c.args.b.now.kind c.args.a.now.digits.items
    c.args.b.now.digits.items c.as_slice-xs.result.now c.as_slice-ys.result.now c.loop-level.level
    c.loop-level.same c.also-fresh.result c.loop-level.partners coherent
    (chain_of c.args.self.now (address_of c.args.a.now) c.requires.fits_a)
    (chain_of c.args.self.now (address_of c.args.b.now) c.requires.fits_b)
    c.requires.one_depth c.as_slice-xs.ensures.value c.as_slice-ys.ensures.value c.loop-level-test.true
    c.loop-level.invariant.within c.loop-level.invariant.same c.also-fresh.ensures
    c.loop-level.invariant.kept in
    record { child = h.child; nodes = h.readable_here.nodes; functional = h.readable_here.functional }

pub loop-level-preserved : goal.loop-level-preserved
loop-level-preserved c =
    let coherent : IsCoherent c.args.self.now = rw (← c.self.view_is) c.self.invariant.coherent in
    let h : AtLevel c.args.self.now c.args.a.now.digits.items c.args.b.now.digits.items
    c.as_slice-xs.result.now c.as_slice-ys.result.now c.loop-level.level c.also-fresh.result
    c.loop-level.partners =
    at_level c.args.self.now c.args.a.now.kind c.args.b.now.kind c.args.a.now.digits.items
    c.args.b.now.digits.items c.as_slice-xs.result.now c.as_slice-ys.result.now c.loop-level.level
    c.loop-level.same c.also-fresh.result c.loop-level.partners coherent
    (chain_of c.args.self.now (address_of c.args.a.now) c.requires.fits_a)
    (chain_of c.args.self.now (address_of c.args.b.now) c.requires.fits_b)
    c.requires.one_depth c.as_slice-xs.ensures.value c.as_slice-ys.ensures.value c.loop-level-test.true
    c.loop-level.invariant.within c.loop-level.invariant.same c.also-fresh.ensures
    c.loop-level.invariant.kept in
    record {
      within = omega (arith, c.loop-level.invariant.within);
      kept = kept_below c.args.self.now c.args.a.now.digits.items c.args.b.now.digits.items
          c.as_slice-xs.result.now c.as_slice-ys.result.now c.loop-level.level c.also-fresh.result
          c.loop-level.partners
          c.read_digits-partners.result h c.read_digits-partners.ensures;
      same = same_below c.args.self.now c.args.a.now.digits.items c.args.b.now.digits.items
          c.as_slice-xs.result.now c.as_slice-ys.result.now c.loop-level.level c.loop-level.same
          c.also-fresh.result c.also-same.result
          c.loop-level.partners h c.loop-level.invariant.same c.also-fresh.ensures c.also-same.ensures;
    }

pub returns-then-end_here : goal.returns-then-end_here
returns-then-end_here c =
    let coherent : IsCoherent c.args.self.now = rw (← c.self.view_is) c.self.invariant.coherent in
    let h : AtLevel c.args.self.now c.args.a.now.digits.items c.args.b.now.digits.items
    c.as_slice-xs.result.now c.as_slice-ys.result.now c.loop-level.level c.also-fresh.result
    c.loop-level.partners =
    at_level c.args.self.now c.args.a.now.kind c.args.b.now.kind c.args.a.now.digits.items
    c.args.b.now.digits.items c.as_slice-xs.result.now c.as_slice-ys.result.now c.loop-level.level
    c.loop-level.same c.also-fresh.result c.loop-level.partners coherent
    (chain_of c.args.self.now (address_of c.args.a.now) c.requires.fits_a)
    (chain_of c.args.self.now (address_of c.args.b.now) c.requires.fits_b)
    c.requires.one_depth c.as_slice-xs.ensures.value c.as_slice-ys.ensures.value c.loop-level-test.true
    c.loop-level.invariant.within c.loop-level.invariant.same c.also-fresh.ensures
    c.loop-level.invariant.kept in
    let kept = kept_below c.args.self.now c.args.a.now.digits.items c.args.b.now.digits.items
    c.as_slice-xs.result.now c.as_slice-ys.result.now c.loop-level.level c.also-fresh.result
    c.loop-level.partners
    c.read_digits-partners.result h c.read_digits-partners.ensures in
    let same = same_below c.args.self.now c.args.a.now.digits.items c.args.b.now.digits.items
    c.as_slice-xs.result.now c.as_slice-ys.result.now c.loop-level.level c.loop-level.same
    c.also-fresh.result c.also-same.result
    c.loop-level.partners h c.loop-level.invariant.same c.also-fresh.ensures c.also-same.ensures in
    let end = c.end_here.ensures c.if-end_here.true in
    ends c.args.self.now (map step_of c.args.a.now.digits.items) (map step_of c.args.b.now.digits.items)
    (c.loop-level.level - 1) c.also-same.result c.read_digits-partners.result end.1 end.0 same kept

pub returns : goal.returns
returns c =
    let none : c.loop-level.level ≡ 0 = omega arith in
    subst (λ (n : ℕ). ArePairsKept c.loop-level.partners
    (pairs_read c.args.self.now (drop n (map step_of c.args.a.now.digits.items))
    (drop n (map step_of c.args.b.now.digits.items)))) none c.loop-level.invariant.kept
