use Rattle.std.proofs.Common.{◌≡◌, ◌^◌, false, refl, sym, ◌∙◌, subst, arith}
use Rattle.theory_addresses.specs.Search.{some_below}
use Rattle.cyclo_points.specs.Order.{points_of}
use Rattle.cyclo_points.specs.Point.{point_in}
use Rattle.cyclo_points.proofs.Within.{point_wider}
use Rattle.dissect_check.proofs.Powers.{is_refused_at, refused-at, power-next, one-in, one-of}
use Rattle.theory_addresses.proofs.BoolLoops.{some_below-more, some_below-found}
use Rattle.dissect_check.proofs.factor.is_refused_by.Goals as goal

pub loop-exponent-init : goal.loop-exponent-init
loop-exponent-init c = record { none_refused = refl; value = one-in c.args.order; in_order = one-of c.args.order }

pub loop-exponent-preserved : goal.loop-exponent-preserved
loop-exponent-preserved c =
    let o = c.args.order in
    let factor = c.args.factor.now in
    let here = c.loop-exponent in
    let tested = refused-at o factor here.power here._exponent c.refused.result here.invariant.value
    (c.refused.ensures.in_order o here.invariant.in_order) in
    record {
      none_refused = some_below-more (is_refused_at o factor) here._exponent here.invariant.none_refused (tested ∙ c.if-refused.false);
      value = c.mul-power.ensures.product ∙ power-next (points_of o).ring c.points_law.ensures.of_ring
          (point_in o factor) (point_in o here.power) here._exponent here.invariant.value;
      in_order = c.mul-power.ensures.in_order;
    }

pub mul-power-requires : goal.mul-power-requires
mul-power-requires c = record {
  p_within = point_wider (2 ^ 24) (2 ^ 32) c.loop-exponent.power (omega arith) (c.refused.ensures.within c.if-refused.false);
  q_within = point_wider 64 (2 ^ 16) c.args.factor.now (omega arith) c.requires.small.within;
}

pub returns-then-refused : goal.returns-then-refused
returns-then-refused c =
    let o = c.args.order in
    let factor = c.args.factor.now in
    let here = c.loop-exponent in
    let tested = refused-at o factor here.power here._exponent c.refused.result here.invariant.value
    (c.refused.ensures.in_order o here.invariant.in_order) in
    sym (some_below-found (is_refused_at o factor) here._exponent c.args.powers (tested ∙ c.if-refused.true) (omega arith))

pub returns : goal.returns
returns c =
    let at_end : c.loop-exponent._exponent ≡ c.args.powers = omega arith in
    subst (λ n. false ≡ some_below n (is_refused_at c.args.order c.args.factor.now)) at_end (sym c.loop-exponent.invariant.none_refused)
