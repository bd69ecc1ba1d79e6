use Rattle.std.proofs.Common.{◌≡◌, inl, inr, ℕ, ◌<◌, ◌≤◌, true, false, sym, subst, arith}
use Rattle.std.proofs.lemmas.Bool.{cases_lt}
use Rattle.theory_addresses.specs.Address.{Address, depth}
use Rattle.rule_model.specs.Tiling.{tiling_of}
use Rattle.theory_walks.specs.Ancestors.{full}
use Rattle.lazy_walk.specs.Ancestors.{IsAncestor}
use Rattle.theory_walks.proofs.Ancestors.{full-later}
use Rattle.theory_walks.proofs.Walks.{GrowsTo-self, GrowsTo-then, at_depth-depth}
use Rattle.window_descent.specs.Climbing.{holds_at, IsTried}
use Rattle.window_descent.proofs.climb.climb.Goals as goal

nothing-below : (n k : ℕ) → n ≡ 0 → k < n → ⊥
nothing-below n k e h = omega arith

pub loop-ancestor-init : goal.loop-ancestor-init
loop-ancestor-init c =
    let t = tiling_of c.args.machine.now in
    let zero = c.base-ancestor.ensures.level in
    record {
      grown = GrowsTo-self t c.args.frame.now c.requires.frame;
      deep = omega (arith, zero);
      ancestor = c.base-ancestor.ensures.base t (full t c.args.frame.now);
      none_before = λ k l h. absurd (nothing-below c.base-ancestor.result.level k zero h);
    }

pub returns-in-Some-true-clause-first : goal.returns-in-Some-true-clause-first
returns-in-Some-true-clause-first c =
    let t = tiling_of c.args.machine.now in
    let f = c.args.frame.now in
    let inv = c.loop-ancestor.invariant in
    let level = c.loop-ancestor.ancestor.level in
    let same : full t c.loop-ancestor.frame ≡ full t f = full-later t f c.loop-ancestor.frame inv.grown in
    let tried : IsTried t (full t f) c.args.window.now c.args.from level true =
    subst (λ b. IsTried t (full t f) c.args.window.now c.args.from level b) c.in-Some-true.field-0-test
    (subst (λ (a : Address). IsTried t a c.args.window.now c.args.from level c.in-Some-true.field-0) same c.in-Some-true.ensures) in
    let held = tried.found (λ i. true) in
    let long : depth (full t f) ≡ 64 = at_depth-depth t f 64 (omega (arith, c.requires.frame.holds_base, c.requires.frame.at_most_64)) in
    record {
      not_below = held.0;
      within = omega (arith, long, inv.ancestor.at_most_64);
      holds = held.1;
      none_before = inv.none_before;
    }

pub loop-ancestor-preserved : goal.loop-ancestor-preserved
loop-ancestor-preserved c =
    let t = tiling_of c.args.machine.now in
    let f = c.args.frame.now in
    let w = c.args.window.now in
    let inv = c.loop-ancestor.invariant in
    let level = c.loop-ancestor.ancestor.level in
    let same : full t c.loop-ancestor.frame ≡ full t f = full-later t f c.loop-ancestor.frame inv.grown in
    let tried : IsTried t (full t f) w c.args.from level false =
    subst (λ b. IsTried t (full t f) w c.args.from level b) c.in-Some-false.field-0-test
    (subst (λ (a : Address). IsTried t a w c.args.from level c.in-Some-false.field-0) same c.in-Some-false.ensures) in
    let next = c.in-Ok.ensures.next.one_more in
    record {
      grown = GrowsTo-then t f c.loop-ancestor.frame c.next_out.new.self inv.grown c.next_out.ensures.frame;
      deep = omega (arith, next, c.in-Ok.ensures.next.grown);
      ancestor = subst (λ (a : Address). IsAncestor t a c.in-Ok.next) same c.in-Ok.ensures.next.ancestor;
      none_before = λ k l h. elim (cases_lt k level) [
        | inl lt ↦ inv.none_before k l lt
        | inr ge ↦
            let here : level ≡ k = omega (arith, ge, h, next) in
            subst (λ n. holds_at t (full t f) w n ≡ false) here (tried.not_found (λ i. false) (subst (λ n. c.args.from ≤ n) (sym here) l))
      ];
    }
