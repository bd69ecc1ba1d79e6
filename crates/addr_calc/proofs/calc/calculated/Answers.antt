use Rattle.std.proofs.Common.{◌≡◌, ◌+◌, ◌<◌, ◌≤◌, List, ℕ, ◌∷◌, length, Option, Some, None, Ok, Bor, option_map, refl, sym, ap, ◌∙◌, subst, arith}
use Rattle.std.proofs.lemmas.Result.{err_from_is_err_and}
use Rattle.cyclo_points.specs.Text.{newline}
use Rattle.rule_model.specs.Tiling.{tiling_of}
use Rattle.addr_calc.specs.Bindings.{none_bound}
use Rattle.addr_calc.specs.Calculation.{AllFit}
use Rattle.tile_shape.specs.Words.{texts_between}
use Rattle.addr_calc.specs.Script.{ComesOf}
use Rattle.addr_calc.specs.Views.{parts_behind}
use Rattle.addr_calc.proofs.Names.{none_fit}
use Rattle.addr_calc.proofs.Scripts.{Comes, size_left, less_left, comes_first, comes_on, comes_fault, comes_last}
use Rattle.addr_calc.proofs.calc.calculated.Given.{Over}
use Rattle.addr_calc.proofs.calc.calculated.Goals.{After-cut}
use Rattle.addr_calc.proofs.calc.calculated.Goals as goal

-- what comes of the lines left, of which one is cut off
here : (g : Over) (c : After-cut g) → Comes (tiling_of c.args.machine.now) (texts_between newline c.args.script.now) c.loop-left.calculation
    (c.cut.result.0.now ∷ parts_behind newline (option_map (λ text. text.now) c.cut.result.1))
here g c = subst (Comes (tiling_of c.args.machine.now) (texts_between newline c.args.script.now) c.loop-left.calculation)
    (ap (λ left. parts_behind newline (option_map (λ text. text.now) left)) c.in-Some.is ∙ c.cut.ensures.parts)
    c.loop-left.invariant.comes

pub loop-left-init : goal.loop-left-init
loop-left-init g c =
    let t = tiling_of c.args.machine.now in
    let begun = c.in_ok-calculation.ensures in
    record {
      few = let e = begun.number in omega (arith, e);
      all_fit = subst (AllFit t) (sym begun.names) (none_fit t);
      compiled = c.new-pairs.ensures t;
      comes = comes_first t (texts_between newline c.args.script.now) c.in_ok-calculation.calculation begun.names begun.text begun.number;
    }

pub loop-left-preserved : goal.loop-left-preserved
loop-left-preserved g c =
    let ran = c.in_ok-run.ensures.ran in
    record {
      few =
          let few : c.loop-left.calculation.number + (length c.in-Some.text.now + 1) ≤ length c.args.script.now + 1 =
          subst (λ left. c.loop-left.calculation.number + size_left (option_map (λ text. text.now) left) ≤
          length c.args.script.now + 1) c.in-Some.is c.loop-left.invariant.few in
          let less = less_left c.in-Some.text.now c.cut.result.1 c.cut.ensures.shorter in
          let counted = ran.number in
          omega (arith, few, less, counted);
      all_fit = ran.all_fit c.loop-left.invariant.all_fit;
      compiled = c.in_ok-run.ensures.compiled;
      comes = comes_on (tiling_of c.args.machine.now) (texts_between newline c.args.script.now) c.loop-left.calculation
          c.run.new.self c.cut.result.0.now (parts_behind newline (option_map (λ text. text.now) c.cut.result.1))
          (here g (goal.at.loop-left-preserved g c).After-cut) ran;
    }

pub loop-left-smaller : goal.loop-left-smaller
loop-left-smaller g c =
    let less = less_left c.in-Some.text.now c.cut.result.1 c.cut.ensures.shorter in
    subst (λ left. size_left (option_map (λ text. text.now) c.cut.result.1) < size_left (option_map (λ text. text.now) left)) (sym c.in-Some.is) less

pub run-requires : goal.run-requires
run-requires g c = record {
  few =
      let few : c.loop-left.calculation.number + (length c.in-Some.text.now + 1) ≤ length c.args.script.now + 1 =
      subst (λ left. c.loop-left.calculation.number + size_left (option_map (λ text. text.now) left) ≤ length
      c.args.script.now + 1) c.in-Some.is c.loop-left.invariant.few in
      let short = c.requires.short in
      omega (arith, few, short);
  ready = record { all_fit = c.loop-left.invariant.all_fit; compiled = c.loop-left.invariant.compiled };
}

pub returns-in_err-run : goal.returns-in_err-run
returns-in_err-run g c =
    let p = err_from_is_err_and c.from_residual-in_err-run.result c.from_residual-in_err-run.ensures.1 in
    rw (p.1, p.2) (record {
      ran = tt;
      fault = comes_fault (tiling_of c.args.machine.now) (texts_between newline c.args.script.now)
          c.loop-left.calculation c.loop-left.calculation c.cut.result.0.now
          (parts_behind newline (option_map (λ text. text.now) c.cut.result.1))
          (here g (goal.at.returns-in_err-run g c).After-cut) c.in_err-run.field-0.0 c.in_err-run.ensures.fault;
    })

nothing_left : (left : Option (Bor (List ℕ))) → ((x : Bor (List ℕ)) → left ≡ Some x → ⊥) → left ≡ None
nothing_left None h = refl
nothing_left (Some x) h = absurd (h x refl)

pub returns : goal.returns
returns g c =
    let t = tiling_of c.args.machine.now in
    let all = texts_between newline c.args.script.now in
    let none = nothing_left c.loop-left.left c.in_default.not-Some in
    record {
      ran = subst (λ bytes. ComesOf t none_bound 1 all (Ok bytes)) (sym c.into_text.ensures)
          (comes_last t all c.loop-left.calculation (subst (Comes t all c.loop-left.calculation)
          (ap (λ left. parts_behind newline (option_map (λ text. text.now) left)) none)
          c.loop-left.invariant.comes));
      fault = tt;
    }
