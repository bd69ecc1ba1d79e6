use Rattle.std.proofs.Common.{◌≡◌, ◌≤◌, List, ◌++◌, map, length, refl, ap, ap₂, ◌∙◌, subst, arith}
use Rattle.std.specs.Result.{IsOk}
use Rattle.std.proofs.lemmas.List.Elements.{recursion_from_All}
use Rattle.theory_addresses.specs.Address as theory
use Rattle.tile_shape.specs.declared.step.Step.{Step}
use Rattle.tile_shape.specs.Views.{step_of}
use Rattle.window_cover.specs.Covered.{tiles_of}
use Rattle.window_cover.specs.Gathering.{gathered}
use Rattle.window_cover.specs.InKeyOrder.{numbers_in_order}
use Rattle.window_cover.specs.Lifted.{CanBeLifted}
use Rattle.window_cover.specs.Runs.{seen}
use Rattle.window_cover.proofs.Arranged.{IsArranged, arranged-fit}
use Rattle.window_cover.proofs.InKeyOrder.{numbers-ordered}
use Rattle.window_cover.proofs.Outcomes.{on_ok-is}
use Rattle.window_cover.proofs.RunTiles.{runs-keyed}
use Rattle.window_cover.proofs.runs.Runs.arranged.Goals.{After-try_extend_from_slice}
use Rattle.window_cover.proofs.runs.Runs.arranged.Goals as goal

abbrev above : After-try_extend_from_slice → List theory.Step
above c = map step_of c.try_extend_from_slice.new.self.items

same-digits : (c : After-try_extend_from_slice) → above c ≡ c.args.frame.now.digits
same-digits c =
    let held = c.digits.result.now.items in
    let few : length held ≤ 64 = subst (λ ds. length ds ≤ 64) c.as_slice.ensures.value c.as_slice.ensures.fits in
    let room : IsOk c.try_extend_from_slice.result = c.try_extend_from_slice.ensures.variant.1
    (omega (arith, few, ap length c.new-above.ensures, ap length c.as_slice.ensures.value)) in
    let put : c.try_extend_from_slice.new.self.items ≡ held = on_ok-is _ c.try_extend_from_slice.result room c.try_extend_from_slice.ensures.ok
    ∙ ap₂ (λ (xs ys : List Step). xs ++ ys) c.new-above.ensures c.as_slice.ensures.value in
    ap (map step_of) put ∙ c.digits.ensures

is_arranged : (c : After-try_extend_from_slice)
    → IsArranged c.args.frame.now (gathered c.args.self) (seen c.args.self) (numbers_in_order (seen c.args.self)) (above c)
is_arranged c = record {
  seen = refl;
  can_be_lifted = recursion_from_All (CanBeLifted c.args.frame.now) (seen c.args.self) c.requires.no_deeper;
  keyed = runs-keyed c.args.self c.requires.runs;
  ordered = numbers-ordered (seen c.args.self);
  same = same-digits c;
}

pub invariant_of-result : goal.invariant_of-result
invariant_of-result c =
    record {
      runs = c.requires.runs;
      covered = arranged-fit c.args.frame.now (gathered c.args.self) (seen c.args.self)
          (numbers_in_order (seen c.args.self)) (above c) (is_arranged c);
    }

pub returns : goal.returns
returns c =
    record {
      keyed = runs-keyed c.args.self c.requires.runs;
      numbers = numbers_in_order (seen c.args.self);
      ordered = numbers-ordered (seen c.args.self);
      are = ap (λ ds. tiles_of ds (seen c.args.self) (numbers_in_order (seen c.args.self))) (same-digits c);
    }
