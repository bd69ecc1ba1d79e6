use Rattle.std.proofs.Common.{◌≡◌, ◌∙◌, ◌-◌, ◌++◌, ℕ, List, length, drop, replicate, ap, arith, length-drop}
use Rattle.std.proofs.lemmas.List.{take_all}
use Rattle.transducer_core.specs.Merged.{no_row}
use Rattle.transducer_core.proofs.Strides.{left_same}
use Rattle.transducer_core.proofs.spread.fill_kinds.Goals as goal

pub returns : goal.returns
returns c =
    let list = c.as_slice-blanks.result.now in
    let is : list ≡ replicate 256 no_row = c.as_slice-blanks.ensures in
    let count : length list ≡ 256 = ap length is in (
      drop c.args.count list,
      c.in_ok-extend_from_slice.ensures.items
          ∙ ap (λ (ys : List ℕ). c.args.list.now.items ++ ys)
          (take_all (length list - c.args.count) (drop c.args.count list) (omega (arith, length-drop c.args.count list))),
      omega (arith, count, length-drop c.args.count list, c.requires.short),
      λ i x at. left_same c.args.count 256 no_row i x (rw is at at),
    )
