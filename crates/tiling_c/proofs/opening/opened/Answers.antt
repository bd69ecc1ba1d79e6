use Rattle.std.proofs.Common.{ap}
use Rattle.std.proofs.lemmas.Result.{err_from_is_err_and}
use Rattle.std.specs.Prelude.{option_map}
use Rattle.rule_model.specs.Tiling.{tiling_of}
use Rattle.tiling_c.proofs.opening.opened.Goals as goal

pub returns-clause-opened : goal.returns-clause-opened
returns-clause-opened c = record {
  tiling = tiling_of c.in_ok-checked.checked;
  not_too_long = c.requires.at_most_a_mebibyte;
  accepted = c.in_ok-checked.ensures.accepted;
  machine = ap (option_map tiling_of) c.in_ok-slot_of.ensures;
}

pub returns-in_err-checked-clause-refused : goal.returns-in_err-checked-clause-refused
returns-in_err-checked-clause-refused c =
    let p = err_from_is_err_and c.from_residual.result c.from_residual.ensures.1 in
    rw (p.1, p.2) c.in_err-checked.ensures.refused
