use Rattle.std.proofs.Common.{◌<◌, ◌≤◌, rules, tests}
use Rattle.std.proofs.lemmas.Iterator.{cases_from_any, YieldsList-from_slice}
use Rattle.tiling_c.specs.Pairing.{no_back}
use Rattle.tiling_c.proofs.Backs.{beside_if_any}
use Rattle.tiling_c.proofs.pairing.is_beside.Goals as goal

pub returns : goal.returns
returns c =
    let xs = c.args.backs.now in
    beside_if_any c.any.result xs
    (cases_from_any _ _ _ (λ x. x < no_back) (λ x. no_back ≤ x) c.any.ensures.ran
    (YieldsList-from_slice xs cc) (λ x q k. search (rules, tests)) (λ x q k. search (rules, tests)))
