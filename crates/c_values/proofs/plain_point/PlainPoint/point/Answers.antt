use Rattle.std.proofs.Common.{◌≡◌, length, rules}
use Rattle.c_values.proofs.Windows.{given-is}
use Rattle.c_values.proofs.plain_point.PlainPoint.point.Goals as goal

pub returns-clause-point : goal.returns-clause-point
returns-clause-point c =
    let four : length c.reduce.result.c ≡ 4 = search rules in
    given-is c.args.order c.args.self.now.c c.reduce.result four c.reduce.ensures.in_order c.reduce.ensures.same_number
