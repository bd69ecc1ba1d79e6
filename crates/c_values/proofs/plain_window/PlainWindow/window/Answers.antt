use Rattle.std.proofs.Common.{◌≡◌, length, rules}
use Rattle.c_values.proofs.Windows.{given-is, window-is}
use Rattle.c_values.proofs.plain_window.PlainWindow.window.Goals as goal

pub returns-clause-window : goal.returns-clause-window
returns-clause-window c =
    let four : length c.reduce.result.c ≡ 4 = search rules in
    window-is c.args.order c.args.self.now c.reduce.result
    (given-is c.args.order c.args.self.now.at c.reduce.result four c.reduce.ensures.in_order c.reduce.ensures.same_number)
