use Rattle.std.proofs.Common.{length, rules}
use Rattle.c_values.proofs.Rules.{padded_copied}
use Rattle.c_values.proofs.numbers.put_numbers.Goals as goal

pub returns : goal.returns
returns c = padded_copied (length c.args.out.now) 0 c.args.numbers.now c.copy_from_slice.new.self c.fill.new.self
    c.copy_from_slice.ensures.after (search rules)
