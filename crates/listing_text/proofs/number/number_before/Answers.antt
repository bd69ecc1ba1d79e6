use Rattle.std.proofs.Common.{arith}
use Rattle.listing_text.proofs.NumberOn.{number_on-first}
use Rattle.listing_text.proofs.number.number_before.Goals as goal

pub loop-place-init : goal.loop-place-init
loop-place-init c = record { small = omega arith; same = number_on-first c.args.mark c.args.most c.args.text.now }
