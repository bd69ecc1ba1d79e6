use Rattle.tile_shape.specs.UsesInOrder.{uses_in_order}
use Rattle.seeded_growth.specs.Words.{word}
use Rattle.seeded_growth.proofs.Onward.{goes_on}
use Rattle.seeded_growth.proofs.laws.next_digit_law.Goals as goal

pub returns : goal.returns
returns c = λ children base start n. goes_on (uses_in_order children) (word start) base n
