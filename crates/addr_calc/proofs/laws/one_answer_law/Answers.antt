use Rattle.cyclo_points.specs.Text.{newline}
use Rattle.addr_calc.specs.Bindings.{none_bound}
use Rattle.tile_shape.specs.Words.{texts_between}
use Rattle.addr_calc.proofs.OneAnswer.{comes_once}
use Rattle.addr_calc.proofs.laws.one_answer_law.Goals as goal

pub returns : goal.returns
returns c = λ t script one other usable h k. comes_once c.text_law.ensures c.short_numbers_law.ensures t
    usable none_bound 1 (texts_between newline script) one other h k
