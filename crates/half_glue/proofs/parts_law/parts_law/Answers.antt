use Rattle.half_glue.proofs.Parts.{all-within}
use Rattle.half_glue.proofs.parts_law.parts_law.Goals as goal

pub returns : goal.returns
returns c = λ f g tiles wholes is up given can wholes_of. all-within c.args.machine.now c.glue_laws.ensures f g is up tiles wholes given can wholes_of
