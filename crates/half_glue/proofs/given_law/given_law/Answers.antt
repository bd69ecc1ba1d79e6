use Rattle.half_glue.proofs.Halves.{stands-given}
use Rattle.half_glue.proofs.given_law.given_law.Goals as goal

pub returns : goal.returns
returns c = stands-given
