use Rattle.theory_frames.proofs.Grown.{grown-split}
use Rattle.theory_frames.proofs.laws.growth_law.Goals as goal

pub returns : goal.returns
returns c = grown-split
