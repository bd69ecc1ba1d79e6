use Rattle.theory_windows.proofs.Level.{level_tells, lifts_tell}
use Rattle.theory_windows.proofs.frame_laws.level_law.Goals as goal

pub returns-clause-level : goal.returns-clause-level
returns-clause-level c = level_tells

pub returns-clause-lifts : goal.returns-clause-lifts
returns-clause-lifts c = lifts_tell
