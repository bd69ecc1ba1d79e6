use Rattle.std.proofs.Common.{ap}
use Rattle.window_cover.specs.Found.{CoverValue}
use Rattle.window_cover.proofs.cover.Cover.closed.Goals as goal

pub returns : goal.returns
returns c = ap (λ (v : CoverValue). v.found) c.self.view_is
