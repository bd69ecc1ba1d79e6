use Rattle.std.proofs.Common.{ap}
use Rattle.std.specs.Map.{lookup}
use Rattle.window_cover.specs.Border.{have_same_ends}
use Rattle.window_cover.proofs.Borders.{no-border}
use Rattle.window_cover.proofs.border.Border.new.Goals as goal

pub invariant_of-result : goal.invariant_of-result
invariant_of-result c = let e = c.new-2.ensures.empty in let d = c.new-2.ensures.len in no-border
    c.new.ensures.items (λ q. ap (lookup (have_same_ends q)) e) d
