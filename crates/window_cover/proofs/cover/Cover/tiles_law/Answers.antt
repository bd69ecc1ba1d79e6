use Rattle.std.proofs.Common.{◌≤◌, length, subst}
use Rattle.std.specs.List.{AllByRecursion}
use Rattle.window_cover.specs.Found.{Found, CoverValue}
use Rattle.window_cover.specs.Keys.{HasKey}
use Rattle.window_cover.proofs.Keeping.{all-found, short-found}
use Rattle.window_cover.proofs.cover.Cover.tiles_law.Goals as goal

pub returns-clause-keyed : goal.returns-clause-keyed
returns-clause-keyed c = subst (λ (v : CoverValue). AllByRecursion HasKey v.found) c.self.view_is
    (all-found c.self.inside.digits.items c.self.inside.found.items c.self.invariant)

pub returns-clause-short : goal.returns-clause-short
returns-clause-short c = subst (λ (v : CoverValue). AllByRecursion (λ (x : Found). length x.digits ≤ 64) v.found) c.self.view_is
    (short-found c.self.inside.digits.items c.self.inside.found.items c.self.invariant.spans)
