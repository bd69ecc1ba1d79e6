use Rattle.std.proofs.Common.{All, List, subst, sym}
use Rattle.rule_model.specs.declared.rule.Rule.{Rule}
use Rattle.tile_place.specs.declared.placed_tile.PlacedTile.{PlacedTile}
use Rattle.window_cover.specs.Arranged.{AreArranged}
use Rattle.window_cover.specs.Checked.{IsCheckedRule}
use Rattle.window_cover.specs.Found.{Found}
use Rattle.window_cover.specs.Lifted.{CanBeLifted}
use Rattle.window_cover.specs.Runs.{seen}
use Rattle.window_cover.proofs.Arranged.{are-lifted, are-sorted, are-as_many, are-distinct, are-drawn, are-covered, are-stand, are-in_order}
use Rattle.window_cover.proofs.Finished.{HasLaws, laws_of}
use Rattle.window_cover.proofs.cover.Cover.arranged.Goals.{After-arranged}
use Rattle.window_cover.proofs.cover.Cover.arranged.Goals as goal

its : (c : After-arranged) (tiles : List PlacedTile) → AreArranged c.args.frame.now (seen c.in_ok-runs.runs) tiles
    → AreArranged c.args.frame.now c.args.self.found tiles
its c tiles a = subst (λ (xs : List Found). AreArranged c.args.frame.now xs tiles) c.in_ok-runs.ensures.same a

laws : (c : After-arranged) (m : Rule) → IsCheckedRule m → HasLaws m
laws c m checked = laws_of m checked c.end_laws.ensures.points c.end_laws.ensures.patch
    c.end_laws.ensures.known c.end_laws.ensures.open_test c.end_laws.ensures.finish c.grown_fits_law.ensures

pub arranged-requires-clause-no_deeper : goal.arranged-requires-clause-no_deeper
arranged-requires-clause-no_deeper c = subst (λ (xs : List Found). All (CanBeLifted c.args.frame.now) xs)
    (sym c.in_ok-runs.ensures.same) c.requires.no_deeper

pub returns-clause-lifted : goal.returns-clause-lifted
returns-clause-lifted c =
    are-lifted c.args.frame.now c.args.self c.requires.no_deeper
    c.arranged.result (its c c.arranged.result c.arranged.ensures)

pub returns-clause-sorted : goal.returns-clause-sorted
returns-clause-sorted c =
    are-sorted c.args.frame.now c.args.self c.requires.no_deeper
    c.arranged.result (its c c.arranged.result c.arranged.ensures)

pub returns-clause-as_many : goal.returns-clause-as_many
returns-clause-as_many c =
    are-as_many c.args.frame.now c.args.self
    c.requires.no_deeper c.arranged.result (its c c.arranged.result c.arranged.ensures)

pub returns-clause-drawn : goal.returns-clause-drawn
returns-clause-drawn c =
    λ r checked right. are-drawn c.args.frame.now c.args.self
    c.requires.no_deeper c.arranged.result (its c c.arranged.result c.arranged.ensures) (laws c) r checked right c.requires.none_open

pub returns-clause-covered : goal.returns-clause-covered
returns-clause-covered c =
    λ r checked right. are-covered c.args.frame.now c.args.self
    c.requires.no_deeper c.arranged.result (its c c.arranged.result c.arranged.ensures) (laws c) r checked right c.requires.none_open

pub returns-clause-stand : goal.returns-clause-stand
returns-clause-stand c =
    λ r checked right. are-stand c.args.frame.now c.args.self
    c.requires.no_deeper c.arranged.result (its c c.arranged.result c.arranged.ensures) (laws c) r checked right

pub returns-clause-in_order : goal.returns-clause-in_order
returns-clause-in_order c =
    λ r checked right. are-in_order c.args.frame.now c.args.self
    c.requires.no_deeper c.arranged.result (its c c.arranged.result c.arranged.ensures) (laws c) r checked right

pub returns-clause-distinct_in_order : goal.returns-clause-distinct_in_order
returns-clause-distinct_in_order c =
    are-distinct c.args.frame.now c.args.self
    c.requires.no_deeper c.arranged.result (its c c.arranged.result c.arranged.ensures)
