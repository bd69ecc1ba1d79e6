use Rattle.std.proofs.Common.{All, map, length, sym, ap, ◌∙◌, subst}
use Rattle.std.specs.List.Sorted.{IsPermutation}
use Rattle.std.proofs.lemmas.Result.{IfOk-weaker}
use Rattle.rule_model.specs.Tiling.{tiling_of}
use Rattle.tile_place.specs.Searched.{placed_in}
use Rattle.lazy_walk.specs.Standing.{Stands}
use Rattle.window_cover.specs.Covered.{placed_as}
use Rattle.window_cover.specs.InOrder.{AreInOrder, AreSorted}
use Rattle.window_cover.specs.Windows.{AreDrawn, CoverWindow}
use Rattle.window_cover.proofs.cover.Cover.finish.Goals as goal

pub returns-clause-lifted : goal.returns-clause-lifted
returns-clause-lifted c = IfOk-weaker c.listed.result _ _
    (λ tiles e. subst (IsPermutation (map (placed_as c.args.frame.now.digits) c.args.self.found)) (sym (e ∙ c.in_ok-tiles.ensures))
    c.in_ok-found.ensures.lifted) c.listed.ensures

pub returns-clause-sorted : goal.returns-clause-sorted
returns-clause-sorted c = IfOk-weaker c.listed.result _ _
    (λ tiles e. subst AreSorted (sym (e ∙ c.in_ok-tiles.ensures)) c.in_ok-found.ensures.sorted) c.listed.ensures

pub returns-clause-as_many : goal.returns-clause-as_many
returns-clause-as_many c = IfOk-weaker c.listed.result _ _
    (λ tiles e. ap length (e ∙ c.in_ok-tiles.ensures) ∙ c.in_ok-found.ensures.as_many) c.listed.ensures

pub returns-clause-drawn : goal.returns-clause-drawn
returns-clause-drawn c = IfOk-weaker c.listed.result _ _
    (λ tiles e r checked right. subst (λ ts. AreDrawn (tiling_of r) c.args.frame.now c.args.self.window
    (map (placed_in r.order) ts)) (sym (e ∙ c.in_ok-tiles.ensures)) (c.in_ok-found.ensures.drawn r checked right)) c.listed.ensures

pub returns-clause-covered : goal.returns-clause-covered
returns-clause-covered c = IfOk-weaker c.listed.result _ _
    (λ tiles e r checked right. subst (λ ts. CoverWindow (tiling_of r) c.args.frame.now c.args.self.window
    (map (placed_in r.order) ts)) (sym (e ∙ c.in_ok-tiles.ensures)) (c.in_ok-found.ensures.covered r checked right)) c.listed.ensures

pub returns-clause-stand : goal.returns-clause-stand
returns-clause-stand c = IfOk-weaker c.listed.result _ _
    (λ tiles e r checked right. subst (All (Stands (tiling_of r) c.args.frame.now)) (sym (e ∙ c.in_ok-tiles.ensures))
    (c.in_ok-found.ensures.stand r checked right)) c.listed.ensures

pub returns-clause-in_order : goal.returns-clause-in_order
returns-clause-in_order c = IfOk-weaker c.listed.result _ _
    (λ tiles e r checked right. subst AreInOrder (sym (e ∙ c.in_ok-tiles.ensures)) (c.in_ok-found.ensures.in_order r checked right))
    c.listed.ensures
