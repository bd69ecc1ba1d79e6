use Rattle.std.proofs.Common.{◌≡◌, ◌∷◌, [], List, length, refl, sym, ◌∙◌}
use Rattle.std.proofs.lemmas.List.Elements.{All-from_recursion}
use Rattle.theory_addresses.proofs.Lists.{AllByRecursion-each}
use Rattle.rule_model.specs.Tiling.{tiling_of}
use Rattle.window_cover.specs.Found.{BorderEdge}
use Rattle.window_cover.specs.Lifted.{CanBeLifted}
use Rattle.window_cover.specs.Right.{IsFound}
use Rattle.trial_tiles.proofs.steps.finished.Goals as goal

-- where no edge is counted, none is open
none_open : (border : List BorderEdge) → length border ≡ 0 → border ≡ []
none_open [] e = refl
none_open (o ∷ os) e = absurd (cc e)

pub finish-requires-clause-none_open : goal.finish-requires-clause-none_open
finish-requires-clause-none_open c = none_open c.args.cover.border (sym c.open_edges.ensures ∙ c.if-open_edges-ne0.false)

pub finish-requires-clause-no_deeper : goal.finish-requires-clause-no_deeper
finish-requires-clause-no_deeper c =
    let f = c.args.frame.now in
    let found = c.args.cover.found in
    All-from_recursion (CanBeLifted f) found (AllByRecursion-each (IsFound (tiling_of c.args.machine.now) f)
    (CanBeLifted f) found (λ x h. h.of_frame.no_deeper) c.requires.right.found)
