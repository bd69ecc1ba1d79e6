use Rattle.std.proofs.Common.{◌+◌, ◌<◌, List, IfSome, length, refl, sym, subst, arith}
use Rattle.std.proofs.lemmas.List.{get_or_read_under}
use Rattle.window_descent.specs.declared.part.Part.{Part}
use Rattle.window_descent.specs.Parts.{IsPartAt}
use Rattle.window_descent.specs.Rows.{IsChildRow, IsShifted, scale_of, only_turned, no_part}
use Rattle.window_descent.proofs.RowsMade.{moved-part, if_some-each}
use Rattle.window_descent.proofs.rows.Rows.child.Goals.{After-index-child}
use Rattle.window_descent.proofs.rows.Rows.child.Goals as goal

-- the child of the row
its_part : (c : After-index-child) → IsPartAt c.args.machine.now c.args.part.now.kind c.args.number (scale_of c.args.self.now c.args.level)
    (only_turned c.args.part.now.motion.turn) c.index-child.result.now
its_part c =
    let m = c.args.machine.now in
    let p = c.args.part.now in
    let scale = scale_of c.args.self.now c.args.level in
    let children : List Part = c.first.new.self.children.items in
    let row : IsChildRow m scale p.kind p.motion.turn children c.in-Some.first = subst
    (λ x. IfSome x (IsChildRow m scale p.kind p.motion.turn children)) c.in-Some.is c.in_ok-first.ensures.row in
    let fits = row.fits in
    let below : c.in-Some.first + c.args.number < length children = omega (arith, fits, c.requires.exists) in
    let read = get_or_read_under children (c.in-Some.first + c.args.number)
    (length children) c.index-child.result.now no_part c.index-child.ensures below refl in
    subst (IsPartAt m p.kind c.args.number scale (only_turned p.motion.turn)) (sym read) (row.each c.args.number c.requires.exists)

pub moved-requires-clause-child_within : goal.moved-requires-clause-child_within
moved-requires-clause-child_within c = (its_part (goal.at.moved-requires-clause-child_within c).After-index-child).is_part.within

pub returns-in-Some-clause-child : goal.returns-in-Some-clause-child
returns-in-Some-clause-child c =
    let m = c.args.machine.now in
    let p = c.args.part.now in
    let scale = scale_of c.args.self.now c.args.level in
    let child = c.index-child.result.now in
    let part = its_part (goal.at.returns-in-Some-clause-child c).After-index-child in
    if_some-each (IsShifted child p.motion.shift) (IsPartAt m p.kind c.args.number scale p.motion)
    (λ q h. moved-part m p.kind c.args.number scale p.motion child q part c.requires.part.in_order h) c.moved.result c.moved.ensures.moved
