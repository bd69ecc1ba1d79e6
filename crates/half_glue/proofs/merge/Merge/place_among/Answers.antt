use Rattle.std.proofs.Common.{◌≡◌, ℕ, [], ◌+◌, ◌-◌, ◌/◌, ◌<◌, ◌≤◌, length, ◌∙◌, arith}
use Rattle.tile_place.specs.Keys.{order_numbers}
use Rattle.half_glue.specs.Keys.{no_pair}
use Rattle.half_glue.proofs.Merging.{rising-order}
use Rattle.half_glue.proofs.PlaceAmong.{stands, all-parted, read-at, higher, lower, there, not-there}
use Rattle.half_glue.proofs.merge.Merge.place_among.Goals.{After-compared}
use Rattle.half_glue.proofs.merge.Merge.place_among.Goals as goal

pub loop-first-init : goal.loop-first-init
loop-first-init c =
    let s = c.args.self.now in
    all-parted s.halves.tiles.now s.inner.now c.args.from (order_numbers c.args.motion.now c.args.kind) c.requires.within

-- ---- the pair in the middle
abbrev middle : After-compared → ℕ
middle c = c.loop-first.first + (c.loop-first.end - c.loop-first.first) / 2

at-least : (c : After-compared) → c.loop-first.first ≤ middle c
at-least c = omega arith

below : (c : After-compared) → middle c < c.loop-first.end
below c = omega (arith, c.loop-first-test.true)

-- it stands as it was compared
seen : (c : After-compared) → stands c.args.self.now.halves.tiles.now c.args.self.now.inner.now c.args.from
    (order_numbers c.args.motion.now c.args.kind) (middle c) ≡ c.compared.result
seen c =
    let within = c.loop-first.invariant.within in
    let least = below c in
    let inside : middle c < length c.args.self.now.inner.now = omega (arith, least, within) in
    read-at c.args.self.now.halves.tiles.now c.args.self.now.inner.now c.args.from (order_numbers c.args.motion.now c.args.kind)
    c.compared.result (middle c) _ inside (c.requires.lists.rising.below (middle c) no_pair inside) c.compared.ensures

pub loop-first-preserved-in-Less : goal.loop-first-preserved-in-Less
loop-first-preserved-in-Less c =
    let p = (goal.at.loop-first-preserved-in-Less c).After-compared in
    higher c.args.self.now.halves.tiles.now c.args.self.now.inner.now c.args.from (order_numbers c.args.motion.now c.args.kind)
    (rising-order c.args.self.now.halves.tiles.now [] c.args.self.now.inner.now c.requires.lists.rising c.requires.lists.in_order)
    c.loop-first.first c.loop-first.end c.loop-first.invariant (middle p) (at-least p) (below p) (seen p ∙ c.in-Less.is)

pub returns-in-Equal : goal.returns-in-Equal
returns-in-Equal c =
    let p = (goal.at.returns-in-Equal c).After-compared in
    there c.args.self.now.halves.tiles.now c.args.self.now.inner.now c.args.from (order_numbers c.args.motion.now c.args.kind)
    (rising-order c.args.self.now.halves.tiles.now [] c.args.self.now.inner.now c.requires.lists.rising c.requires.lists.in_order)
    c.loop-first.first c.loop-first.end c.loop-first.invariant (middle p) (at-least p) (below p) (seen p ∙ c.in-Equal.is)

pub loop-first-preserved : goal.loop-first-preserved
loop-first-preserved c =
    let p = (goal.at.loop-first-preserved c).After-compared in
    lower c.args.self.now.halves.tiles.now c.args.self.now.inner.now c.args.from (order_numbers c.args.motion.now c.args.kind)
    (rising-order c.args.self.now.halves.tiles.now [] c.args.self.now.inner.now c.requires.lists.rising c.requires.lists.in_order)
    c.loop-first.first c.loop-first.end c.loop-first.invariant (middle p) (at-least p) (below p) (seen p ∙ c.in-Greater.is)

pub returns : goal.returns
returns c = not-there c.args.self.now.halves.tiles.now c.args.self.now.inner.now c.args.from
    (order_numbers c.args.motion.now c.args.kind) c.loop-first.first c.loop-first.end c.loop-first.invariant
    (omega (arith, c.loop-first-test.false))
