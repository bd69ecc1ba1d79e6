use Rattle.std.proofs.Common.{◌<◌, ◌^◌, None, Some, refl, sym, ◌∙◌, subst, arith}
use Rattle.std.proofs.lemmas.Bool.{ltb-true}
use Rattle.cyclo_points.specs.declared.motion.Motion.{Motion}
use Rattle.tile_place.specs.Motions.{IsMotionOf}
use Rattle.half_glue.specs.Found.{no_tile, given_tile, StandsAmong}
use Rattle.half_glue.proofs.AmongTiles.{kind-is, motion-is}
use Rattle.rule_model.specs.Tiling.{tiling_of}
use Rattle.half_glue.proofs.InnerPairs.{read-below, read-other, among-below, alone-inner, pair-inner}
use Rattle.half_glue.proofs.inner_pairs.inner_pair.Goals as goal

pub returns-in-None-clause-inner : goal.returns-in-None-clause-inner
returns-in-None-clause-inner c = λ f is given.
    let kind = kind-is c.args.search.now.tiles.now c.args.number c.requires.below c.kind-kind.result c.kind-kind.ensures in
    alone-inner c.args.search.now.machine.now c.glue_laws.ensures c.args.search.now.tiles.now c.args.search.now.sides.now c.requires.sought.sides
    c.args.number c.requires.below f is given c.from.result (c.from.ensures ∙ kind) c.in-None.is
    (record { first = c.args.number; second = None }) refl

pub half_among-requires-clause-motion : goal.half_among-requires-clause-motion
half_among-requires-clause-motion c =
    subst (IsMotionOf c.args.search.now.machine.now.order (2 ^ 24))
    (sym (motion-is c.args.search.now.tiles.now c.args.number c.requires.below c.motion-motion.result
    c.motion-motion.ensures)) (c.requires.sought.placed c.args.number no_tile c.requires.below).motion

pub returns-clause-present : goal.returns-clause-present
returns-clause-present c =
    record {
      first = c.requires.below;
      second = among-below c.args.search.now.machine.now.order c.in-Some.side.other
          c.motion-motion.result c.args.search.now.tiles.now c.in_ok-second.second c.in_ok-second.ensures;
    }

pub returns-clause-inner : goal.returns-clause-inner
returns-clause-inner c = λ f is given.
    let m = c.args.search.now.machine.now in
    let kind = kind-is c.args.search.now.tiles.now c.args.number c.requires.below c.kind-kind.result c.kind-kind.ensures in
    let motion = motion-is c.args.search.now.tiles.now c.args.number c.requires.below c.motion-motion.result c.motion-motion.ensures in
    let less : c.kind-kind.result < c.in_ok-other.other.kind = ltb-true c.kind-kind.result
    c.in_ok-other.other.kind (sym c.is_less.ensures ∙ c.if-not-is_less.false) in
    pair-inner m c.glue_laws.ensures c.args.search.now.tiles.now c.args.search.now.sides.now c.requires.sought.sides c.args.number
    c.requires.below f is given c.from.result (c.from.ensures ∙ kind) c.in-Some.side c.in-Some.is
    c.in_ok-other.other c.in_ok-other.was (omega (arith, less, kind))
    c.in_ok-second.second (subst (λ (v : Motion). StandsAmong m.order c.in-Some.side.other v c.args.search.now.tiles.now
    c.in_ok-second.second) motion c.in_ok-second.ensures)
    (record { first = c.args.number; second = Some c.in_ok-second.second }) refl

pub bounds-search-from : goal.bounds-search-from
bounds-search-from c =
    read-below (tiling_of c.args.search.now.machine.now) c.args.search.now.sides.now c.requires.sought.sides
    (given_tile c.args.search.now.tiles.now c.args.number) (c.requires.sought.placed c.args.number no_tile c.requires.below)
    c.kind-kind.result c.from.result c.from.ensures
    (kind-is c.args.search.now.tiles.now c.args.number c.requires.below c.kind-kind.result c.kind-kind.ensures)

pub half_among-requires-clause-other : goal.half_among-requires-clause-other
half_among-requires-clause-other c =
    read-other (tiling_of c.args.search.now.machine.now) c.args.search.now.sides.now c.requires.sought.sides
    (given_tile c.args.search.now.tiles.now c.args.number) (c.requires.sought.placed c.args.number no_tile c.requires.below)
    c.kind-kind.result c.from.result c.from.ensures
    (kind-is c.args.search.now.tiles.now c.args.number c.requires.below c.kind-kind.result c.kind-kind.ensures) c.in-Some.side c.in-Some.is
