use Rattle.std.proofs.Common.{◌++◌, ◌+◌, sym, subst}
use Rattle.tile_place.specs.Keys.{order_numbers}
use Rattle.half_glue.specs.Merged.{IsMerging, IsPlaceAmong}
use Rattle.half_glue.proofs.NextMerged.{numbers-of, found-merged, pushed-merged}
use Rattle.half_glue.proofs.merge.Merge.put_next.Goals as goal

pub returns-in_ok-extend_from_slice-in-Ok : goal.returns-in_ok-extend_from_slice-in-Ok
returns-in_ok-extend_from_slice-in-Ok c =
    let tiles = c.args.self.now.halves.tiles.now in
    let crossed = c.args.self.now.halves.crossed.now in
    let inner = c.args.self.now.inner.now in
    let outer = c.args.self.now.outer.now in
    let sought = order_numbers c.place-kind.result.0 c.place-kind.result.1 in
    subst (IsMerging (tiles ++ crossed) inner outer (c.in-Ok.same + 1) (c.args.next + 1)) (sym c.in_ok-extend_from_slice-in-Ok.ensures.items)
    (found-merged tiles crossed inner outer c.requires.lists.in_order c.requires.lists.rising c.requires.lists.outer_in_order
    c.args.done c.args.next c.args.pairs.now.items c.requires.merging c.requires.one_more sought
    (numbers-of (tiles ++ crossed) outer c.args.next _ c.requires.one_more c.place-kind.result.0
    c.place-kind.result.1 c.place-kind.ensures.motion c.place-kind.ensures.kind)
    c.in-Ok.same (subst (IsPlaceAmong tiles inner c.args.done sought) c.in-Ok.is c.place_among.ensures))

pub returns-in_ok-push-in-Err : goal.returns-in_ok-push-in-Err
returns-in_ok-push-in-Err c =
    let tiles = c.args.self.now.halves.tiles.now in
    let crossed = c.args.self.now.halves.crossed.now in
    let inner = c.args.self.now.inner.now in
    let outer = c.args.self.now.outer.now in
    let sought = order_numbers c.place-kind.result.0 c.place-kind.result.1 in
    pushed-merged tiles crossed inner outer c.requires.lists.in_order c.requires.lists.rising c.requires.lists.outer_in_order
    c.args.done c.args.next c.args.pairs.now.items c.requires.merging c.requires.one_more sought
    (numbers-of (tiles ++ crossed) outer c.args.next _ c.requires.one_more c.place-kind.result.0
    c.place-kind.result.1 c.place-kind.ensures.motion c.place-kind.ensures.kind)
    c.in-Err.end (subst (IsPlaceAmong tiles inner c.args.done sought) c.in-Err.is c.place_among.ensures)
    c.extend_from_slice-in-Err.new.self.items c.push.new.self.items _ c.in_ok-extend_from_slice-in-Err.ensures.items c.in_ok-push-in-Err.ensures.items
