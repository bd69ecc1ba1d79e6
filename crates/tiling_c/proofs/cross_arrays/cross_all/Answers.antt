use Rattle.std.proofs.Common.{rules, ◌<◌, length, get_or, ◌∙◌, subst, arith}
use Rattle.std.proofs.lemmas.List.{length-set}
use Rattle.rule_model.specs.Tiling.{tiling_of}
use Rattle.tiling_c.specs.Arrays.{no_address, plain_address_at}
use Rattle.tiling_c.specs.Crossing.{ShowsCrossingInArray}
use Rattle.tiling_c.proofs.Arrays.{items_more, rest_more}
use Rattle.tiling_c.proofs.cross_arrays.cross_all.Goals as goal

pub loop-i-preserved : goal.loop-i-preserved
loop-i-preserved c =
    let t = tiling_of c.args.machine.now in
    let old = c.args.addrs.now in
    let edges = c.args.edges.now in
    let addrs = c.loop-i.addrs in
    let crossings = c.loop-i.crossings in
    let i = c.loop-i.i in
    let addr = c.cross_edge.new.addr in
    let crossing = c.cross_edge.result in
    let in_addrs : i < length addrs = search rules in
    let in_crossings : i < length crossings = search rules in
    let first : ShowsCrossingInArray t (plain_address_at old i) (get_or edges i 0) addr crossing =
    subst (λ a. ShowsCrossingInArray t a (get_or edges i 0) addr crossing) (c.loop-i.invariant.rest i (omega arith)) c.cross_edge.ensures in
    record {
      room = length-set addrs i addr ∙ c.loop-i.invariant.room;
      crossings_room = length-set crossings i crossing ∙ c.loop-i.invariant.crossings_room;
      each = items_more no_address (record { status = 0; back = 0; part = 0 })
          (λ j a x. ShowsCrossingInArray t (plain_address_at old j) (get_or edges j 0) a x) addrs crossings i addr crossing
          in_addrs in_crossings c.loop-i.invariant.each first;
      rest = rest_more no_address addrs old i addr c.loop-i.invariant.rest;
    }
