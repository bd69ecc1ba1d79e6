use Rattle.std.proofs.Common.{rules, ◌<◌, length, slice_get, IfSome, ◌∙◌}
use Rattle.std.proofs.lemmas.List.{length-set}
use Rattle.tiling_c.specs.Glue.{ShowsWhole, no_whole}
use Rattle.tiling_c.proofs.Arrays.{item_more}
use Rattle.tiling_c.proofs.Fronts.{behind_more}
use Rattle.tiling_c.proofs.glue.put_wholes.Goals as goal

pub loop-place-preserved : goal.loop-place-preserved
loop-place-preserved c =
    let wholes = c.loop-place.wholes in
    let i = c.loop-place.place in
    let in_wholes : i < length wholes = search rules in
    record {
      room = length-set wholes i c.whole_of.result ∙ c.loop-place.invariant.room;
      each = item_more no_whole (λ j whole. IfSome (slice_get c.args.glued.now j) (λ w. ShowsWhole w whole)) wholes i
          c.whole_of.result in_wholes c.loop-place.invariant.each c.whole_of.ensures;
      behind = behind_more wholes c.args.wholes.now i c.whole_of.result c.loop-place.invariant.behind;
    }
