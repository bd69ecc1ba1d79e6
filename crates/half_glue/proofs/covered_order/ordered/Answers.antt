use Rattle.std.proofs.Common.{◌<◌, length, sym, subst}
use Rattle.std.proofs.lemmas.List.Sorted.{All-permutation}
use Rattle.std.proofs.lemmas.Result.{IfOk-weaker}
use Rattle.tile_place.specs.declared.order_key.OrderKey.{OrderKey}
use Rattle.half_glue.specs.Arranged.{AreOrdered}
use Rattle.half_glue.specs.Numbered.{NamePairs}
use Rattle.half_glue.proofs.OrderedPairs.{picked-ordered, picked-is}
use Rattle.half_glue.proofs.covered_order.ordered.Goals as goal

pub picked-requires : goal.picked-requires
picked-requires c = record {
  keyed = subst (NamePairs c.args.pairs.now) (sym c.as_slice.ensures.value)
      (All-permutation (λ (k : OrderKey). k.number < length c.args.pairs.now) c.args.keys.items
      c.sort_unstable.new.self.items c.sort_unstable.ensures.permutation c.requires);
}

pub returns : goal.returns
returns c = λ tiles keyed first.
    IfOk-weaker c.picked.result _ _ (λ ps h. subst (AreOrdered tiles c.args.pairs.now)
    (picked-is c.args.pairs.now c.sort_unstable.new.self.items c.as_slice.result.now c.as_slice.ensures.value ps.items h)
    (picked-ordered tiles c.args.pairs.now c.args.keys.items first c.sort_unstable.new.self.items
    c.sort_unstable.ensures.permutation keyed c.sort_unstable.ensures.sorted)) c.picked.ensures
