use Rattle.std.proofs.Common.{◌≡◌, map, take}
use Rattle.tile_place.specs.declared.order_key.OrderKey.{OrderKey}
use Rattle.window_cover.proofs.order.numbers_in_keys.Given as goal

abbrev pub invariant-loop-key : goal.invariant-loop-key
invariant-loop-key l = l.numbers.items ≡ map (λ (k : OrderKey). k.number) (take l.key-index l.keys)
