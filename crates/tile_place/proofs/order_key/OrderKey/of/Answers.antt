use Rattle.std.proofs.Common.{rules}
use Rattle.tile_place.proofs.order_key.OrderKey.of.Goals as goal

pub returns : goal.returns
returns c = search rules fits 100
