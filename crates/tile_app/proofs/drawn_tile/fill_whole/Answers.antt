use Rattle.std.proofs.Common.{◌≡◌, Option, None, Some, refl}
use Rattle.std.specs.Option.{option_map}
use Rattle.layer_api.specs.declared.part.Part.{Part}
use Rattle.tile_app.specs.DrawnTile.{part_drawn, tile_drawn}
use Rattle.tile_app.proofs.drawn_tile.fill_whole.Goals as goal

second-back : (s : Option Part) → s ≡ option_map part_drawn (option_map tile_drawn s)
second-back None = refl
second-back (Some p) = refl

pub returns-clause-tile : goal.returns-clause-tile
returns-clause-tile c = λ i. record {
  class = c.args.drawn.now.first.kind;
  outline = record { items = c.put_whole.ensures.placed i };
  first = c.args.drawn.now.first;
  second = second-back c.args.drawn.now.second i;
}
