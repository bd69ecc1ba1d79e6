use Rattle.std.proofs.Common.{sym, ap, ◌∙◌, subst}
use Rattle.theory_frames.specs.Frame.{lifted_in}
use Rattle.tile_place.specs.declared.placed_tile.PlacedTile.{PlacedTile}
use Rattle.tile_shape.specs.Views.{address_of, address_as}
use Rattle.tile_shape.proofs.Seen.{address-known}
use Rattle.theory_walks.specs.Frames.{whole}
use Rattle.half_glue.specs.Found.{no_tile}
use Rattle.half_glue.specs.Lifted.{IsNoDeeper}
use Rattle.half_glue.proofs.glued_tiles.put_part.Goals as goal

pub raise-requires : goal.raise-requires
raise-requires c = record {
  no_deeper = subst (IsNoDeeper c.args.frame.now) (sym c.put.ensures)
      (c.requires.no_deeper c.args.number no_tile c.requires.below);
}

pub returns : goal.returns
returns c = λ i. record {
  kind = (c.put.ensures i).kind;
  motion = (c.put.ensures i).motion;
  addr = (address-known c.raise.new.tile _ c.raise.ensures
      ∙ ap (λ (x : PlacedTile). address_as (lifted_in (whole c.args.frame.now) (address_of x.addr)))
      c.put.ensures) i;
}
