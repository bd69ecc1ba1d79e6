use Rattle.std.proofs.Common.{ap₂, replicate}
use Rattle.c_values.specs.declared.plain_kind.PlainKind.{PlainKind}
use Rattle.c_values.specs.declared.plain_outline.PlainOutline.{PlainOutline}
use Rattle.c_values.specs.declared.plain_tile.PlainTile.{PlainTile}
use Rattle.c_values.specs.Rules.{padded}
use Rattle.c_values.proofs.plain_kind.PlainKind.blank.Goals as goal

pub returns : goal.returns
unfolding padded
returns c =
    ap₂ (λ (outline : PlainOutline) (tile : PlainTile). (let kind : PlainKind = record {
      prototile = outline;
      children = replicate 16 tile;
      edges = replicate 12 0;
      child_count = 0;
    } in kind)) c.blank.ensures c.refused.ensures
