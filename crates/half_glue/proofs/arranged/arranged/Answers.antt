use Rattle.std.proofs.Common.{List, ◌++◌, sym, subst}
use Rattle.std.proofs.lemmas.Result.{IfOk-weaker}
use Rattle.tile_place.specs.declared.placed_tile.PlacedTile.{PlacedTile}
use Rattle.half_glue.specs.declared.pairs.Pair.{Pair}
use Rattle.half_glue.specs.declared.whole_tile.WholeTile.{WholeTile}
use Rattle.half_glue.specs.Arranged.{AreWholesOrdered, AreOrdered}
use Rattle.half_glue.specs.Lifted.{wholes_of}
use Rattle.half_glue.specs.Numbered.{AreFirstKeys, AreKeyed, NamePairs}
use Rattle.half_glue.proofs.OrderedPairs.{keys-named}
use Rattle.half_glue.proofs.arranged.arranged.Goals.{In_ok-pairs}
use Rattle.half_glue.proofs.arranged.arranged.Goals as goal

pub ordered-requires : goal.ordered-requires
ordered-requires c =
    subst (λ (ps : List Pair). NamePairs ps c.in_ok-keys.keys.items) (sym c.as_slice.ensures.value)
    (keys-named (c.args.tiles.now ++ c.args.made.crossed.items) c.args.made.pairs.items c.in_ok-keys.keys.items c.in_ok-keys.ensures)

-- the pairs are in order
are-ordered : (c : In_ok-pairs) → AreOrdered (c.args.tiles.now ++ c.args.made.crossed.items) c.args.made.pairs.items c.in_ok-pairs.pairs.items
are-ordered c =
    let all : List PlacedTile = c.args.tiles.now ++ c.args.made.crossed.items in
    let back = sym c.as_slice.ensures.value in
    subst (λ (ps : List Pair). AreOrdered all ps c.in_ok-pairs.pairs.items) c.as_slice.ensures.value
    (c.in_ok-pairs.ensures all (subst (AreKeyed all) back c.requires.keyed)
    (subst (λ (ps : List Pair). AreFirstKeys all ps c.in_ok-keys.keys.items) back c.in_ok-keys.ensures))

pub wholes-requires : goal.wholes-requires
wholes-requires c = record {
  present = (are-ordered (goal.at.wholes-requires c).In_ok-pairs).numbered;
  no_deeper = c.requires.no_deeper;
}

pub returns : goal.returns
returns c =
    let made : List WholeTile = wholes_of c.args.frame.now (c.args.tiles.now ++ c.args.made.crossed.items) c.args.made.pairs.items in
    IfOk-weaker c.wholes.result _ _ (λ ws e. subst (AreWholesOrdered made) (sym e)
    ((are-ordered (goal.at.returns c).In_ok-pairs).wholes c.args.frame.now)) c.wholes.ensures
