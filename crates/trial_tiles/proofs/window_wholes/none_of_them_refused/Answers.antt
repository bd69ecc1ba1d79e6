use Rattle.std.proofs.Common.{◌≡◌, inl, inr, ◌^◌, get_or, sym, ap, ◌∙◌, subst, arith}
use Rattle.std.proofs.lemmas.Bool.{cases_lt}
use Rattle.std.proofs.lemmas.Option.{get_or_from_slice_get}
use Rattle.cyclo_points.specs.Point.{IsWithin}
use Rattle.tile_place.specs.declared.placed_tile.PlacedTile.{PlacedTile}
use Rattle.trial_tiles.proofs.window_wholes.none_of_them_refused.Goals as goal

pub loop-number-preserved : goal.loop-number-preserved
loop-number-preserved c = λ k d l. elim (cases_lt k c.loop-number.number) [
  | inl before ↦ c.loop-number.invariant k d before
  | inr own ↦
      let same : c.loop-number.number ≡ k = omega (arith, l, own) in
      let its : get_or c.args.tiles.now k d ≡ c.tile.result = subst
      (λ i. get_or c.args.tiles.now i d ≡ c.tile.result) same
      (get_or_from_slice_get c.args.tiles.now c.loop-number.number c.tile.result d c.tile.ensures) in
      subst (λ (x : PlacedTile). IsWithin (2 ^ 24) x.motion.shift) (sym its) (c.refused.ensures.within c.if-refused.false)
]

pub returns : goal.returns
returns c = λ e k d l.
    let end = c.loop-number-test.false in
    let all = c.len-number-end.ensures in
    c.loop-number.invariant k d (omega (arith, l, end, all))
