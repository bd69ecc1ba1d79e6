use Rattle.std.proofs.Common.{ℕ, ◌<◌, ◌^◌, sym, ap₂, ◌∙◌, subst}
use Rattle.cyclo_points.specs.declared.motion.Motion.{Motion}
use Rattle.cyclo_points.specs.Point.{IsWithin}
use Rattle.tile_place.specs.Keys.{key_of}
use Rattle.half_glue.specs.Found.{no_tile}
use Rattle.half_glue.proofs.numbered_tiles.NumberedTiles.key.Goals as goal

pub of-requires-clause-within : goal.of-requires-clause-within
of-requires-clause-within c = subst (λ (v : Motion). IsWithin (2 ^ 24) v.shift) (sym c.place-kind.ensures.motion)
    (c.requires.fit c.args.number no_tile c.requires.below).within

pub of-requires-clause-turn_fits : goal.of-requires-clause-turn_fits
of-requires-clause-turn_fits c = subst (λ (v : Motion). v.turn < 16) (sym c.place-kind.ensures.motion)
    (c.requires.fit c.args.number no_tile c.requires.below).turn_fits

pub returns : goal.returns
returns c = c.of.ensures ∙ ap₂ (λ (v : Motion) (k : ℕ). key_of v k c.args.own) c.place-kind.ensures.motion c.place-kind.ensures.kind
