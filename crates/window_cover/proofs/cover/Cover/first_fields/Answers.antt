use Rattle.std.proofs.Common.{ℕ, sym, subst}
use Rattle.cyclo_points.specs.declared.motion.Motion.{Motion}
use Rattle.tile_place.specs.Keys.{FitsKey}
use Rattle.window_cover.specs.Covered.{tile_of}
use Rattle.window_cover.specs.Keys.{HasKey}
use Rattle.window_cover.proofs.BlockTiles.{each-of}
use Rattle.window_cover.proofs.cover.Cover.first_fields.Goals as goal

pub of-requires : goal.of-requires
of-requires c =
    let found = c.args.self.now.found in
    record {
      fits = subst (λ (k : ℕ). FitsKey c.place-kind.result.0 k) (sym c.place-kind.ensures.kind)
          (subst (λ (m : Motion). FitsKey m (tile_of found 0).kind) (sym c.place-kind.ensures.motion)
          (each-of HasKey found c.tiles_law.ensures.keyed 0 c.requires.some));
    }
