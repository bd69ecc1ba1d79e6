use Rattle.std.proofs.Common.{◌<◌, length, ap, arith, refl}
use Rattle.std.proofs.lemmas.Option.{slice_get_read}
use Rattle.theory_addresses.specs.Tables.{Tables, mate_of}
use Rattle.theory_addresses.proofs.TableBounds.{within}
use Rattle.edge_tables.proofs.tables.Tables.mate.Goals as goal

pub index-requires : goal.index-requires
unfolding mate_of
index-requires c = omega (arith, within c.args.self.now.mates c.args.ty c.requires.exists, ap (λ (t : Tables). length t.mates) c.self.view_is)

pub returns : goal.returns
unfolding mate_of
returns c =
    let same = ap (λ (t : Tables). t.mates) c.self.view_is in
    let inside : c.args.ty < length c.self.inside.mates.items = omega (
      arith,
      within c.args.self.now.mates c.args.ty c.requires.exists,
      ap (λ (t : Tables). length t.mates)
          c.self.view_is,
    ) in
    rw (← same) (slice_get_read c.self.inside.mates.items (length c.self.inside.mates.items) c.args.ty c.index.result.now refl inside c.index.ensures)
