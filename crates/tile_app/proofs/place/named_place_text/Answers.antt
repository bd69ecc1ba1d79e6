use Rattle.std.proofs.Common.{rules, ◌≡◌, string_bytes, sym, subst}
use Rattle.std.proofs.lemmas.Result.{err_from_is_err_and}
use Rattle.tile_shape.specs.Views.{address_of}
use Rattle.tile_app.specs.Place.{PrintsPlace, PlaceRefuses}
use Rattle.tile_app.specs.Tilings.{builtin_tiling}
use Rattle.tile_app.proofs.Tiles.{tile_refused}
use Rattle.tile_app.proofs.place.named_place_text.Goals as goal

pub returns-in_err-address-clause-refused : goal.returns-in_err-address-clause-refused
returns-in_err-address-clause-refused c =
    let p = err_from_is_err_and c.from_residual-in_err-address.result c.from_residual-in_err-address.ensures.1 in
    rw (p.1, p.2) (c.in_err-address.ensures.refused (builtin_tiling c.args.name) c.in_ok-uses.ensures)

pub placed_by_name-requires : goal.placed_by_name-requires
placed_by_name-requires c = record { fits = (c.in_ok-address.ensures.named (builtin_tiling c.args.name) c.in_ok-uses.ensures).accepted.fits }

pub returns-in_err-placed_by_name-clause-refused : goal.returns-in_err-placed_by_name-clause-refused
returns-in_err-placed_by_name-clause-refused c =
    let t = builtin_tiling c.args.name in
    let tile = c.in_ok-address.ensures.named t c.in_ok-uses.ensures in
    let h = tile_refused t c.args.addr.now (address_of c.in_ok-address.address) (PlaceRefuses t) tile
    (λ fault k. k) c.placed_by_name.result c.placed_by_name.ensures.refused in
    search (rules, h)

pub returns-clause-printed : goal.returns-clause-printed
returns-clause-printed c =
    let t = builtin_tiling c.args.name in
    let a = address_of c.in_ok-address.address in
    let same : c.into_bytes.result.items ≡ string_bytes c.in_ok-placed_by_name.field-0 = search rules in
    record {
      address = a;
      tile = c.in_ok-address.ensures.named t c.in_ok-uses.ensures;
      holds = subst (PrintsPlace t a) (sym same) c.in_ok-placed_by_name.ensures.printed;
    }
