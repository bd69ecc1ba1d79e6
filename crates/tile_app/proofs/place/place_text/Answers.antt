use Rattle.std.proofs.Common.{rules, ◌≡◌, string_bytes, sym, subst}
use Rattle.std.proofs.lemmas.Result.{err_from_is_err_and}
use Rattle.rule_model.specs.Tiling.{tiling_of}
use Rattle.tile_shape.specs.Views.{address_of}
use Rattle.tile_app.specs.Place.{PrintsPlace, PlaceRefuses}
use Rattle.tile_app.proofs.Tiles.{tile_refused}
use Rattle.tile_app.proofs.place.place_text.Goals as goal

pub returns-in_err-address-clause-refused : goal.returns-in_err-address-clause-refused
returns-in_err-address-clause-refused c =
    let p = err_from_is_err_and c.from_residual.result c.from_residual.ensures.1 in
    rw (p.1, p.2) c.in_err-address.ensures.refused

pub placed-requires : goal.placed-requires
placed-requires c = record { fits = c.in_ok-address.ensures.named.accepted.fits }

pub returns-in_err-placed-clause-refused : goal.returns-in_err-placed-clause-refused
returns-in_err-placed-clause-refused c =
    let t = tiling_of c.args.checked.now in
    let h = tile_refused t c.args.addr.now (address_of c.in_ok-address.address) (PlaceRefuses t) c.in_ok-address.ensures.named
    (λ fault k. k) c.placed.result c.placed.ensures.refused in
    search (rules, h)

pub returns-clause-printed : goal.returns-clause-printed
returns-clause-printed c =
    let t = tiling_of c.args.checked.now in
    let a = address_of c.in_ok-address.address in
    let same : c.into_bytes.result.items ≡ string_bytes c.in_ok-placed.field-0 = search rules in
    record { address = a; tile = c.in_ok-address.ensures.named; holds = subst (PrintsPlace t a) (sym same) c.in_ok-placed.ensures.printed }
