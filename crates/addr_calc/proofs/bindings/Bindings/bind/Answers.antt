use Rattle.std.proofs.Common.{set, Some, option_map, ap₂, ◌∙◌}
use Rattle.std.proofs.lemmas.List.{map-set}
use Rattle.tile_shape.specs.Views.{address_of}
use Rattle.addr_calc.proofs.bindings.Bindings.bind.Goals as goal

pub returns : goal.returns
returns c =
    map-set (option_map address_of) c.self.inside.addresses.items c.number.result (Some c.args.address)
    ∙ ap₂ (λ names name. set names name (Some (address_of c.args.address))) c.self.view_is c.number.ensures.number
