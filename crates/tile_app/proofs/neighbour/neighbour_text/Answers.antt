use Rattle.std.proofs.Common.{IfErr, IfOk, sym, subst}
use Rattle.std.proofs.lemmas.Result.{IfOk-weaker, err_from_is_err_and}
use Rattle.rule_model.specs.Tiling.{tiling_of, children}
use Rattle.tile_shape.specs.Accepted.{IsAcceptedAddress}
use Rattle.tile_shape.specs.Views.{address_of}
use Rattle.tile_app.specs.Neighbour.{PrintsNeighbour, NeighbourRefuses}
use Rattle.call_notes.specs.Status.{OrNoMemory}
use Rattle.tile_app.proofs.Tiles.{tile_refused}
use Rattle.tile_app.proofs.neighbour.neighbour_text.Goals as goal

-- the address is that of no tile
pub returns-in_err-address-clause-refused : goal.returns-in_err-address-clause-refused
returns-in_err-address-clause-refused g c =
    let p = err_from_is_err_and c.from_residual.result c.from_residual.ensures.1 in
    rw (p.1, p.2) c.in_err-address.ensures.refused

-- the machine's rule is the checked rule
pub across-requires : goal.across-requires
across-requires g c = record {
  accepted = subst (λ m. IsAcceptedAddress (children (tiling_of m)) (address_of c.in_ok-address.address))
      (sym c.in_ok-machine.ensures.its_rule) c.in_ok-address.ensures.named.accepted;
}

pub returns-clause-printed : goal.returns-clause-printed
returns-clause-printed g c =
    let a = address_of c.in_ok-address.address in
    IfOk-weaker c.across.result _ _
    (λ text h. record { address = a; tile = c.in_ok-address.ensures.named; holds = h })
    (subst (λ m. IfOk c.across.result (λ text. PrintsNeighbour (tiling_of m) a c.args.edge text.items))
    c.in_ok-machine.ensures.its_rule c.across.ensures.printed)

pub returns-clause-refused : goal.returns-clause-refused
returns-clause-refused g c =
    let t = tiling_of c.args.checked in
    let a = address_of c.in_ok-address.address in
    tile_refused t c.args.addr.now a (λ b. NeighbourRefuses t b c.args.edge) c.in_ok-address.ensures.named (λ fault k. k) c.across.result
    (subst (λ m. IfErr c.across.result (OrNoMemory (NeighbourRefuses (tiling_of m) a c.args.edge)))
    c.in_ok-machine.ensures.its_rule c.across.ensures.refused)
