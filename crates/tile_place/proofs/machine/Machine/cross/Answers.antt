use Rattle.std.proofs.Common.{◌≡◌, Err, sym, ap, subst, arith}
use Rattle.theory_addresses.specs.Address.{Address}
use Rattle.rule_model.specs.Tiling.{tiling_of, contacts}
use Rattle.tile_shape.specs.Views.{address_of}
use Rattle.transducer_core.proofs.HandedOn.{found, refused}
use Rattle.tile_place.specs.Crossed.{LiesAlong, LiesOnBoundary}
use Rattle.tile_place.proofs.machine.Machine.cross.Goals as goal

pub returns-in-Ok-clause-crossing : goal.returns-in-Ok-clause-crossing
returns-in-Ok-clause-crossing g c =
    found (contacts (tiling_of c.args.self.now)) (address_of c.args.addr.now) c.put_digits.new.there c.args.edge
    c.cross_in_place.new.addr c.put_digits.ensures.seen c.in-Ok.back c.in-Ok.ensures.crossing

pub returns-in-Err-clause-crossing : goal.returns-in-Err-clause-crossing
returns-in-Err-clause-crossing g c =
    refused (contacts (tiling_of c.args.self.now)) (address_of c.args.addr.now) c.put_digits.new.there c.args.edge
    c.cross_in_place.new.addr c.put_digits.ensures.seen c.in-Err.outside c.in-Err.ensures.crossing

pub returns-in-Ok-clause-boundary_is_outside : goal.returns-in-Ok-clause-boundary_is_outside
returns-in-Ok-clause-boundary_is_outside g c = λ own part lies.
    let no = c.in-Ok.ensures.boundary_is_outside own part
    (subst (λ (a : Address). LiesOnBoundary (tiling_of c.args.self.now) a c.args.edge own part)
    (sym c.put_digits.ensures.seen) lies) in
    absurd cc

pub returns-in-Err-clause-boundary_is_outside : goal.returns-in-Err-clause-boundary_is_outside
returns-in-Err-clause-boundary_is_outside g c = λ own part lies.
    let is = c.in-Err.ensures.boundary_is_outside own part
    (subst (λ (a : Address). LiesOnBoundary (tiling_of c.args.self.now) a c.args.edge own part)
    (sym c.put_digits.ensures.seen) lies) in
    let same : c.in-Err.outside ≡ record { edge = own; part = part } = cc in
    ap Err same

pub returns-in-Ok-clause-inside : goal.returns-in-Ok-clause-inside
returns-in-Ok-clause-inside g c = λ own lies.
    c.in-Ok.ensures.inside own (subst (λ (a : Address). LiesAlong (tiling_of c.args.self.now) a c.args.edge own) (sym c.put_digits.ensures.seen) lies)

pub returns-in-Ok-clause-only_tile_across : goal.returns-in-Ok-clause-only_tile_across
returns-in-Ok-clause-only_tile_across g c = grind arith

pub returns-in-Err-clause-outside_on_boundary : goal.returns-in-Err-clause-outside_on_boundary
returns-in-Err-clause-outside_on_boundary g c = grind arith
