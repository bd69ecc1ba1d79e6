use Rattle.std.proofs.Common.{◌≡◌, ◌+◌, ◌*◌, ◌^◌, ◌<◌, length, get_or, drop, slice_set, sym, ap, ◌∙◌, subst, arith}
use Rattle.std.proofs.lemmas.List.{length-set}
use Rattle.theory_addresses.specs.Address.{Address}
use Rattle.cyclo_points.proofs.Within.{point_wider}
use Rattle.theory_walks.specs.Paths.{CanBeWalked, Leads}
use Rattle.rule_model.specs.Tiling.{tiling_of}
use Rattle.tile_place.specs.Crossed.{IsOnlyAcross}
use Rattle.tile_place.proofs.OneAcross.{one_across}
use Rattle.tile_shape.specs.Views.{address_of}
use Rattle.c_values.specs.Addresses.{address_in}
use Rattle.tiling_c.specs.Arrays.{plain_tile_at, plain_address_at}
use Rattle.tiling_c.specs.Walk.{ShowsStanding}
use Rattle.tiling_c.proofs.Walked.{address_there, tile_there, address_before, tile_before, one_walked, step_is_ok, of_ok, ahead_at}
use Rattle.tiling_c.proofs.walk.put_tiles.Goals as goal

pub loop-i-init : goal.loop-i-init
loop-i-init g c =
    let m = c.args.machine.now in
    let t = tiling_of m in
    let f = c.args.frame.now in
    let tile = c.base_tile-tile.result in
    let stands = c.base_tile-tile.ensures.stands in
    let addr = c.write.new.self in
    let there : plain_address_at (slice_set c.args.addrs.now 0 addr) 0 ≡ addr = address_there c.args.addrs.now 0
    addr (omega (arith, c.requires.addresses_room)) in
    let shown : plain_tile_at (slice_set c.args.tiles.now 0 c.placed.result) 0 ≡ c.placed.result = tile_there
    c.args.tiles.now 0 c.placed.result (omega (arith, c.requires.tiles_room)) in
    record {
      tiles_room = length-set c.args.tiles.now 0 c.placed.result ∙ c.requires.tiles_room;
      addresses_room = length-set c.args.addrs.now 0 addr ∙ c.requires.addresses_room;
      base = ap address_in there ∙ c.write.ensures.its_digits ∙ c.base_tile-tile.ensures.base;
      base_stands = subst (λ a. ShowsStanding t f 0 (plain_tile_at (slice_set c.args.tiles.now 0 c.placed.result) 0) a) (sym there)
          (subst (λ x. ShowsStanding t f 0 x addr) (sym shown)
          (record { tile = tile; stands = stands; its_numbers = c.placed.ensures; its_address = c.write.ensures }));
      each = λ j below. absurd (omega (arith, below));
      here = ap address_in there ∙ c.write.ensures.its_digits;
      stands = stands;
      within = c.base_tile-tile.ensures.at_origin;
      ahead = subst (λ (a : Address). CanBeWalked t a c.args.path.now) (sym c.base_tile-tile.ensures.base) c.requires.walked;
    }

pub step-requires-clause-within : goal.step-requires-clause-within
step-requires-clause-within g c =
    point_wider (512 * c.loop-i.i) (2 ^ 24) c.loop-i.tile.motion.shift
    (omega (arith, c.loop-i-test.true, c.requires.no_longer)) c.loop-i.invariant.within

pub unwrap-back-requires : goal.unwrap-back-requires
unwrap-back-requires g c =
    let t = tiling_of c.args.machine.now in
    let a = address_of c.loop-i.tile.addr in
    let ahead = ahead_at t a c.loop-i.invariant.ahead.0 c.args.path.now c.loop-i.i c.loop-i-test.true c.loop-i.invariant.ahead.1 in
    step_is_ok t a ahead.0 (get_or c.args.path.now c.loop-i.i 0) ahead.1 c.step.result c.step.ensures.outside_on_boundary ahead.2

pub loop-i-preserved : goal.loop-i-preserved
loop-i-preserved g c =
    let m = c.args.machine.now in
    let t = tiling_of m in
    let f = c.args.frame.now in
    let path = c.args.path.now in
    let i = c.loop-i.i in
    let inv = c.loop-i.invariant in
    let a = address_of c.loop-i.tile.addr in
    let next = c.step.new.tile in
    let x = address_of next.addr in
    let e = get_or path i 0 in
    let back = c.unwrap-back.result in
    let addr = c.write-in-loop-i.new.self in
    let in_tiles : i + 1 < length c.loop-i.tiles = omega (arith, inv.tiles_room, c.loop-i-test.true) in
    let in_addrs : i + 1 < length c.loop-i.addrs = omega (arith, inv.addresses_room, c.loop-i-test.true) in
    let across : IsOnlyAcross t a e x back = of_ok c.step.result back (λ b. IsOnlyAcross t a e x b)
    c.unwrap-back.ensures c.step.ensures.only_tile_across in
    let seen : IsOnlyAcross t (address_in (plain_address_at c.loop-i.addrs i)) e (address_in addr) back =
    subst (λ (b : Address). IsOnlyAcross t b e (address_in addr) back) (sym inv.here)
    (subst (λ (b : Address). IsOnlyAcross t a e b back) (sym c.write-in-loop-i.ensures.its_digits) across) in
    let shown : ShowsStanding t f back c.placed-in-loop-i.result addr =
    record { tile = next; stands = c.step.ensures.stands; its_numbers = c.placed-in-loop-i.ensures; its_address = c.write-in-loop-i.ensures } in
    let ahead = ahead_at t a inv.ahead.0 path i c.loop-i-test.true inv.ahead.1 in
    let first : plain_address_at (slice_set c.loop-i.addrs (i + 1) addr) 0 ≡ plain_address_at c.loop-i.addrs 0
    = address_before c.loop-i.addrs (i + 1) 0 addr (omega arith) in
    let first' : plain_tile_at (slice_set c.loop-i.tiles (i + 1) c.placed-in-loop-i.result) 0 ≡ plain_tile_at c.loop-i.tiles 0
    = tile_before c.loop-i.tiles (i + 1) 0 c.placed-in-loop-i.result (omega arith) in
    record {
      tiles_room = length-set c.loop-i.tiles (i + 1) c.placed-in-loop-i.result ∙ inv.tiles_room;
      addresses_room = length-set c.loop-i.addrs (i + 1) addr ∙ inv.addresses_room;
      base = ap address_in first ∙ inv.base;
      base_stands = subst (λ b. ShowsStanding t f 0 (plain_tile_at (slice_set c.loop-i.tiles (i + 1) c.placed-in-loop-i.result) 0) b) (sym first)
          (subst (λ y. ShowsStanding t f 0 y (plain_address_at c.loop-i.addrs 0)) (sym first') inv.base_stands);
      each = one_walked t f path c.loop-i.tiles c.loop-i.addrs i c.placed-in-loop-i.result addr in_tiles in_addrs inv.each back seen shown;
      here = ap address_in (address_there c.loop-i.addrs (i + 1) addr in_addrs) ∙ c.write-in-loop-i.ensures.its_digits;
      stands = c.step.ensures.stands;
      within = point_wider (512 * i + 512) (512 * (i + 1)) next.motion.shift (omega arith) (c.step.ensures.within (512 * i) inv.within);
      ahead = (
        inv.ahead.0,
        subst (λ y. Leads t y (drop (i + 1) path) inv.ahead.0)
            (one_across t a ahead.0 x e ahead.1 back ahead.2.across across).0 ahead.3,
      );
    }

pub returns : goal.returns
returns g c =
    let all : c.loop-i.i ≡ length c.args.path.now = omega (arith, c.loop-i-test.false, c.loop-i.auto.i-end) in
    record {
      base = c.loop-i.invariant.base;
      base_stands = c.loop-i.invariant.base_stands;
      each = λ j below. c.loop-i.invariant.each j (omega (arith, below, all));
    }
