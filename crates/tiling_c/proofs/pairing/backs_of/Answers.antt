use Rattle.std.proofs.Common.{◌<◌, length, refl, sym, ap, ◌∙◌, subst, arith}
use Rattle.std.proofs.lemmas.List.{length-set, get_or-set_other}
use Rattle.theory_addresses.specs.Address.{Fits}
use Rattle.rule_model.specs.Tiling.{tiling_of}
use Rattle.tile_place.proofs.Plane.{IsSettled, OnlyTilesLaw}
use Rattle.tile_shape.specs.Views.{address_of}
use Rattle.tiling_c.specs.Pairing.{no_back, ShowsBack}
use Rattle.tiling_c.proofs.Arrays.{item_more}
use Rattle.tiling_c.proofs.Backs.{back_told, none_yet}
use Rattle.tiling_c.proofs.pairing.backs_of.Goals as goal

pub loop-edge-init : goal.loop-edge-init
loop-edge-init g c = record {
  room = refl;
  each = λ e below. absurd (omega (arith, below));
  rest = λ e above. none_yet e;
}

pub cross-crossed-requires-clause-edge_exists : goal.cross-crossed-requires-clause-edge_exists
cross-crossed-requires-clause-edge_exists g c =
    subst (λ n. c.loop-edge.edge < n) c.edges_of-edge-end.ensures.count c.loop-edge-test.true

pub loop-edge-preserved : goal.loop-edge-preserved
loop-edge-preserved g c =
    let t = tiling_of c.args.machine.now in
    let one = address_of c.args.one.now in
    let other = address_of c.args.other.now in
    let backs = c.loop-edge.backs in
    let edge = c.loop-edge.edge in
    let back = c.back_to.result in
    let inv = c.loop-edge.invariant in
    let in_backs : edge < length backs = omega (arith, c.loop-edge-test.true, c.edges_of-edge-end.ensures.at_most_12, inv.room) in
    let m = c.args.machine.now in
    let settled : IsSettled m = record {
      accepted = c.checked.ensures.accepted;
      usable = c.checked.ensures.usable;
      same_child_kinds = c.checked.ensures.same_child_kinds;
    } in
    let law = subst (λ o. OnlyTilesLaw o) (c.order.ensures.order ∙ ap (λ r. r.order) c.checked.ensures.rule) c.across_law.ensures in
    let crossed = c.cross-crossed.ensures in
    let last = back_told m settled law one other edge back c.cross-crossed.result c.requires.one_fits c.requires.other_fits
    (subst (λ n. c.loop-edge.edge < n) c.edges_of-edge-end.ensures.count c.loop-edge-test.true)
    crossed.answer_fits crossed.only_tile_across crossed.leads_back
    (λ x f fits touches. crossed.crossing.across_when x f (subst (λ kinds. Fits kinds x) (sym c.checked.ensures.same_child_kinds) fits) touches)
    c.back_to.ensures.across c.back_to.ensures.outside in
    record {
      room = length-set backs edge back ∙ inv.room;
      each = item_more no_back (λ e b. ShowsBack t one e other b) backs edge back in_backs inv.each last;
      rest = λ e above. get_or-set_other backs edge e back no_back (λ s. absurd (omega (arith, above, s))) ∙ inv.rest e (omega (arith, above));
    }

pub returns : goal.returns
returns g c =
    let inv = c.loop-edge.invariant in
    record {
      each = λ e below. inv.each e (omega (arith, below, c.loop-edge-test.false, c.edges_of-edge-end.ensures.count));
      none_behind = λ e above. inv.rest e (omega (arith, above, c.edges_of-edge-end.ensures.count, c.loop-edge.auto.edge-end));
    }
