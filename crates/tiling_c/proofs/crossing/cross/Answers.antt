use Rattle.std.proofs.Common.{rules, ◌≡◌, ◌<◌, ◌≤◌, map, take, sym, ap, subst, arith}
use Rattle.std.proofs.lemmas.List.{length-map, length-take}
use Rattle.theory_addresses.specs.Address.{Address, Fits}
use Rattle.rule_model.specs.Tiling.{tiling_of, children}
use Rattle.tile_place.specs.Crossed.{LiesAlongNone}
use Rattle.tile_place.proofs.KindEdges.{edges_counted}
use Rattle.tile_shape.specs.Views.{step_of}
use Rattle.c_values.specs.declared.plain_crossing.PlainCrossing.{PlainCrossing}
use Rattle.c_values.specs.Addresses.{address_in, NamesTile}
use Rattle.tiling_c.proofs.EdgeGiven.{not_both, outside_given}
use Rattle.tiling_c.proofs.crossing.cross.Goals as goal

pub returns-then-edge-edges-clause-no_edge : goal.returns-then-edge-edges-clause-no_edge
returns-then-edge-edges-clause-no_edge g c =
    let counted = edges_counted c.tables.result.now c.checked.result.now c.args.machine.now c.args.addr.now.kind
    c.edges.result c.tables.ensures.contacts c.checked.ensures.rule c.edges.ensures.count in
    let named : NamesTile (tiling_of c.args.machine.now) c.args.addr.now = search rules in (
      λ _. (named, subst (λ n. n ≤ c.args.edge) counted c.if-edge-edges.true),
      λ _. ap (λ (x : PlainCrossing). x.status) c.crossing-then-edge-edges.ensures,
    )

pub cross_digits-requires : goal.cross_digits-requires
cross_digits-requires g c =
    let named : NamesTile (tiling_of c.args.machine.now) c.args.addr.now = search rules in
    record {
      edge = record {
        fits = subst (λ n. Fits (children (tiling_of c.args.machine.now))
            (record { kind = c.args.addr.now.kind; digits = map step_of (take n c.args.addr.now.digits) })) (sym c.from.ensures) named.fits;
        no_deeper = omega (
          arith,
          length-map (take c.from.result c.args.addr.now.digits) step_of,
          length-take c.from.result c.args.addr.now.digits,
          c.from.ensures,
          named.no_deeper,
        );
        exists = subst (λ n. c.args.edge < n)
            (edges_counted c.tables.result.now c.checked.result.now c.args.machine.now c.args.addr.now.kind
            c.edges.result c.tables.ensures.contacts c.checked.ensures.rule c.edges.ensures.count)
            c.if-edge-edges.false;
      };
    }

pub returns-in-Ok-clause-inside : goal.returns-in-Ok-clause-inside
returns-in-Ok-clause-inside g c =
    λ _. subst (λ n. LiesAlongNone (tiling_of c.args.machine.now)
    (record { kind = c.args.addr.now.kind; digits = map step_of (take n c.args.addr.now.digits) }) c.args.edge)
    c.from.ensures c.in-Ok.ensures.inside

pub returns-clause-outside : goal.returns-clause-outside
returns-clause-outside g c =
    let t = tiling_of c.args.machine.now in
    let tile : Address = record { kind = c.args.addr.now.kind; digits = map step_of (take c.from.result c.args.addr.now.digits) } in
    let seen : tile ≡ address_in c.args.addr.now =
    ap (λ n. (let a : Address = record { kind = c.args.addr.now.kind; digits = map step_of (take n c.args.addr.now.digits) } in a)) c.from.ensures in
    let counted = edges_counted c.tables.result.now c.checked.result.now c.args.machine.now c.args.addr.now.kind
    c.edges.result c.tables.ensures.contacts c.checked.ensures.rule c.edges.ensures.count in
    λ _. rw c.crossing-in-Err.ensures
    (outside_given t tile (address_in c.args.addr.now) c.args.edge c.cross_digits.result
    c.in-Err.outside seen (subst (λ n. c.args.edge < n) counted c.if-edge-edges.false)
    c.in-Err.is c.in-Err.ensures.outside_on_boundary c.cross_digits.ensures.boundary_is_outside)

pub returns-clause-no_edge : goal.returns-clause-no_edge
returns-clause-no_edge g c =
    let counted = edges_counted c.tables.result.now c.checked.result.now c.args.machine.now c.args.addr.now.kind
    c.edges.result c.tables.ensures.contacts c.checked.ensures.rule c.edges.ensures.count in
    let status = ap (λ (x : PlainCrossing). x.status) c.crossing-in-Err.ensures in
    (λ e. absurd (omega (arith, e, status)), λ w. not_both c.args.edge _ (subst (λ n. c.args.edge < n) counted c.if-edge-edges.false) w.1)
