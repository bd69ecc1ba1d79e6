use Rattle.std.proofs.Common.{rules, ◌≡◌, ◌<◌, string_bytes, refl, ap, ◌∙◌, subst, arith}
use Rattle.std.proofs.lemmas.Result.{err_from_is_err_and}
use Rattle.theory_addresses.specs.Tables.{child_kinds}
use Rattle.theory_addresses.proofs.EdgesOf.{kind_in_tables}
use Rattle.rule_model.specs.Checked.{rule_contacts, child_kinds_of}
use Rattle.tile_place.proofs.KindEdges.{edges_counted}
use Rattle.tile_shape.specs.Views.{address_of}
use Rattle.transducer_core.proofs.OneOutside.{outside_is}
use Rattle.tile_app.proofs.neighbour.across.Goals as goal

pub edges-edges-requires : goal.edges-edges-requires
edges-edges-requires g c = record {
  exists = kind_in_tables c.tables.result.now (child_kinds_of c.args.machine.now) c.args.address.now.kind
      (ap child_kinds (c.tables.ensures.contacts ∙ ap rule_contacts c.checked.ensures.rule) ∙ c.checked.ensures.same_child_kinds)
      c.requires.accepted.fits.kind_exists;
}

pub returns-then-edge-edges-clause-refused : goal.returns-then-edge-edges-clause-refused
returns-then-edge-edges-clause-refused g c = (
  refl,
  record {
    count = edges_counted c.tables.result.now c.checked.result.now c.args.machine.now c.args.address.now.kind
        c.edges-edges.result c.tables.ensures.contacts c.checked.ensures.rule c.edges-edges.ensures.count;
    beyond = c.if-edge-edges.true;
  },
)

pub cross-requires-clause-fits : goal.cross-requires-clause-fits
cross-requires-clause-fits g c = c.requires.accepted.fits

pub cross-requires-clause-edge_exists : goal.cross-requires-clause-edge_exists
cross-requires-clause-edge_exists g c =
    subst (λ n. c.args.edge < n)
    (edges_counted c.tables.result.now c.checked.result.now c.args.machine.now c.args.address.now.kind
    c.edges-edges.result c.tables.ensures.contacts c.checked.ensures.rule c.edges-edges.ensures.count)
    c.if-edge-edges.false

pub returns-in_err-crossing-clause-refused : goal.returns-in_err-crossing-clause-refused
returns-in_err-crossing-clause-refused g c =
    let p = err_from_is_err_and c.from_residual.result c.from_residual.ensures.1 in
    rw (p.1, p.2) (record {
      exists = subst (λ n. c.args.edge < n)
          (edges_counted c.tables.result.now c.checked.result.now c.args.machine.now c.args.address.now.kind
          c.edges-edges.result c.tables.ensures.contacts c.checked.ensures.rule
          c.edges-edges.ensures.count) c.if-edge-edges.false;
      along = c.in_err-crossing.ensures.outside_on_boundary;
      alone = λ top other on. outside_is _ _ top other c.in_err-crossing.was (c.cross.ensures.boundary_is_outside top other on);
    })

pub returns-clause-printed : goal.returns-clause-printed
returns-clause-printed g c =
    let same : c.into_bytes.result.items ≡ string_bytes c.in_ok-neighbour_line.field-0 = search rules in
    record {
      inside = record {
        exists = subst (λ n. c.args.edge < n)
            (edges_counted c.tables.result.now c.checked.result.now c.args.machine.now c.args.address.now.kind
            c.edges-edges.result c.tables.ensures.contacts c.checked.ensures.rule c.edges-edges.ensures.count)
            c.if-edge-edges.false;
        on_none = c.in_ok-crossing.ensures.inside;
      };
      across = address_of c.in_ok-crossing.crossing.addr;
      back = c.in_ok-crossing.crossing.edge;
      only_across = c.in_ok-crossing.ensures.only_tile_across;
      leads_back = c.in_ok-crossing.ensures.leads_back;
      line = same ∙ c.in_ok-neighbour_line.ensures;
    }

-- an address has at most 64 digits
pub returns-in_err-crossing-clause-steps_within_bound : goal.returns-in_err-crossing-clause-steps_within_bound
returns-in_err-crossing-clause-steps_within_bound g c = omega (arith, c.cross.ensures.steps_within_bound, c.requires.accepted.has_room)

pub returns-in_err-neighbour_line-clause-steps_within_bound : goal.returns-in_err-neighbour_line-clause-steps_within_bound
returns-in_err-neighbour_line-clause-steps_within_bound g c = omega (arith, c.cross.ensures.steps_within_bound, c.requires.accepted.has_room)

pub returns-clause-steps_within_bound : goal.returns-clause-steps_within_bound
returns-clause-steps_within_bound g c = omega (arith, c.cross.ensures.steps_within_bound, c.requires.accepted.has_room)
