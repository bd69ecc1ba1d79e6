use Rattle.std.proofs.Common.{◌≡◌, ◌<◌, ◌≤◌, Some, refl, sym, ap, ◌∙◌, subst}
use Rattle.theory_addresses.specs.Address.{Fits}
use Rattle.theory_addresses.specs.Tables.{child_kinds}
use Rattle.theory_addresses.proofs.EdgesOf.{kind_in_tables}
use Rattle.rule_model.specs.Tiling.{tiling_of, children, contacts}
use Rattle.tile_place.specs.Crossed.{edges_of}
use Rattle.tile_place.proofs.KindEdges.{edges_counted}
use Rattle.tile_shape.specs.Views.{address_of}
use Rattle.transducer_core.proofs.OneOutside.{outside_is}
use Rattle.addr_calc.specs.Bindings.{bind}
use Rattle.addr_calc.specs.Calculation.{AllFit}
use Rattle.addr_calc.specs.Printed.{across_line}
use Rattle.addr_calc.proofs.Names.{bind_fits}
use Rattle.addr_calc.proofs.calculation.Calculation.across.Given.{Over}
use Rattle.addr_calc.proofs.calculation.Calculation.across.Goals.{After-edges, After-put_digits}
use Rattle.addr_calc.proofs.calculation.Calculation.across.Goals as goal

-- how many edges the tile has
count : (g : Over) (c : After-edges g) → c.edges.result ≡ edges_of (tiling_of c.args.machine.now) c.in-Some.address.now.kind
count g c = edges_counted c.tables.result.now c.checked.result.now c.args.machine.now c.in-Some.address.now.kind
    c.edges.result c.tables.ensures.contacts c.checked.ensures.rule c.edges.ensures.count

-- so this is one of them
exists : (g : Over) (c : After-put_digits g) → c.edges.result ≡ edges_of (tiling_of c.args.machine.now) c.in-Some.address.now.kind
    → c.args.edge < edges_of (tiling_of c.args.machine.now) c.put_digits.new.there.kind
exists g c number =
    let t = tiling_of c.args.machine.now in
    subst (λ k. c.args.edge < edges_of t k) (sym c.put_digits.ensures.kind)
    (subst (λ n. c.args.edge < n) number c.if-edge-edges.false)

pub edges-requires : goal.edges-requires
edges-requires g c = record {
  exists = kind_in_tables c.tables.result.now (children (tiling_of c.args.machine.now)) c.in-Some.address.now.kind
      (ap child_kinds (c.tables.ensures.contacts ∙ ap (λ m. contacts (tiling_of m)) c.checked.ensures.rule) ∙ c.checked.ensures.same_child_kinds)
      (c.requires.all_fit c.args.name.number (address_of c.in-Some.address.now) (sym c.in-Some.ensures)).kind_exists;
}

pub returns-then-edge-edges-clause-refused : goal.returns-then-edge-edges-clause-refused
returns-then-edge-edges-clause-refused g c =
    let p = (goal.at.returns-then-edge-edges-clause-refused g c).After-edges in (
      refl,
      record {
        address = address_of c.in-Some.address.now;
        bound = sym c.in-Some.ensures;
        beyond = subst (λ n. n ≤ c.args.edge) (count g p) c.if-edge-edges.true;
      },
    )

pub cross_in_place-requires : goal.cross_in_place-requires
cross_in_place-requires g c =
    let p = goal.at.cross_in_place-requires g c in
    record {
      fits = subst (Fits (children (tiling_of c.args.machine.now))) (sym c.put_digits.ensures.seen)
          (c.requires.all_fit c.args.name.number (address_of c.in-Some.address.now) (sym c.in-Some.ensures));
      edge_exists = exists g p.After-put_digits (count g p.After-edges);
    }

pub returns-in-Err-clause-refused : goal.returns-in-Err-clause-refused
returns-in-Err-clause-refused g c =
    let p = goal.at.returns-in-Err-clause-refused g c in (
      refl,
      record {
        address = address_of c.put_digits.new.there;
        bound = sym c.in-Some.ensures ∙ ap (λ a. Some a) (sym c.put_digits.ensures.seen);
        outside = record {
          exists = exists g p.After-put_digits (count g p.After-edges);
          along = c.in-Err.ensures.outside_on_boundary;
          alone = λ top other on. outside_is _ _ top other c.in-Err.is (c.cross_in_place.ensures.boundary_is_outside top other on);
        };
      },
    )

pub returns-in_ok-print_across-in-Ok-clause-done : goal.returns-in_ok-print_across-in-Ok-clause-done
returns-in_ok-print_across-in-Ok-clause-done g c =
    let x = address_of c.cross_in_place.new.addr in
    let back = c.in-Ok.back in
    let other = c.args.other.number in
    let p = goal.at.returns-in_ok-print_across-in-Ok-clause-done g c in
    let after = c.bind.ensures ∙ ap (λ names. bind names other x) c.in_ok-print_across-in-Ok.ensures.names in
    record {
      printed = across_line other x back;
      does = record {
        address = address_of c.put_digits.new.there;
        bound = sym c.in-Some.ensures ∙ ap (λ a. Some a) (sym c.put_digits.ensures.seen);
        exists = exists g p.After-put_digits (count g p.After-edges);
        on_none = c.in-Ok.ensures.inside;
        across = x;
        back = back;
        only_across = c.in-Ok.ensures.only_tile_across;
        leads_back = c.in-Ok.ensures.leads_back;
        binds = after;
        line = refl;
      };
      text = c.in_ok-print_across-in-Ok.ensures.printed;
      number = c.in_ok-print_across-in-Ok.ensures.number;
      all_fit = λ fit. subst (AllFit (tiling_of c.args.machine.now)) (sym after)
          (bind_fits (tiling_of c.args.machine.now) c.args.self.now.names other x c.in-Ok.ensures.answer_fits fit);
    }
