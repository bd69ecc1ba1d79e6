use Rattle.std.proofs.Common.{◌≡◌, ◌+◌, [], get_or, take, drop, refl, sym, ap, ◌∙◌, subst, append-nil}
use Rattle.std.proofs.lemmas.List.{take_more, take_all}
use Rattle.theory_addresses.specs.Address.{Address}
use Rattle.theory_frames.specs.Frame.{lifted_in}
use Rattle.theory_frames.proofs.Frames.{IsWhole}
use Rattle.rule_model.specs.Tiling.{tiling_of, children}
use Rattle.tile_place.proofs.KindEdges.{edges_counted}
use Rattle.tile_shape.specs.Views.{address_of}
use Rattle.theory_walks.specs.Frames.{FrameValue, whole, at_depth, lifted_at}
use Rattle.theory_walks.specs.Paths.{Leads, CanBeWalked, IsStopped, IsStoppedAt}
use Rattle.theory_walks.proofs.Walks.{GrowsTo-is, GrowsTo-then}
use Rattle.theory_walks.proofs.Walked.{stops_before, laws_are, parted, whole-tile_of, tile_of-whole, base-lifted, IsOnPath, at_base, walked_at_64, comes_at_64, goes_on}
use Rattle.lazy_walk.proofs.PathEdges.{stopped, in_tables, edge_there}
use Rattle.lazy_walk.proofs.frame.Frame.grow_along.Goals as goal

pub loop-edge-init : goal.loop-edge-init
loop-edge-init g c =
    let laws = laws_are c.order-order.result c.checked-checked.result.now c.args.machine.now c.uses.result.now
    c.order-order.ensures.order c.checked-checked.ensures.rule
    (record {
      accepted = c.checked-checked.ensures.accepted;
      usable = c.checked-checked.ensures.usable;
      same_child_kinds = c.checked-checked.ensures.same_child_kinds;
    }) c.across_law.ensures
    c.boundary_law.ensures
    c.uses.ensures c.kinds-usable.ensures.limits (λ children usable base start n h. c.grown_fits_law.ensures children base start n usable h) in (
      laws,
      subst (λ a. IsOnPath c.args.machine.now c.args.self.now c.args.self.now a [])
          (sym (c.lift-tile.ensures ∙ ap (lifted_in (whole c.args.self.now)) c.base.ensures
          ∙ base-lifted (tiling_of c.args.machine.now) c.args.self.now c.requires.frame))
          (at_base c.args.machine.now laws c.args.self.now c.requires.frame),
    )

pub edges-edges-requires : goal.edges-edges-requires
edges-edges-requires g c = record {
  exists = in_tables c.tables.result.now c.checked-checked.result.now c.args.machine.now c.loop-edge.tile.kind
      c.tables.ensures.contacts c.checked-checked.ensures.rule c.checked-checked.ensures.same_child_kinds
      c.loop-edge.invariant.1.own.fits.kind_exists;
}

pub returns-then-edge-edges-clause-least : goal.returns-then-edge-edges-clause-least
returns-then-edge-edges-clause-least g c = stopped c.args.machine.now c.args.self.now c.loop-edge.self
    (address_of c.loop-edge.tile) c.args.path.now c.loop-edge.edge-index c.loop-edge.invariant.1
    c.loop-edge-test.true

pub returns-then-edge-edges-clause-fault_at_64 : goal.returns-then-edge-edges-clause-fault_at_64
returns-then-edge-edges-clause-fault_at_64 g c =
    record {
      tile = lifted_at (tiling_of c.args.machine.now) c.loop-edge.self (address_of c.loop-edge.tile) 64;
      comes = comes_at_64 c.args.machine.now c.loop-edge.invariant.0 c.args.self.now c.loop-edge.self
          (address_of c.loop-edge.tile) (take c.loop-edge.edge-index c.args.path.now) c.loop-edge.invariant.1
          (get_or c.args.path.now c.loop-edge.edge-index 0) c.args.path.now
          (drop (c.loop-edge.edge-index + 1) c.args.path.now)
          (parted c.args.path.now c.loop-edge.edge-index c.loop-edge-test.true);
      count = edges_counted c.tables.result.now c.checked-checked.result.now c.args.machine.now
          c.loop-edge.tile.kind c.edges-edges.result c.tables.ensures.contacts c.checked-checked.ensures.rule
          c.edges-edges.ensures.count;
      beyond = c.if-edge-edges.true;
    }

pub returns-then-edge-edges-clause-fault : goal.returns-then-edge-edges-clause-fault
returns-then-edge-edges-clause-fault g c = record {
  tile = address_of c.loop-edge.tile;
  comes = record {
    front = take c.loop-edge.edge-index c.args.path.now;
    rest = drop (c.loop-edge.edge-index + 1) c.args.path.now;
    split = parted c.args.path.now c.loop-edge.edge-index c.loop-edge-test.true;
    leads = c.loop-edge.invariant.1.leads;
  };
  count = edges_counted c.tables.result.now c.checked-checked.result.now c.args.machine.now
      c.loop-edge.tile.kind c.edges-edges.result c.tables.ensures.contacts c.checked-checked.ensures.rule
      c.edges-edges.ensures.count;
  beyond = c.if-edge-edges.true;
}

pub cross_grow_in_place-requires-clause-of_frame : goal.cross_grow_in_place-requires-clause-of_frame
cross_grow_in_place-requires-clause-of_frame g c = whole-tile_of (children (tiling_of c.args.machine.now))
    (whole c.loop-edge.self) (address_of c.loop-edge.tile) c.loop-edge.invariant.1.own

pub cross_grow_in_place-requires-clause-edge_exists : goal.cross_grow_in_place-requires-clause-edge_exists
cross_grow_in_place-requires-clause-edge_exists g c = edge_there c.tables.result.now
    c.checked-checked.result.now c.args.machine.now c.loop-edge.tile.kind
    (get_or c.args.path.now c.loop-edge.edge-index 0) c.edges-edges.result c.tables.ensures.contacts
    c.checked-checked.ensures.rule c.edges-edges.ensures.count c.if-edge-edges.false

pub returns-in-Err-clause-frame : goal.returns-in-Err-clause-frame
returns-in-Err-clause-frame g c = GrowsTo-then (tiling_of c.args.machine.now) c.args.self.now c.loop-edge.self
    c.cross_grow_in_place.new.self c.loop-edge.invariant.1.grows c.in-Err.ensures.frame

pub returns-in-Err-clause-least : goal.returns-in-Err-clause-least
returns-in-Err-clause-least g c n l k =
    subst (IsStopped (tiling_of c.args.machine.now)
    (whole (at_depth (tiling_of c.args.machine.now) n c.args.self.now)))
    (sym (parted c.args.path.now c.loop-edge.edge-index c.loop-edge-test.true))
    (stops_before c.args.machine.now c.loop-edge.invariant.0 c.args.self.now c.loop-edge.self (address_of c.loop-edge.tile)
    (take c.loop-edge.edge-index c.args.path.now) c.loop-edge.invariant.1 c.cross_grow_in_place.new.self
    (get_or c.args.path.now c.loop-edge.edge-index 0)
    (edge_there c.tables.result.now c.checked-checked.result.now c.args.machine.now c.loop-edge.tile.kind
    (get_or c.args.path.now c.loop-edge.edge-index 0) c.edges-edges.result c.tables.ensures.contacts
    c.checked-checked.ensures.rule c.edges-edges.ensures.count c.if-edge-edges.false)
    c.in-Err.ensures.frame c.in-Err.ensures.least n (drop (c.loop-edge.edge-index + 1) c.args.path.now) l
    k)

pub returns-in-Err-clause-fault_at_64 : goal.returns-in-Err-clause-fault_at_64
returns-in-Err-clause-fault_at_64 g c =
    let t = tiling_of c.args.machine.now in
    let at = whole (at_depth (tiling_of c.args.machine.now) 64 c.args.self.now) in
    let here : IsStoppedAt t at c.args.path.now
    (lifted_at t c.loop-edge.self (address_of c.loop-edge.tile) 64)
    (get_or c.args.path.now c.loop-edge.edge-index 0) = record {
      comes = comes_at_64 c.args.machine.now c.loop-edge.invariant.0 c.args.self.now c.loop-edge.self
          (address_of c.loop-edge.tile) (take c.loop-edge.edge-index c.args.path.now) c.loop-edge.invariant.1
          (get_or c.args.path.now c.loop-edge.edge-index 0) c.args.path.now
          (drop (c.loop-edge.edge-index + 1) c.args.path.now)
          (parted c.args.path.now c.loop-edge.edge-index c.loop-edge-test.true);
      edge_exists = edge_there c.tables.result.now c.checked-checked.result.now c.args.machine.now
          c.loop-edge.tile.kind (get_or c.args.path.now c.loop-edge.edge-index 0) c.edges-edges.result
          c.tables.ensures.contacts c.checked-checked.ensures.rule c.edges-edges.ensures.count
          c.if-edge-edges.false;
      on_boundary = c.in-Err.ensures.limit_exactly.0 refl;
    } in
    subst (λ e. IsStoppedAt t at c.args.path.now (address_of c.in-Err.limit.addr) e) (sym c.in-Err.ensures.limit.edge)
    (subst (λ (a : Address). IsStoppedAt t at c.args.path.now a
    (get_or c.args.path.now c.loop-edge.edge-index 0)) (sym c.in-Err.ensures.limit.tile) here)

pub returns-in-Err-clause-fault : goal.returns-in-Err-clause-fault
returns-in-Err-clause-fault g c =
    let t = tiling_of c.args.machine.now in
    let old = c.args.self.now in
    let new = c.cross_grow_in_place.new.self in
    let grows = GrowsTo-then t old c.loop-edge.self new c.loop-edge.invariant.1.grows c.in-Err.ensures.frame in
    let same : new ≡ at_depth t 64 old = GrowsTo-is t old new grows ∙ ap (λ n. at_depth t n old) c.in-Err.ensures.limit.deepest in
    subst (λ (f : FrameValue). IsStoppedAt t (whole f) c.args.path.now (address_of c.in-Err.limit.addr)
    c.in-Err.limit.edge) (sym same) (returns-in-Err-clause-fault_at_64 g c)

pub loop-edge-preserved : goal.loop-edge-preserved
loop-edge-preserved g c =
    let own : IsWhole (children (tiling_of c.args.machine.now)) (whole c.cross_grow_in_place.new.self) (address_of c.cross_grow_in_place.new.tile) =
    tile_of-whole (children (tiling_of c.args.machine.now)) (whole c.cross_grow_in_place.new.self)
    (address_of c.cross_grow_in_place.new.tile) c.in_default.ensures.crossed.of_frame
    c.in_default.ensures.crossed.at_depth in (
      c.loop-edge.invariant.0,
      subst (IsOnPath c.args.machine.now c.args.self.now c.cross_grow_in_place.new.self
          (address_of c.cross_grow_in_place.new.tile))
          (sym (take_more c.args.path.now c.loop-edge.edge-index 0 c.loop-edge-test.true))
          (goes_on c.args.machine.now c.loop-edge.invariant.0 c.args.self.now c.loop-edge.self (address_of c.loop-edge.tile)
          (take c.loop-edge.edge-index c.args.path.now) c.loop-edge.invariant.1 c.cross_grow_in_place.new.self
          (address_of c.cross_grow_in_place.new.tile) (get_or c.args.path.now c.loop-edge.edge-index 0)
          c.in_default.field-0 c.in_default.ensures.frame
          (record {
            edge_exists = edge_there c.tables.result.now c.checked-checked.result.now c.args.machine.now
                c.loop-edge.tile.kind (get_or c.args.path.now c.loop-edge.edge-index 0) c.edges-edges.result
                c.tables.ensures.contacts c.checked-checked.ensures.rule c.edges-edges.ensures.count
                c.if-edge-edges.false;
            inside = c.in_default.ensures.crossed.inside;
            fits = own.fits;
            across = c.in_default.ensures.crossed.only_tile_across;
          }) own c.in_default.ensures.least),
    )

pub returns-clause-walked : goal.returns-clause-walked
returns-clause-walked g c = (
  address_of c.loop-edge.tile,
  subst
      (λ p. Leads (tiling_of c.args.machine.now) (whole c.loop-edge.self) p (address_of c.loop-edge.tile))
      (take_all c.loop-edge.edge-index c.args.path.now c.loop-edge-test.false) c.loop-edge.invariant.1.leads,
)

pub returns-clause-least : goal.returns-clause-least
returns-clause-least g c n l k =
    subst (IsStopped (tiling_of c.args.machine.now)
    (whole (at_depth (tiling_of c.args.machine.now) n c.args.self.now)))
    (append-nil (take c.loop-edge.edge-index c.args.path.now)
    ∙ take_all c.loop-edge.edge-index c.args.path.now c.loop-edge-test.false)
    (c.loop-edge.invariant.1.before n [] l k)

pub returns-clause-walked_at_64 : goal.returns-clause-walked_at_64
returns-clause-walked_at_64 g c =
    subst (CanBeWalked (tiling_of c.args.machine.now)
    (whole (at_depth (tiling_of c.args.machine.now) 64 c.args.self.now)))
    (take_all c.loop-edge.edge-index c.args.path.now c.loop-edge-test.false)
    (walked_at_64 c.args.machine.now c.loop-edge.invariant.0 c.args.self.now c.loop-edge.self (address_of c.loop-edge.tile)
    (take c.loop-edge.edge-index c.args.path.now) c.loop-edge.invariant.1)

pub returns-then-edge-edges-clause-frame : goal.returns-then-edge-edges-clause-frame
returns-then-edge-edges-clause-frame g c = c.loop-edge.invariant.1.grows

pub cross_grow_in_place-requires-clause-frame : goal.cross_grow_in_place-requires-clause-frame
cross_grow_in_place-requires-clause-frame g c = c.loop-edge.invariant.1.grows.is_frame

pub returns-clause-frame : goal.returns-clause-frame
returns-clause-frame g c = c.loop-edge.invariant.1.grows
