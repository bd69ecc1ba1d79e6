use Rattle.std.proofs.Common.{◌≡◌, ◌<◌, All, length, map, refl, sym, ap, ◌∙◌, subst}
use Rattle.std.specs.List.{flat_map}
use Rattle.std.proofs.lemmas.Result.{err_from_is_err_and}
use Rattle.theory_addresses.specs.Address.{Address}
use Rattle.theory_addresses.specs.Tables.{child_kinds}
use Rattle.theory_addresses.proofs.EdgesOf.{kind_in_tables}
use Rattle.lazy_walk.specs.Standing.{Stands}
use Rattle.rule_model.specs.Checked.{rule_contacts, child_kinds_of}
use Rattle.rule_model.specs.Tiling.{tiling_of, children}
use Rattle.star_walk.specs.declared.corner.Corner.{Corner}
use Rattle.star_walk.specs.Corners.{corner_in}
use Rattle.tile_place.specs.Crossed.{edges_of}
use Rattle.tile_place.proofs.KindEdges.{edges_counted}
use Rattle.tile_app.specs.Star.{corner_line}
use Rattle.tile_app.proofs.Turned.{turning_ends}
use Rattle.tile_app.proofs.star.star_text.Given.{Over}
use Rattle.tile_app.proofs.star.star_text.Goals.{After-edges-edges}
use Rattle.tile_app.proofs.star.star_text.Goals as goal

-- the kind of the base has its number of edges in the tables
count : (g : Over) (c : After-edges-edges g) → c.edges-edges.result ≡ edges_of (tiling_of c.args.machine.now) c.args.frame.now.base.kind
count g c =
    edges_counted c.tables.result.now c.checked.result.now c.args.machine.now c.base.result.now.kind
    c.edges-edges.result c.tables.ensures.contacts c.checked.ensures.rule c.edges-edges.ensures.count
    ∙ ap (λ (a : Address). edges_of (tiling_of c.args.machine.now) a.kind) c.base.ensures

pub edges-edges-requires : goal.edges-edges-requires
edges-edges-requires g c = record {
  exists = kind_in_tables c.tables.result.now (child_kinds_of c.args.machine.now) c.base.result.now.kind
      (ap child_kinds (c.tables.ensures.contacts ∙ ap rule_contacts c.checked.ensures.rule) ∙ c.checked.ensures.same_child_kinds)
      (subst (λ (a : Address). a.kind < length (children (tiling_of c.args.machine.now))) (sym c.base.ensures) c.requires.frame.fits.kind_exists);
}

pub returns-then-vertex-edges-clause-refused : goal.returns-then-vertex-edges-clause-refused
returns-then-vertex-edges-clause-refused g c =
    let s = (goal.at.returns-then-vertex-edges-clause-refused g c).After-edges-edges in
    (refl, record { count = count g s; beyond = c.if-vertex-edges.true })

pub star-requires : goal.star-requires
star-requires g c = record {
  vertex = record {
    frame = c.requires.frame;
    exists = subst (λ n. c.args.vertex < n) (count g ((goal.at.star-requires g c).After-edges-edges)) c.if-vertex-edges.false;
  };
}

pub returns-in_err-found-clause-refused : goal.returns-in_err-found-clause-refused
returns-in_err-found-clause-refused g c =
    let t = tiling_of c.args.machine.now in
    let s = (goal.at.returns-in_err-found-clause-refused g c).After-edges-edges in
    let p = err_from_is_err_and c.from_residual.result c.from_residual.ensures.1 in
    rw (p.1, p.2) (turning_ends t c.args.frame.now c.args.vertex
    (record {
      exists = subst (λ n. c.args.vertex < n) (count g s) c.if-vertex-edges.false;
      beyond = λ h. absurd
          (cc (c.in_err-found.ensures.ended.answered h));
    })
    c.star.new.frame c.in_err-found.ensures.ended.frame c.in_err-found.field-0.0 c.in_err-found.ensures.ended.cause)

pub returns-clause-printed : goal.returns-clause-printed
returns-clause-printed g c =
    let m = c.args.machine.now in
    let t = tiling_of m in
    let frame = c.star.new.frame in
    let s = (goal.at.returns-clause-printed g c).After-edges-edges in
    let value = c.as_slice.ensures.value in
    record {
      has = record { exists = subst (λ n. c.args.vertex < n) (count g s) c.if-vertex-edges.false; within = c.in_ok-found.ensures.star.within };
      frame = frame;
      grown = c.in_ok-found.ensures.ended.frame;
      least = c.in_ok-found.ensures.star.least;
      corners = map (corner_in m.order) c.in_ok-found.found.corners.items;
      round = c.in_ok-found.ensures.star.round;
      in_turn = c.in_ok-found.ensures.star.turning;
      is_text = subst (λ cs. c.in_ok-star_lines.field-0.items ≡ flat_map (corner_line t) (map (corner_in m.order) cs)) value
          (c.in_ok-star_lines.ensures t frame (subst (All (λ (k : Corner). Stands t frame k.tile)) (sym value)
          c.in_ok-found.ensures.star.stand.stand));
    }
