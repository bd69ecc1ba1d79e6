use Rattle.std.proofs.Common.{◌<◌, ◌≤◌, inl, inr, refl, sym, subst}
use Rattle.std.proofs.lemmas.Result.{IfOk-weaker, IfErr-weaker}
use Rattle.rule_model.specs.Tiling.{tiling_of}
use Rattle.tile_place.specs.Crossed.{edges_of}
use Rattle.tile_place.proofs.KindEdges.{edges_counted}
use Rattle.tiling_c.specs.Star.{FindsStar, EndsStar, GivesStar, RefusesStar}
use Rattle.tiling_c.proofs.star.star_of.Goals as goal

pub returns-then-vertex-edges-clause-refused : goal.returns-then-vertex-edges-clause-refused
returns-then-vertex-edges-clause-refused c =
    let counted = edges_counted c.tables.result.now c.checked.result.now c.args.machine.now
    c.args.frame.now.base.kind c.edges.result c.tables.ensures.contacts c.checked.ensures.rule
    c.edges.ensures.count in
    inr (inl (refl, c.in-Some.ensures.named.0 refl, subst (λ n. n ≤ c.args.vertex) counted c.if-vertex-edges.true))

pub find-requires-clause-vertex : goal.find-requires-clause-vertex
find-requires-clause-vertex c =
    let counted = edges_counted c.tables.result.now c.checked.result.now c.args.machine.now
    c.args.frame.now.base.kind c.edges.result c.tables.ensures.contacts c.checked.ensures.rule
    c.edges.ensures.count in record {
      frame = c.in-Some.ensures.is_frame;
      exists = subst (λ f. c.args.vertex < edges_of (tiling_of c.args.machine.now) f.base.kind)
          (sym c.in-Some.ensures.seen) (subst (λ n. c.args.vertex < n) counted c.if-vertex-edges.false);
    }

pub returns-clause-given : goal.returns-clause-given
returns-clause-given c =
    let t = tiling_of c.args.machine.now in
    let counted = edges_counted c.tables.result.now c.checked.result.now c.args.machine.now
    c.args.frame.now.base.kind c.edges.result c.tables.ensures.contacts c.checked.ensures.rule
    c.edges.ensures.count in
    IfOk-weaker c.find.result _ (λ found. GivesStar t c.args.frame.now c.args.vertex found.corners.items)
    (λ found x. record {
      named = c.in-Some.ensures.named.0 refl;
      exists = subst (λ n. c.args.vertex < n) counted c.if-vertex-edges.false;
      found = subst (λ f. FindsStar t f c.args.vertex found.corners.items) c.in-Some.ensures.seen x;
    }) c.find.ensures.found

pub returns-clause-refused : goal.returns-clause-refused
returns-clause-refused c =
    let t = tiling_of c.args.machine.now in
    let counted = edges_counted c.tables.result.now c.checked.result.now c.args.machine.now
    c.args.frame.now.base.kind c.edges.result c.tables.ensures.contacts c.checked.ensures.rule
    c.edges.ensures.count in
    IfErr-weaker c.find.result _ (RefusesStar t c.args.frame.now c.args.vertex)
    (λ status x. inr (inr (record {
      named = c.in-Some.ensures.named.0 refl;
      exists = subst (λ n. c.args.vertex < n) counted c.if-vertex-edges.false;
      stopped = subst (λ f. EndsStar t f c.args.vertex status) c.in-Some.ensures.seen x;
    }))) c.find.ensures.ended
