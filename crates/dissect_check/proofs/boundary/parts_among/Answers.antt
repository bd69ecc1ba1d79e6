use Rattle.std.proofs.Common.{◌≡◌, ◌+◌, ◌<◌, ◌≤◌, ◌&&◌, [], ◌∷◌, ◌++◌, map, length, sym, ap, ap₂, subst, ◌∙◌, arith, eq-eqb}
use Rattle.std.proofs.lemmas.Grind.{common_steps, elements}
use Rattle.std.proofs.lemmas.List.{map_push, length_push, length-map}
use Rattle.std.proofs.lemmas.List.Elements.{All-filter}
use Rattle.std.proofs.lemmas.Bool.{ne_eqb}
use Rattle.theory_substitution.specs.RuleParts.{parts}
use Rattle.theory_edge_to_edge.specs.Contacts.{edge_name}
use Rattle.cyclo_points.specs.Order.{points_of}
use Rattle.cyclo_points.specs.Point.{point_in}
use Rattle.edge_tables.specs.Views.{as_child_edge}
use Rattle.rule_model.specs.Views.{rule_of}
use Rattle.dissect_check.specs.Views.{line_in, edge_in, IsFit}
use Rattle.dissect_check.proofs.Walk.{begins, one_of, not_one_of, few_of-all, IsFound, IsFound-next, none-fails, wrong-fails, all-found}
use Rattle.dissect_check.proofs.boundary.parts_among.Goals as goal

pub loop-part-preserved : goal.loop-part-preserved
loop-part-preserved c =
    let r = c.args.rule.now in
    let o = r.order in
    let P = points_of o in
    let on = map (edge_in o) c.args.edges.now in
    let whole = line_in o c.args.whole.now in
    let types = parts (rule_of r) c.args.ty in
    let p = point_in o c.loop-part.from in
    let s = edge_in o c.in-One.next in
    let names = map as_child_edge c.loop-part.names.items in
    let more : map as_child_edge c.push.new.self.items ≡ names ++ edge_name s ∷ [] =
    ap (map as_child_edge) c.in_ok-push.ensures.items
    ∙ map_push as_child_edge c.loop-part.names.items c.name.result
    ∙ ap (λ n. names ++ n ∷ []) (c.name.ensures o) in
    record {
      found = subst (λ ns. IsFound P on whole types ns (c.loop-part.part + 1) (point_in o c.in-One.next.line.to)) (sym more)
          (IsFound-next P on whole types names c.loop-part.part p s
          (subst (λ n. c.loop-part.part < n) (c.part_count-part-end.ensures.numbers o)
          c.loop-part-test.true) (one_of (edge_in o) (begins (points_of o) (point_in o c.loop-part.from))
          c.args.edges.now c.in-One.next (c.in-One.ensures r c.requires.edges_fit
          c.loop-part.invariant.from_of))
          (eq-eqb _ _ (sym c.from.ensures ∙ c.if-from-part.false ∙ c.part.ensures.numbers o)) c.loop-part.invariant.found);
      from_of = (few_of-all (IsFit r) _ c.in-One.next (c.in-One.ensures r c.requires.edges_fit c.loop-part.invariant.from_of)
          (All-filter (λ s. begins (points_of o) (point_in o c.loop-part.from) (edge_in o s)) (IsFit r)
          c.args.edges.now c.requires.edges_fit)).line.to_of;
      long = ap length c.in_ok-push.ensures.items ∙ length_push c.loop-part.names.items c.name.result ∙ ap (λ n. n + 1) c.loop-part.invariant.long;
    }

pub returns-in_default-clause-parts : goal.returns-in_default-clause-parts
returns-in_default-clause-parts c =
    let r = c.args.rule.now in
    let o = r.order in
    none-fails (points_of o) (map (edge_in o) c.args.edges.now) (line_in o c.args.whole.now)
    (parts (rule_of r) c.args.ty) (map as_child_edge c.loop-part.names.items) c.loop-part.part
    (point_in o c.loop-part.from) (subst (λ n. c.loop-part.part < n) (c.part_count-part-end.ensures.numbers o)
    c.loop-part-test.true) (not_one_of (edge_in o) (begins (points_of o) (point_in o c.loop-part.from))
    c.args.edges.now c.edges_from.result (c.edges_from.ensures r c.requires.edges_fit
    c.loop-part.invariant.from_of) c.in_default.not-One) c.loop-part.invariant.found

pub returns-then-from-part-clause-parts : goal.returns-then-from-part-clause-parts
returns-then-from-part-clause-parts c =
    let r = c.args.rule.now in
    let o = r.order in
    wrong-fails (points_of o) (map (edge_in o) c.args.edges.now) (line_in o c.args.whole.now)
    (parts (rule_of r) c.args.ty) (map as_child_edge c.loop-part.names.items) c.loop-part.part
    (point_in o c.loop-part.from) (edge_in o c.in-One.next)
    (subst (λ n. c.loop-part.part < n) (c.part_count-part-end.ensures.numbers o) c.loop-part-test.true)
    (one_of (edge_in o) (begins (points_of o) (point_in o c.loop-part.from)) c.args.edges.now
    c.in-One.next (c.in-One.ensures r c.requires.edges_fit c.loop-part.invariant.from_of))
    (ne_eqb _ _ (λ e. c.if-from-part.true (c.from.ensures ∙ e ∙ sym (c.part.ensures.numbers o))))
    c.loop-part.invariant.found

pub returns-then-edges-len-clause-parts : goal.returns-then-edges-len-clause-parts
returns-then-edges-len-clause-parts c =
    let r = c.args.rule.now in
    let o = r.order in
    let types = parts (rule_of r) c.args.ty in
    let count : length (map (edge_in o) c.args.edges.now) ≡ length types =
    length-map c.args.edges.now (edge_in o) ∙ (let e : length types ≡ c.part_count-part-end.result = sym
    (c.part_count-part-end.ensures.numbers o) in let l = c.loop-part.invariant.long in omega arith) in
    all-found (points_of o) (map (edge_in o) c.args.edges.now) (line_in o c.args.whole.now) types
    (map as_child_edge c.loop-part.names.items) c.loop-part.part
    (point_in o c.loop-part.from) (subst (λ n. n ≤ c.loop-part.part) (c.part_count-part-end.ensures.numbers o) c.loop-part-test.false)
    (ap₂ (λ a b. a && b) (sym (c.same_point.ensures o c.loop-part.invariant.from_of
    c.requires.whole_small.to_of) ∙ c.if-same_point.true) (eq-eqb _ _ count)) c.loop-part.invariant.found

pub loop-part-init : goal.loop-part-init
loop-part-init c = grind (arith, common_steps)

pub overflow_cast-result-then-from-part : goal.overflow_cast-result-then-from-part
overflow_cast-result-then-from-part c = grind (arith, elements)

pub returns-in_err-push-clause-parts : goal.returns-in_err-push-clause-parts
returns-in_err-push-clause-parts c = grind (arith, common_steps)

pub returns-in_err-push-clause-few : goal.returns-in_err-push-clause-few
returns-in_err-push-clause-few c = grind (arith, common_steps)

pub returns-then-edges-len-clause-few : goal.returns-then-edges-len-clause-few
returns-then-edges-len-clause-few c = grind (arith, elements)
