use Rattle.std.proofs.Common.{◌≡◌, ℕ, List, map, ◌∙◌, refl, sym, ap}
use Rattle.std.proofs.lemmas.Bool.{eq-eqb, ne_eqb}
use Rattle.theory_substitution.specs.RuleParts.{mate}
use Rattle.theory_edge_to_edge.specs.Edges.{is_opposite}
use Rattle.theory_edge_to_edge.specs.Lying.{numbers_along, met_by, lie_among}
use Rattle.cyclo_points.specs.Order.{points_of}
use Rattle.rule_model.specs.declared.rule.Rule.{Rule}
use Rattle.rule_model.specs.Views.{rule_of}
use Rattle.dissect_check.specs.declared.few.Few.{Few}
use Rattle.dissect_check.specs.declared.few.Few.TheVariants.{None, One, Many}
use Rattle.dissect_check.specs.declared.line.Line.{Line}
use Rattle.dissect_check.specs.declared.placed_edge.PlacedEdge.{PlacedEdge}
use Rattle.dissect_check.specs.Few.{few_of}
use Rattle.dissect_check.specs.Views.{line_in, edge_in}
use Rattle.std.specs.List.{filter}
use Rattle.dissect_check.proofs.LieAmong.{lie_few, lies_by, not_alone}
use Rattle.dissect_check.proofs.lying.lie_among.Goals as goal

-- the numbers of the wholes along which an edge lies
abbrev numbers : (r : Rule) → List Line → PlacedEdge → List ℕ
numbers r wholes s = numbers_along (points_of r.order) 0 (map (line_in r.order) wholes) (line_in r.order s.line)

lies : (r : Rule) (edges : List PlacedEdge) (wholes : List Line) (s : PlacedEdge) (f : Few PlacedEdge) (g : Few ℕ)
    → f ≡ few_of (filter (λ t. is_opposite (points_of r.order) (edge_in r.order s) (edge_in r.order t)) edges) → g ≡ few_of (numbers r wholes s)
    → lie_few (rule_of r) (edge_in r.order s) (edge_in r.order) f g ≡ lie_among (points_of r.order)
    (rule_of r) (map (edge_in r.order) edges) (map (line_in r.order) wholes) (edge_in r.order s)
lies r edges wholes s f g h k = lies_by (rule_of r) (edge_in r.order s) (edge_in r.order)
    (is_opposite (points_of r.order) (edge_in r.order s)) edges (numbers r wholes s) f g h k

pub returns-then-mate-from : goal.returns-then-mate-from
returns-then-mate-from c =
    let r = c.args.rule.now in
    let s = c.args.s.now in
    let t = c.in-One.t in
    let mates : mate (rule_of r) s.ty ≡ t.ty = sym (ap (mate (rule_of r)) c.from.ensures)
    ∙ sym (c.mate.ensures.numbers r.order) ∙ c.if-mate-from.true ∙ c.from-in-One.ensures in
    ap (λ b. met_by b (edge_in r.order t)) (sym (eq-eqb (mate (rule_of r) s.ty) t.ty mates))
    ∙ lies r c.args.edges.now c.args.wholes.now s (One t) _ (c.in-One.ensures r c.requires.edges.edges_fit c.requires.s_fit) refl

pub returns-else-mate-from : goal.returns-else-mate-from
returns-else-mate-from c =
    let r = c.args.rule.now in
    let s = c.args.s.now in
    let t = c.in-One.t in
    let back : mate (rule_of r) s.ty ≡ t.ty → c.mate.result ≡ c.from-in-One.result
    = λ e. c.mate.ensures.numbers r.order ∙ ap (mate (rule_of r)) c.from.ensures ∙ e ∙ sym c.from-in-One.ensures in
    ap (λ b. met_by b (edge_in r.order t)) (sym (ne_eqb (mate (rule_of r) s.ty) t.ty (λ e. c.if-mate-from.false (back e))))
    ∙ lies r c.args.edges.now c.args.wholes.now s (One t) _ (c.in-One.ensures r c.requires.edges.edges_fit c.requires.s_fit) refl

pub returns-in-Many : goal.returns-in-Many
returns-in-Many c = lies c.args.rule.now c.args.edges.now c.args.wholes.now c.args.s.now Many _
    (c.in-Many.ensures c.args.rule.now c.requires.edges.edges_fit c.requires.s_fit) refl

pub returns-in-One-wholes_along : goal.returns-in-One-wholes_along
returns-in-One-wholes_along c = lies c.args.rule.now c.args.edges.now c.args.wholes.now c.args.s.now None (One c.in-One-wholes_along.edge)
    (c.in-None.ensures c.args.rule.now c.requires.edges.edges_fit c.requires.s_fit) c.in-One-wholes_along.ensures

pub returns-in_default : goal.returns-in_default
returns-in_default c =
    not_alone c.wholes_along.result c.in_default.not-One
    ∙ lies c.args.rule.now c.args.edges.now c.args.wholes.now c.args.s.now None c.wholes_along.result
    (c.in-None.ensures c.args.rule.now c.requires.edges.edges_fit c.requires.s_fit) c.wholes_along.ensures
