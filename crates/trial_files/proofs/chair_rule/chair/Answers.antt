use Rattle.std.proofs.Common.{◌≡◌, ◌∙◌, ℕ, List, [], ◌∷◌, map, ap, refl}
use Rattle.theory_substitution.specs.Rule.{Child as TheChild, EdgeType, Kind}
use Rattle.cyclo_points.specs.declared.point.Point.{Point}
use Rattle.rule_model.specs.Views.{as_child, as_type, as_kind}
use Rattle.trial_files.proofs.Chair.{chair_type, chair_kind, chair-limits-at}
use Rattle.trial_files.proofs.chair_rule.chair.Goals as goal

pub returns-clause-limits : goal.returns-clause-limits
returns-clause-limits c =
    let type_of : List ℕ → List EdgeType = λ parts. record { mate = 0; parts = parts } ∷ [] in
    let kind_of : List Point → List ℕ → List (TheChild Point)
    → List (Kind Point) = λ vertices edges children. record
    { vertices = vertices; edges = edges; children = children } ∷ [] in
    let types : map as_type c.in_ok-types.types.items ≡ chair_type
    ∷ [] = ap (map as_type) c.in_ok-types.ensures.items ∙ ap type_of c.in_ok-parts.ensures.items in
    let kinds : map as_kind c.in_ok-kinds.kinds.items ≡ chair_kind ∷ [] =
    ap (map as_kind) c.in_ok-kinds.ensures.items
    ∙ ap (λ (vertices : List Point). kind_of vertices c.in_ok-edges.edges.items
    (map as_child c.in_ok-children.children.items)) c.in_ok-vertices.ensures.items
    ∙ ap (λ (edges : List ℕ). kind_of chair_kind.vertices edges (map as_child c.in_ok-children.children.items)) c.in_ok-edges.ensures.items
    ∙ ap (λ children. kind_of chair_kind.vertices chair_kind.edges (map as_child children)) c.in_ok-children.ensures.items in
    chair-limits-at _ _ _ _ refl c.new-glue.ensures.items types kinds
