-- The numbers of a rule are the same over the points of the program and over the numbers of an order.
use Rattle.std.proofs.Common.{◌≡◌, ℕ, ◌<◌, zero, suc, pos, List, [], ◌∷◌, map, length, get_or, refl, sym, ap, ◌∙◌}
use Rattle.std.proofs.lemmas.List.{length-map}
use Rattle.std.proofs.lemmas.List as lists
use Rattle.theory_substitution.specs.Rule.{Rule, Kind, Child as TheChild, kind_of, children_of}
use Rattle.theory_substitution.specs.RuleParts.{map_rule, map_kind, map_child, vertices_of, edge_count, vertex, child_of}
use Rattle.cyclo_points.specs.declared.order.Order.{Order}
use Rattle.cyclo_points.specs.declared.point.Point.{Point}
use Rattle.cyclo_points.specs.Order.{NumberOf, points_of}
use Rattle.cyclo_points.specs.Point.{point_in}
use Rattle.rule_model.specs.declared.rule.Rule.{Rule as ProgramRule}
use Rattle.rule_model.specs.declared.child.Child.{Child}
use Rattle.rule_model.specs.Views.{as_rule, as_child, rule_in, child_in}

pub get_or-map : {A B : Type 0} (f : A → B) (xs : List A) (i : ℕ) (d : A) → get_or (map f xs) i (f d) ≡ f (get_or xs i d)
get_or-map f [] i d = refl
get_or-map f (x ∷ xs) zero d = refl
get_or-map f (x ∷ xs) (suc i) d = get_or-map f xs i d

pub kind_of-map : {A B : Type 0} (f : A → B) (r : Rule A) (k : ℕ) → kind_of (map_rule f r) k ≡ map_kind f (kind_of r k)
kind_of-map f r k = get_or-map (map_kind f) r.kinds k (record { vertices = []; edges = []; children = [] })

pub kind_count-in : (o : Order) (r : ProgramRule) → length (rule_in o r).kinds ≡ length (as_rule r).kinds
kind_count-in o r = length-map (as_rule r).kinds (map_kind (point_in o))

-- a kind has as many edges, vertices and children over the numbers of each order
pub edge_count-in : (o : Order) (r : ProgramRule) (k : ℕ) → edge_count (rule_in o r) k ≡ edge_count (as_rule r) k
edge_count-in o r k = ap (λ (x : Kind _). length x.edges) (kind_of-map (point_in o) (as_rule r) k)

pub vertex_count-in : (o : Order) (r : ProgramRule) (k : ℕ) → length (vertices_of (rule_in o r) k) ≡ length (vertices_of (as_rule r) k)
vertex_count-in o r k = ap (λ (x : Kind _). length x.vertices) (kind_of-map (point_in o) (as_rule r) k)
    ∙ length-map (vertices_of (as_rule r) k) (point_in o)

pub child_count-in : (o : Order) (r : ProgramRule) (k : ℕ) → length (children_of (rule_in o r) k) ≡ length (children_of (as_rule r) k)
child_count-in o r k = ap (λ (x : Kind _). length x.children) (kind_of-map (point_in o) (as_rule r) k)
    ∙ length-map (children_of (as_rule r) k) (map_child (point_in o))

-- a vertex and a child of the lists are those of the numbers
pub vertex-in : (o : Order) (r : ProgramRule) (k i : ℕ) (p none : Point)
    → i < length (vertices_of (as_rule r) k) → p ≡ get_or (vertices_of (as_rule r) k) i none
    → point_in o p ≡ vertex (points_of o) (rule_in o r) k i
vertex-in o r k i p none l h =
    let zero_of : NumberOf o = (points_of o).ring.int (pos 0) in
    ap (point_in o) h
    ∙ sym (lists.get_or-map (point_in o) (vertices_of (as_rule r) k) i none zero_of l)
    ∙ sym (ap (λ (x : Kind (NumberOf o)). get_or x.vertices i zero_of) (kind_of-map (point_in o) (as_rule r) k))

pub child-in : (o : Order) (r : ProgramRule) (k i : ℕ) (c : Child) (none : TheChild Point)
    → i < length (children_of (as_rule r) k) → as_child c ≡ get_or (children_of (as_rule r) k) i none
    → child_in o c ≡ child_of (points_of o) (rule_in o r) k i
child-in o r k i c none l h =
    let no_child : TheChild (NumberOf o) = record { kind = 0; motion = record { turn = 0; shift = (points_of o).ring.int (pos 0) } } in
    ap (map_child (point_in o)) h
    ∙ sym (lists.get_or-map (map_child (point_in o)) (children_of (as_rule r) k) i none no_child l)
    ∙ sym (ap (λ (x : Kind (NumberOf o)). get_or x.children i no_child) (kind_of-map (point_in o) (as_rule r) k))
