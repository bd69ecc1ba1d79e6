-- The vertices of a kind's prototile as the program has them.
use Rattle.std.proofs.Common.{◌≡◌, ℕ, ◌<◌, ◌≤◌, List, All, map, length, sym, ap, ◌∙◌, subst, arith}
use Rattle.std.proofs.lemmas.List.{length-map}
use Rattle.cyclo_points.specs.declared.point.Point.{Point}
use Rattle.cyclo_points.specs.Order.{NumberOf}
use Rattle.cyclo_points.specs.Point.{point_in}
use Rattle.rule_model.specs.declared.rule.Rule.{Rule}
use Rattle.rule_model.specs.Usable.{IsSmall, IsUsable}
use Rattle.rule_model.specs.Views.{rule_of}
use Rattle.theory_substitution.specs.RuleParts.{vertices_of, edge_count}

pub record HasVertices (m : Rule) (kind : ℕ) (vs : List Point) : Type 0 where
  pub numbers : map (point_in m.order) vs ≡ vertices_of (rule_of m) kind
  pub each_edge : length vs ≡ edge_count (rule_of m) kind
  pub small : All (IsSmall m.order) vs

-- those that a checked rule has are those of the machine's rule
pub its-vertices : (m r : Rule) (kind : ℕ) (vs : List Point) → r ≡ m
    → map (point_in r.order) vs ≡ vertices_of (rule_of r) kind → length vs ≡ edge_count (rule_of r) kind
    → All (IsSmall r.order) vs
    → HasVertices m kind vs
its-vertices m r kind vs same numbers each small = subst (λ q. HasVertices q kind vs) same
    (record { numbers = numbers; each_edge = each; small = small })

-- as many vertices
pub as-many : (m : Rule) (kind : ℕ) (vs : List Point) → HasVertices m kind vs → length vs ≡ length (vertices_of (rule_of m) kind)
as-many m kind vs h = sym (length-map vs (point_in m.order)) ∙ ap (λ (zs : List (NumberOf m.order)). length zs) h.numbers

-- a vertex for each edge
pub each-its-vertex : (m : Rule) (kind : ℕ) (vs : List Point) → HasVertices m kind vs
    → edge_count (rule_of m) kind ≡ length (vertices_of (rule_of m) kind)
each-its-vertex m kind vs h = sym h.each_edge ∙ as-many m kind vs h

-- at least 3 and at most 12
module _ (m : Rule) (kind : ℕ) (vs : List Point) (h : HasVertices m kind vs) (usable : IsUsable m) (exists : kind < length (rule_of m).kinds) where
  pub at-least_3 : 3 ≤ length vs
  at-least_3 = let a = usable.numbered.at_least_3_edges kind exists in let b = h.each_edge in omega (arith, a, b)

  pub at-most_12 : length vs ≤ 12
  at-most_12 = let a = usable.numbered.at_most_12_edges kind exists in let b = h.each_edge in omega (arith, a, b)

-- an edge of the kind has its vertex
pub edge-there : (m : Rule) (kind : ℕ) (vs : List Point) → HasVertices m kind vs → (e : ℕ) → e < edge_count (rule_of m) kind → e < length vs
edge-there m kind vs h e l = subst (λ n. e < n) (sym h.each_edge) l

-- what is said of each of none
pub none-of : (P : Point → Type 0) (xs : List Point) → length xs ≡ 0 → All P xs
none-of P xs e = λ i d l. absurd (omega (arith, e, l))
