-- Where the edges of an inflated prototile lie, edge by edge.
use Rattle.std.proofs.Common.{◌≡◌, ℕ, ◌<◌, List, map, length, get_or, sym, ap, subst, ◌∙◌}
use Rattle.std.specs.List.{All}
use Rattle.std.proofs.lemmas.List.{get_or-map, length-map}
use Rattle.std.proofs.lemmas.Simd.{map-map}
use Rattle.theory_edge_to_edge.specs.Lying.{lie_of}
use Rattle.cyclo_points.specs.Order.{points_of}
use Rattle.rule_model.specs.declared.rule.Rule.{Rule}
use Rattle.rule_model.specs.Views.{rule_of}
use Rattle.dissect_check.specs.declared.placed_edge.PlacedEdge.{PlacedEdge}
use Rattle.dissect_check.specs.declared.lie.Lie.{Lie}
use Rattle.dissect_check.specs.declared.inflated.Inflated.{Inflated}
use Rattle.dissect_check.specs.Views.{edge_in, as_lie, IsInflated}

-- two lists that are the same under two views, place by place
pub same_at : {A B C : Type 0} (f : A → C) (g : B → C) (xs : List A) (ys : List B) (n : ℕ) (x : A) (y : B)
    → n < length xs → n < length ys → map f xs ≡ map g ys
    → x ≡ get_or xs n x → y ≡ get_or ys n y → f x ≡ g y
same_at f g xs ys n x y l m e p q =
    ap f p ∙ sym (get_or-map f xs n x (f x) l) ∙ ap (λ zs. get_or zs n (f x)) e ∙ get_or-map g ys n y (f x) m ∙ sym (ap g q)

-- a fact of each element, at one
pub All-at : {X : Type 0} (P : X → Type 0) (xs : List X) (n : ℕ) (x : X) → n < length xs → x ≡ get_or xs n x → All P xs → P x
All-at P xs n x l e all = subst P (sym e) (all n x l)

-- edge number n of the list, and where it lies
pub record IsAt (i : Inflated) (n : ℕ) (s : PlacedEdge) (l : Lie) : Type 0 where
  pub edge_there : n < length i.edges.items
  pub lie_there : n < length i.lies.items
  pub edge : (d : PlacedEdge) → s ≡ get_or i.edges.items n d
  pub lie : (d : Lie) → l ≡ get_or i.lies.items n d

module _ (r : Rule) (k : ℕ) (i : Inflated) (fact : IsInflated r k i) where
  -- the lies of the listed edges
  lies_of_edges : map as_lie i.lies.items ≡ map (λ s. lie_of (points_of r.order) (rule_of r) k (edge_in r.order s)) i.edges.items
  lies_of_edges =
      fact.lies ∙ ap (map (lie_of (points_of r.order) (rule_of r) k)) (sym fact.edges)
      ∙ map-map (lie_of (points_of r.order) (rule_of r) k) (edge_in r.order) i.edges.items

  -- where edge number n lies
  pub lie_at : (n : ℕ) (s : PlacedEdge) (l : Lie) → n < length i.edges.items → n < length i.lies.items
      → s ≡ get_or i.edges.items n s → l ≡ get_or i.lies.items n l
      → as_lie l ≡ lie_of (points_of r.order) (rule_of r) k (edge_in r.order s)
  lie_at n s l p q e h = same_at as_lie (λ s. lie_of (points_of r.order) (rule_of r) k (edge_in r.order s))
      i.lies.items i.edges.items n l s q p lies_of_edges h e

  pub length-lies : length i.lies.items ≡ length i.edges.items
  length-lies = sym (length-map i.lies.items as_lie) ∙ ap length lies_of_edges
      ∙ length-map i.edges.items (λ s. lie_of (points_of r.order) (rule_of r) k (edge_in r.order s))
