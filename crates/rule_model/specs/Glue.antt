-- The edge along which a half of a tile is glued to the other half.
use Rattle.std.specs.Prelude.{◌≡◌, ℕ, ◌<◌, Bool, true, ◌||◌, length, nat_eq}
use Rattle.theory_substitution.specs.Rule.{Rule}
use Rattle.theory_substitution.specs.RuleParts.{mate, edge_count, edge_type}
use Rattle.theory_addresses.specs.Search.{some_below}
use Rattle.theory_edge_to_edge.specs.Glue.{glue_type}

-- a type is a glue type of the rule or the mate of one
abbrev pub is_glued : {A : Type 0} → Rule A → ℕ → Bool
is_glued r ty = some_below (length r.glue)
    (λ i. nat_eq ty (glue_type r i) || nat_eq ty (mate r (glue_type r i)))

-- the type of edge number e of kind k is a glue type or the mate of one
pub record IsGlueEdge {A : Type 0} (r : Rule A) (k e : ℕ) : Type 0 where
  pub exists : e < edge_count r k
  pub glued : is_glued r (edge_type r k e) ≡ true

-- edge number e is the only edge of kind k whose type is a glue type or the mate of one
pub record IsOnlyGlueEdge {A : Type 0} (r : Rule A) (k e : ℕ) : Type 0 where
  pub glue_edge : IsGlueEdge r k e
  pub only : (f : ℕ) → IsGlueEdge r k f → f ≡ e
