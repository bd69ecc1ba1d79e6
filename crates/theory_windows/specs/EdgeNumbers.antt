-- The edges of a polygon by their numbers.
use Rattle.std.specs.Prelude.{◌≡◌, ℕ, suc, ◌<◌, List, length, get_or, cond, nat_lt, slice_get, Some}
use Rattle.theory_edge_to_edge.specs.Edges.{Edge}
use Rattle.theory_windows.specs.Outlines.{edges}

-- edge number e runs from vertex number e to the next one, and from the last to the first
abbrev pub edge_at : {A : Type 0} → A → List A → ℕ → Edge A
edge_at o vs e = record {
  from = get_or vs e o;
  to = get_or vs (cond (nat_lt (suc e) (length vs)) (suc e) 0) o;
}

abbrev pub EdgesByNumber : Type 0 → Type 0
EdgesByNumber A = (o : A) (vs : List A) (e : ℕ) → e < length vs
    → slice_get (edges vs) e ≡ Some (edge_at o vs e)
