-- Edges of a path, one after another.
use Rattle.std.proofs.Common.{◌≡◌, ◌<◌, ◌≤◌, ◌+◌, ◌∷◌, ℕ, List, length, get_or, take, drop, sym, ap, ◌∙◌, subst}
use Rattle.std.proofs.lemmas.List.{length-map}
use Rattle.theory_addresses.specs.Address.{Address}
use Rattle.theory_addresses.specs.Tables.{Tables, KindTables, child_kinds, kind_tables}
use Rattle.rule_model.specs.declared.rule.Rule.{Rule}
use Rattle.rule_model.specs.Tiling.{tiling_of, contacts, children}
use Rattle.tile_place.specs.Crossed.{edges_of}
use Rattle.tile_place.proofs.KindEdges.{edges_counted}
use Rattle.theory_walks.specs.Frames.{FrameValue, whole, at_depth}
use Rattle.theory_walks.specs.Paths.{IsStopped}
use Rattle.theory_walks.proofs.Walked.{parted, IsOnPath}

-- in a frame before, the path is stopped within its front
pub stopped : (m : Rule) (old now : FrameValue) (a : Address) (path : List ℕ) (i : ℕ) → IsOnPath m old now a (take i path) → i < length path
    → (n : ℕ) → length old.digits ≤ n → n < length now.digits → IsStopped (tiling_of m) (whole (at_depth (tiling_of m) n old)) path
stopped m old now a path i h below n l k = subst
    (IsStopped (tiling_of m) (whole (at_depth (tiling_of m) n old))) (sym (parted path i below))
    (h.before n (get_or path i 0 ∷ drop (i + 1) path) l k)

-- a kind of the rule is one of its tables
pub in_tables : (t : Tables) (inside now : Rule) (kind : ℕ) → t ≡ contacts (tiling_of inside) → inside ≡ now
    → child_kinds (contacts (tiling_of now)) ≡ children (tiling_of now)
    → kind < length (children (tiling_of now)) → kind < length t.kinds
in_tables t inside now kind is same kinds l =
    subst (λ n. kind < n) (ap (λ (rows : List (List ℕ)). length rows)
    (sym (ap child_kinds (is ∙ ap (λ (r : Rule). contacts (tiling_of r)) same) ∙ kinds))
    ∙ length-map t.kinds (λ (k : KindTables). k.children)) l

-- an edge below the number of edges exists
pub edge_there : (t : Tables) (inside now : Rule) (kind edge edges : ℕ) → t ≡ contacts (tiling_of inside)
    → inside ≡ now → edges ≡ length (kind_tables t kind).types → edge < edges
    → edge < edges_of (tiling_of now) kind
edge_there t inside now kind edge edges is same count below = subst (λ n. edge < n) (edges_counted t inside now kind edges is same count) below
