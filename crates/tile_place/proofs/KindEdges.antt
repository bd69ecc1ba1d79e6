-- The contact tables of a tiling have, for each kind, the edges that its rule gives it.
use Rattle.std.proofs.Common.{◌≡◌, ◌↔◌, ◌<◌, ℕ, IsSome, length, refl, sym, ap, ◌∙◌, subst}
use Rattle.theory_addresses.specs.Tables.{Tables, KindTables, kind_tables, type_of}
use Rattle.theory_addresses.proofs.TableBounds.{some_of}
use Rattle.cyclo_points.specs.Order.{points_of}
use Rattle.theory_edge_to_edge.proofs.TablesOf.{kind_tables-is, type_of-at, type_of-found}
use Rattle.rule_model.specs.declared.rule.Rule.{Rule}
use Rattle.rule_model.specs.Tiling.{Tiling, tiling_of, contacts}
use Rattle.rule_model.specs.Views.{rule_of}
use Rattle.tile_place.specs.Crossed.{edges_of}

-- the number of edges that the tables of a tiling give a kind
pub edges_counted : (t : Tables) (inside now : Rule) (kind edges : ℕ) → t ≡ contacts (tiling_of inside)
    → inside ≡ now → edges ≡ length (kind_tables t kind).types → edges ≡ edges_of (tiling_of now) kind
edges_counted t inside now kind edges is same h =
    h ∙ ap (λ (u : Tables). length (kind_tables u kind).types) (is ∙ ap (λ (m : Rule). contacts (tiling_of m)) same)
    ∙ ap (λ (k : KindTables). length k.types) (kind_tables-is (points_of now.order) (rule_of now) kind)

-- so an edge has a type in the tables exactly where it exists
pub edge_typed : (t : Tiling) (kind edge : ℕ) → IsSome (type_of (contacts t) kind edge) ↔ edge < edges_of t kind
edge_typed t kind edge = (
  λ h. let ty = some_of (type_of (contacts t) kind edge) h in (type_of-found (points_of t.order) t.rule kind edge ty.0 ty.1).0,
  λ below. subst IsSome (sym (type_of-at (points_of t.order) t.rule kind edge below)) refl,
)
