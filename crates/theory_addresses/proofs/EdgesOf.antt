-- The kinds that contact tables have, and the edges of a kind.
use Rattle.std.proofs.Common.{◌≡◌, ℕ, zero, suc, ◌<◌, List, [], ◌∷◌, length, slice_get, IsSome, refl, sym, ap, ◌∙◌, subst, arith}
use Rattle.std.proofs.lemmas.List.{length-map}
use Rattle.theory_addresses.specs.Tables.{Tables, KindTables, child_kinds, kind_tables, type_of}

-- a kind of a rule is one of its contact tables, which have its child kinds
pub kind_in_tables : (t : Tables) (children : List (List ℕ)) (kind : ℕ) → child_kinds t ≡ children → kind < length children → kind < length t.kinds
kind_in_tables t children kind same l =
    subst (λ n. kind < n) (ap (λ (rows : List (List ℕ)). length rows) (sym same) ∙ length-map t.kinds (λ (k : KindTables). k.children)) l

some_at : (xs : List ℕ) (i : ℕ) → i < length xs → IsSome (slice_get xs i)
some_at [] i l = absurd (omega arith)
some_at (x ∷ xs) zero l = refl
some_at (x ∷ xs) (suc i) l = some_at xs i (omega arith)

-- an edge below their number has a type
pub edge_has_type : (t : Tables) (kind edge : ℕ) → edge < length (kind_tables t kind).types → IsSome (type_of t kind edge)
unfolding type_of
edge_has_type t kind edge l = some_at (kind_tables t kind).types edge l
