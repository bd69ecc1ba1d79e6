-- The contact tables of a rule have its child kinds.
use Rattle.std.proofs.Common.{◌≡◌, ◌<◌, List, [], map, length, get_or, sym, ◌∙◌, subst}
use Rattle.std.proofs.lemmas.List.{same_lists, length-map, get_or-map}
use Rattle.theory_substitution.specs.Points.{Points}
use Rattle.theory_substitution.specs.Rule.{Rule, Kind, Child}
use Rattle.theory_substitution.specs.Rule as rules
use Rattle.theory_addresses.specs.Tables as tables
use Rattle.theory_addresses.specs.Tables.{KindTables}
use Rattle.theory_edge_to_edge.specs.Contacts.{tables_of, tables_of_kind}
use Rattle.theory_addresses.specs.Search.{below}
use Rattle.theory_addresses.proofs.Ranges.{map-below, length-below, get_or-below}

-- what is made of the elements of a list, by their numbers
below-elements : {A B : Type 0} (f : A → B) (d : A) (xs : List A) → below (λ i. f (get_or xs i d)) (length xs) ≡ map f xs
below-elements f d xs = same_lists (below (λ i. f (get_or xs i d)) (length xs)) (map f xs)
    (length-below (λ i. f (get_or xs i d)) (length xs) ∙ sym (length-map xs f)) (λ k e l.
    let within : k < length xs = subst (λ n. k < n) (length-below (λ i. f (get_or xs i d)) (length xs)) l in
    get_or-below (λ i. f (get_or xs i d)) (length xs) k e within
    ∙ sym (get_or-map f xs k d e within))

pub child_kinds_of_tables : (P : Points) (r : Rule P.ring.carrier) → tables.child_kinds (tables_of P r) ≡ rules.child_kinds r
child_kinds_of_tables P r =
    map-below (λ (t : KindTables). t.children) (tables_of_kind P r) (length r.kinds)
    ∙ below-elements (λ (k : Kind P.ring.carrier). map (λ (c : Child P.ring.carrier). c.kind) k.children)
    (record { vertices = []; edges = []; children = [] }) r.kinds
