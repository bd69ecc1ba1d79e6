-- Edges that meet have types that are mates.
use Rattle.std.proofs.Common.{◌≡◌, ℕ, List, Some, IsSome, sym, ◌∙◌, subst}
use Rattle.theory_addresses.specs.Address.{Step}
use Rattle.theory_addresses.specs.Contact.{ChildEdge}
use Rattle.theory_addresses.specs.Tables.{Tables, type_of, child_kind_of}
use Rattle.theory_addresses.specs.Coherent.{IsCoherent}
use Rattle.theory_addresses.proofs.Chains.{IsChain}
use Rattle.theory_addresses.proofs.FineTouch.{Meets, as_children, as_parts}
use Rattle.theory_addresses.proofs.Mated.{IsMated, inner_mated, across_part}

pub met_mates : (t : Tables) (k l e f : ℕ) (xs ys : List Step) → IsCoherent t → IsChain t k xs
    → IsChain t l ys → IsSome (type_of t k e) → Meets t xs e ys f → IsMated t k e l f
met_mates t k l e f xs ys coherent fits fits' edge (as_children {s = s} {u = u} parent met) =
    let m = inner_mated t s.parent s.child k e u.child f coherent fits.0 edge met in
    let kind : child_kind_of t u.parent u.child ≡ Some m.0 = rw (← parent) m.1 in
    let same : m.0 ≡ l = cc (kind, fits'.0) in
    subst (λ (n : ℕ). IsMated t k e n f) same m.2
met_mates t k l e f xs ys coherent fits fits' edge
    (as_parts {s = s} {u = u} {own = own} {other = other} {p = p} {q = q} {xs = xs'} {ys = ys'} is is' m n
    rest) =
    let above = met_mates t s.parent u.parent own other xs' ys' coherent fits.1 fits'.1 (coherent.outer_edge s.parent s.child e own p is) rest in
    let a = across_part t s.parent own u.parent other s.child k e p q coherent above fits.0 is n in
    let two : Some a.below ≡ Some (record { child = u.child; edge = f }) = sym a.below_is ∙ (coherent.outer_part u.parent u.child f other q).0 is' in
    let one : ◌≡◌ {A = ChildEdge} a.below (record { child = u.child; edge = f }) = cc in
    let kind : child_kind_of t u.parent u.child ≡ Some a.kind = subst
    (λ (ce : ChildEdge). child_kind_of t u.parent ce.child ≡ Some a.kind) one a.kind_is in
    let kinds : a.kind ≡ l = cc (kind, fits'.0) in
    subst (λ (n : ℕ). IsMated t k e n f) kinds (subst (λ (ce : ChildEdge). IsMated t k e a.kind ce.edge) one a.mated)
