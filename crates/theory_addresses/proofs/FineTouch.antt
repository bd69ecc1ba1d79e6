-- Edges that meet, by recursion from the fine end: the relation on which the climb and the descent are compared.
use Rattle.std.proofs.Common.{◌≡◌, ℕ, ◌+◌, List, ◌∷◌, Option, Some, sym, ap, ◌∙◌, arith, refl}
use Rattle.theory_addresses.specs.Address.{Step}
use Rattle.theory_addresses.specs.Contact.{ChildEdge, inner, outer}
use Rattle.theory_addresses.specs.Tables.{Tables, child_kind_of, contact_of, part_count}
use Rattle.theory_addresses.specs.Coherent.{IsCoherent}
use Rattle.theory_addresses.specs.Trace.{Cut}
use Rattle.theory_addresses.proofs.Chains.{IsChain}
use Rattle.theory_addresses.proofs.Traces.{Lies, itself, on}

-- the edges meet at two children of one tile, or are mirrored parts of edges that meet
pub data Meets (t : Tables) : List Step → ℕ → List Step → ℕ → Type 0 where
  as_children : {s u : Step} {e f : ℕ} {ds : List Step}
      → s.parent ≡ u.parent
      → contact_of t s.parent s.child e ≡ Some (inner u.child f)
      → Meets t (s ∷ ds) e (u ∷ ds) f
  as_parts : {s u : Step} {e f own other p q : ℕ} {xs ys : List Step}
      → contact_of t s.parent s.child e ≡ Some (outer own p)
      → contact_of t u.parent u.child f ≡ Some (outer other q)
      → q + (p + 1) ≡ part_count t s.parent own
      → q + (p + 1) ≡ part_count t u.parent other
      → Meets t xs own ys other
      → Meets t (s ∷ xs) e (u ∷ ys) f

-- what meets is met
pub Meets-sym : {t : Tables} {xs ys : List Step} {e f : ℕ} → IsCoherent t → Meets t xs e ys f → Meets t ys f xs e
Meets-sym {t} coherent (as_children {s} {u} {e} {f} parent met) =
    as_children (sym parent) (rw (← parent) (coherent.points_back s.parent s.child e u.child f met))
Meets-sym coherent (as_parts own other m n rest) = as_parts other own (omega arith) (omega arith) (Meets-sym coherent rest)

-- only one edge of one tile is met
pub record Same (k l : ℕ) (xs ys : List Step) (e f : ℕ) : Type 0 where
  pub kinds : k ≡ l
  pub digits : xs ≡ ys
  pub edges : e ≡ f

-- digits with one child and one parent are one
pub step-eq : (s u : Step) → s.child ≡ u.child → s.parent ≡ u.parent → s ≡ u
step-eq s u c p = λ i. record { child = c i; parent = p i }

-- a part of an edge is one child edge
part-unique : {t : Tables} → IsCoherent t → (k l c d e f own other q r : ℕ)
    → contact_of t k c e ≡ Some (outer own q) → contact_of t l d f ≡ Some (outer other r)
    → k ≡ l → own ≡ other → q ≡ r → (c ≡ d) × (e ≡ f)
part-unique {t} coherent k l c d e f own other q r x y hk ho hq =
    let a = (coherent.outer_part k c e own q).0 x in
    let b = (coherent.outer_part l d f other r).0 y in
    let two : ◌≡◌ {A = Option ChildEdge} (Some (record { child = c; edge = e }))
    (Some (record { child = d; edge = f })) = sym a ∙ rw (hk, ho, hq) b in
    let one : ◌≡◌ {A = ChildEdge} (record { child = c; edge = e }) (record { child = d; edge = f }) = cc in
    (ap (λ (ce : ChildEdge). ce.child) one, ap (λ (ce : ChildEdge). ce.edge) one)

pub Meets-unique : {t : Tables} {xs ys zs : List Step} {e f g : ℕ} (k l : ℕ) → IsCoherent t → Meets t xs e ys f → Meets t xs e zs g
    → IsChain t k ys → IsChain t l zs → Same k l ys zs f g
Meets-unique {t} {f = f} {g = g} k l coherent (as_children {s = s} {u = u} {ds = ds} parent met) (as_children {u = u'} parent' met') fits fits' =
    let child : u.child ≡ u'.child = cc in
    let one = step-eq u u' child (sym parent ∙ parent') in
    let kind = fits'.0 in
    let kind' : child_kind_of t u.parent u.child ≡ Some l = rw one kind in
    record { kinds = cc (fits.0, kind'); digits = ap (λ (w : Step). w ∷ ds) one; edges = cc }
Meets-unique k l coherent (as_children parent met) (as_parts own other m n rest) fits fits' = absurd cc
Meets-unique k l coherent (as_parts own other m n rest) (as_children parent met) fits fits' = absurd cc
Meets-unique {t} {f = f} {g = g} k l coherent
    (as_parts {s = s} {u = u} {own = a} {other = b} {p = p} {q = q} {xs = xs} {ys = ys} own other m n rest)
    (as_parts {u = u'} {own = a'} {other = b'} {p = p'} {q = q'} {ys = ys'} own' other' m' n' rest') fits fits' =
    let on_own : a ≡ a' = cc in
    let by : p ≡ p' = cc in
    let rest'' : Meets t xs a ys' b' = rw on_own rest' in
    let above = Meets-unique u.parent u'.parent coherent rest rest'' fits.1 fits'.1 in
    let across : q ≡ q' = omega (arith, ap (part_count t s.parent) on_own, by, m, m') in
    let below = part-unique coherent u.parent u'.parent u.child u'.child f g b b' q q' other other' above.kinds above.edges across in
    let one = step-eq u u' below.0 above.kinds in
    let kind = fits'.0 in
    let kind' : child_kind_of t u.parent u.child ≡ Some l = rw one kind in
    record { kinds = cc (fits.0, kind'); digits = rw (one, above.digits) refl; edges = below.1 }

-- an edge that lies on the top's edge meets none
pub Lies-Meets : {t : Tables} {xs ys : List Step} {e f top : ℕ} {cuts : List Cut} → Lies t e xs top cuts → Meets t xs e ys f → ⊥
Lies-Meets itself m = elim m [ ]
Lies-Meets (on own parts rest) (as_children parent met) = cc
Lies-Meets {t} (on {f = f} {top = z} {ds = ds} {cuts = cuts} own parts rest) (as_parts {own = f'} own' other m n rest') =
    let same : f ≡ f' = cc in
    Lies-Meets (let r : Lies t f' ds z cuts = rw (← same) rest in r) rest'
