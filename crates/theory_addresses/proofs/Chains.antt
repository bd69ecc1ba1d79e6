-- Addresses that fit contact tables, digit by digit.
use Rattle.std.proofs.Common.{◌≡◌, ℕ, suc, zero, ◌+◌, ◌<◌, ◌≤◌, List, [], ◌∷◌, length, Some, sym, ap, ◌∙◌, arith, refl, drop, add-one}
use Rattle.std.specs.List.{slice_get}
use Rattle.std.proofs.lemmas.List.{length-map}
use Rattle.theory_addresses.specs.Address.{Step, Address, Climbs, Fits}
use Rattle.theory_addresses.specs.Tables.{Tables, KindTables, child_kinds, child_kind_of}
use Rattle.theory_addresses.specs.Coherent.{IsCoherent}
use Rattle.theory_addresses.proofs.TableBounds.{child_bounds, child_kind-tables}

-- each digit's child has the kind below it, and the kind on top exists
abbrev pub IsChain : Tables → ℕ → List Step → Type 0
IsChain t kind [] = kind < length t.kinds
IsChain t kind (s ∷ ds) = (child_kind_of t s.parent s.child ≡ Some kind) × IsChain t s.parent ds

kinds_length : (t : Tables) → length (child_kinds t) ≡ length t.kinds
kinds_length t = length-map t.kinds (λ (k : KindTables). k.children)

chain_from : (t : Tables) (kind : ℕ) (ds : List Step) → kind < length t.kinds → Climbs (child_kinds t) kind ds → IsChain t kind ds
chain_from t kind [] exists climbs = exists
chain_from t kind (d ∷ ds) exists climbs =
    let here : child_kind_of t d.parent d.child ≡ Some kind = sym (child_kind-tables t d.parent d.child) ∙ climbs.0 in
    (here, chain_from t d.parent ds (child_bounds t d.parent d.child (rw here refl)).0 climbs.1)

-- an address that fits is a chain
pub chain_of : (t : Tables) (a : Address) → Fits (child_kinds t) a → IsChain t a.kind a.digits
chain_of t a fits = chain_from t a.kind a.digits (omega (arith, kinds_length t, fits.kind_exists)) fits.climbs

climbs_of : (t : Tables) (kind : ℕ) (ds : List Step) → IsChain t kind ds → Climbs (child_kinds t) kind ds
climbs_of t kind [] chain = tt
climbs_of t kind (d ∷ ds) chain = (child_kind-tables t d.parent d.child ∙ chain.0, climbs_of t d.parent ds chain.1)

lowest_exists : (t : Tables) (kind : ℕ) (ds : List Step) → IsCoherent t → IsChain t kind ds → kind < length t.kinds
lowest_exists t kind [] coherent chain = chain
lowest_exists t kind (d ∷ ds) coherent chain = coherent.child_exists d.parent d.child kind chain.0

-- and a chain is an address that fits
pub fits_of : (t : Tables) (kind : ℕ) (ds : List Step) → IsCoherent t → IsChain t kind ds → Fits (child_kinds t) (record { kind = kind; digits = ds })
fits_of t kind ds coherent chain = record {
  kind_exists = omega (arith, kinds_length t, lowest_exists t kind ds coherent chain);
  climbs = climbs_of t kind ds chain;
}

-- the kind at a level
abbrev pub level_kind : ℕ → List Step → ℕ → ℕ
level_kind k ds zero = k
level_kind k [] (suc i) = k
level_kind k (s ∷ ds) (suc i) = level_kind s.parent ds i

pub IsChain-at : (t : Tables) (k : ℕ) (ds : List Step) (i : ℕ) (s : Step) → IsChain t k ds → slice_get ds i ≡ Some s
    → (child_kind_of t s.parent s.child ≡ Some (level_kind k ds i)) × (level_kind k ds (i + 1) ≡ s.parent)
IsChain-at t k [] i s fits at = absurd cc
IsChain-at t k (d ∷ ds) zero s fits at =
    let one : d ≡ s = cc in
    (rw (← one) fits.0, ap (λ (w : Step). w.parent) one)
IsChain-at t k (d ∷ ds) (suc i) s fits at =
    let r = IsChain-at t d.parent ds i s fits.1 at in
    (r.0, rw (add-one (suc i)) (rw (add-one i) at r.1))

pub IsChain-drop : (t : Tables) (k : ℕ) (ds : List Step) (i : ℕ) → IsChain t k ds → i ≤ length ds → IsChain t (level_kind k ds i) (drop i ds)
IsChain-drop t k ds zero fits h = fits
IsChain-drop t k [] (suc i) fits h = absurd (omega arith)
IsChain-drop t k (d ∷ ds) (suc i) fits h = IsChain-drop t d.parent ds i fits.1 (omega arith)
