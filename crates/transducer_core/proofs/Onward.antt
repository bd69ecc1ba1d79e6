-- All that one level down needs and gives, and the landing at the fine end.
use Rattle.std.proofs.Common.{◌≡◌, ℕ, ◌+◌, ◌<◌, List, [], ◌∷◌, length, Some, IsSome, get_or, arith, refl, drop}
use Rattle.std.proofs.lemmas.Option.{slice_get_within}
use Rattle.theory_addresses.specs.Address.{Step}
use Rattle.theory_addresses.specs.Contact.{ChildEdge}
use Rattle.theory_addresses.specs.Tables.{Tables, type_of, child_kind_of, part_of, part_count}
use Rattle.theory_addresses.specs.Coherent.{IsCoherent}
use Rattle.theory_addresses.specs.Trace.{Cut}
use Rattle.theory_addresses.proofs.Chains.{IsChain, level_kind}
use Rattle.theory_addresses.proofs.Traces.{Lies, itself}
use Rattle.theory_addresses.proofs.FineTouch.{Meets}
use Rattle.transducer_core.proofs.Rising.{MetAt}
use Rattle.transducer_core.proofs.Halfway.{Halfway, half_part, half_across, half_child, half_next}

-- at the fine end
pub landed : (t : Tables) (k : ℕ) (xs : List Step) (e : ℕ) (parts : List ℕ) (i : ℕ) (ys : List Step)
    (kind f : ℕ) → i ≡ 0 → Halfway t k xs e parts i ys kind f → Meets t xs e ys f
landed t k xs e parts i ys kind f none h =
    let h' : Halfway t k xs e parts 0 ys kind f = rw (← none) h in
    let same = top_is h'.climbs.trace in
    rw same h'.meets
  where
    top_is : {own : ℕ} {cuts : List Cut} → Lies t e [] own cuts → e ≡ own
    top_is itself = refl

pub half_edge : (t : Tables) (k : ℕ) (xs : List Step) (e : ℕ) (parts : List ℕ) (i : ℕ) (ys : List Step)
    (kind f : ℕ) → Halfway t k xs e parts i ys kind f → IsSome (type_of t kind f)
half_edge t k xs e parts i ys kind f h = rw h.mated.other_is refl

-- all that one level down needs and gives
pub record Onward (t : Tables) (k : ℕ) (xs : List Step) (e : ℕ) (parts : List ℕ) (i : ℕ) (ys : List Step) (kind f : ℕ) : Type 0 where
  pub inside : get_or parts i 0 < part_count t kind f
  pub part : (q : ℕ) → q + (get_or parts i 0 + 1) ≡ part_count t kind f → IsSome (part_of t kind f q)
  pub child : (q : ℕ) (next : ChildEdge) → q + (get_or parts i 0 + 1) ≡ part_count t kind f
      → part_of t kind f q ≡ Some next → IsSome (child_kind_of t kind next.child)
  pub more : (q : ℕ) (next : ChildEdge) (kind' : ℕ) (zs : List Step)
      → q + (get_or parts i 0 + 1) ≡ part_count t kind f → part_of t kind f q ≡ Some next
      → child_kind_of t kind next.child ≡ Some kind'
      → drop i zs ≡ (record { child = next.child; parent = kind }) ∷ drop (i + 1) ys
      → Halfway t k xs e parts i zs kind' next.edge

pub onward : (t : Tables) (k : ℕ) (xs : List Step) (e level b g : ℕ) (parts : List ℕ) (i n : ℕ)
    (ys : List Step) (kind f : ℕ) → IsCoherent t → IsChain t k xs
    → MetAt t xs e level b g parts → i < level → n ≡ i + 1 → Halfway t k xs e parts n ys kind f → Onward t k xs e parts i ys kind f
onward t k xs e level b g parts i n ys kind f coherent fits m below more h =
    let in_xs : i < length xs = omega (arith, below, slice_get_within xs level m.step m.at) in
    let in_parts : i < length parts = omega (arith, below, m.count) in
    record {
      inside = half_part t k xs e parts i n ys kind f coherent fits in_xs in_parts more h;
      part = λ q mirror. let a = half_across t k xs e parts i n ys kind f q coherent fits in_xs in_parts more h mirror in rw a.1.below_is refl;
      child = λ q next mirror is. let a = half_across t k xs e parts i n ys kind f q coherent fits in_xs
          in_parts more h mirror in half_child t (level_kind k xs i) a.0 kind f q next a.1 is;
      more = λ q next kind' zs mirror is child down. half_next t k xs e parts i n ys kind f q next kind' zs
          coherent fits in_xs in_parts more h mirror is child down;
    }
