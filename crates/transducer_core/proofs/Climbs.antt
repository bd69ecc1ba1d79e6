-- One level up by the words of a flat table.
use Rattle.std.proofs.Common.{◌≡◌, ℕ, ◌+◌, ◌*◌, ◌<◌, ◌≤◌, ◌/◌, ◌%◌, ◌^◌, List, [], ◌∷◌, ◌++◌, length, take, Some, IsSome, subst, sym, ap, ◌∙◌, arith}
use Rattle.std.specs.List.{slice_get}
use Rattle.std.proofs.lemmas.List.{take_more_set}
use Rattle.theory_addresses.specs.Address.{Step}
use Rattle.theory_addresses.specs.Coherent.{IsCoherent}
use Rattle.theory_addresses.specs.Tables.{Tables, type_of}
use Rattle.theory_addresses.proofs.Chains.{IsChain, level_kind}
use Rattle.theory_addresses.proofs.TableBounds.{type_bounds}
use Rattle.transducer_core.specs.declared.climb.Meeting.{Meeting}
use Rattle.transducer_core.specs.Climbing.{MeetsAt, GoesUp}
use Rattle.transducer_core.specs.FlatTables.{contact_rows}
use Rattle.transducer_core.specs.Merged.{AllBegin, HasEntry}
use Rattle.transducer_core.proofs.FlatLooks
use Rattle.transducer_core.proofs.Rising.{Rising, rise_start, rise_exists, rise_more, rise_meets}

module _ (t : Tables) (k : ℕ) (ds : List Step) (e : ℕ) (starts words : List ℕ) (coherent : IsCoherent t)
    (begin : AllBegin (contact_rows t) starts words) (fits : IsChain t k ds) where
  pub there : (i own : ℕ) (parts : List ℕ) (s : Step) → Rising t k ds e i own parts → slice_get ds i ≡ Some s
      → (w : ℕ) × HasEntry starts words (256 * s.parent + s.child) own w
  there i own parts s r is = FlatLooks.contact_there t starts words coherent begin s.parent s.child own
      (rise_exists t k ds e i own parts s coherent fits r is)

  pub up : (i own word next : ℕ) (before after : List ℕ) (s : Step) → i < length before
      → Rising t k ds e i own (take i before) → slice_get ds i ≡ Some s
      → HasEntry starts words (256 * s.parent + s.child) own word → GoesUp before i word next after
      → Rising t k ds e (i + 1) next (take (i + 1) after)
  up i own word next before after s room r is entry goes =
      let exists = rise_exists t k ds e i own (take i before) s coherent fits r is in
      let met = FlatLooks.outer_read t starts words coherent begin s.parent s.child own word exists entry goes.outer in
      let more = rise_more t k ds e i own (take i before) s (word / 256) (word % 256) coherent fits r is met in
      let kept : take (i + 1) after ≡ take i before ++ (word % 256) ∷ [] = ap (take (i + 1)) goes.kept ∙ take_more_set before i (word % 256) room in
      rw (goes.edge, kept) more

  pub meets : (i own : ℕ) (parts : List ℕ) (s : Step) (m : Meeting) → Rising t k ds e i own (take i parts) → slice_get ds i ≡ Some s
      → HasEntry starts words (256 * s.parent + s.child) own m.word → 2 ^ 16 ≤ m.word → m.level ≡ i
      → m.at ≡ 256 * s.parent + s.child → MeetsAt t (record { kind = k; digits = ds }) e m
      (take m.level parts)
  meets i own parts s m r is entry above level cell =
      let exists = rise_exists t k ds e i own (take i parts) s coherent fits r is in
      let met = FlatLooks.inner_read t starts words coherent begin s.parent s.child own m.word exists entry above in
      let at = rise_meets t k ds e i own (take i parts) s m.at m.word cell r is met in
      subst (λ (n : Meeting). MeetsAt t (record { kind = k; digits = ds }) e n (take n.level parts))
      (λ j. record { level = sym level j; at = m.at; word = m.word }) at

pub start : (t : Tables) (k : ℕ) (ds : List Step) (e own : ℕ) (parts : List ℕ) → own ≡ e
    → IsSome (type_of t k e) → Rising t k ds e 0 own (take 0 parts)
start t k ds e own parts same edge = rw same (rise_start t k ds e edge)

-- an edge that a climb comes to is small
pub small : (t : Tables) (k : ℕ) (ds : List Step) (e i own : ℕ) (parts : List ℕ) → IsCoherent t → Rising t k ds e i own parts → own < 256
small t k ds e i own parts coherent r =
    let b = type_bounds t (level_kind k ds i) own r.edge in
    omega (arith, b.1, coherent.at_most_12_edges (level_kind k ds i) b.0)
