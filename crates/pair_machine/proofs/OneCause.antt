-- Verdicts exclude each other.
use Rattle.std.proofs.Common.{◌≡◌, ◌≢◌, ◌↔◌, ℕ, List, [], ◌∷◌, map, refl}
use Rattle.theory_addresses.specs.Address.{Address, Fits}
use Rattle.theory_addresses.specs.Coherent.{IsCoherent}
use Rattle.theory_addresses.specs.Search.{IsAmong}
use Rattle.theory_addresses.specs.Tables.{Tables, child_kinds}
use Rattle.theory_addresses.proofs.Chains.{chain_of}
use Rattle.pair_machine.specs.declared.edge_pair.EdgePair.{EdgePair}
use Rattle.pair_machine.specs.declared.verdict.Verdict.{Verdict}
use Rattle.pair_machine.specs.declared.verdict.Verdict.TheVariants.{Strangers, Same, Apart, Beside}
use Rattle.pair_machine.specs.Between.{HaveCommon, IsBetween}
use Rattle.pair_machine.specs.Nodes.{IsNode}
use Rattle.pair_machine.specs.Reading.{pairs_read}
use Rattle.pair_machine.specs.Verdicts.{IsPairVerdict, pairs_of}
use Rattle.pair_machine.specs.Views.{as_pair}
use Rattle.pair_machine.proofs.InOrder.{between_one}
use Rattle.pair_machine.proofs.Levels.{read_node}

none-of : (xs : List EdgePair) → map as_pair xs ≡ [] → xs ≡ []
none-of [] h = refl
none-of (x ∷ xs) h = absurd cc

pub strangers : (t : Tables) (a b : Address) (v : Verdict) → IsPairVerdict t a b v → (v ≡ Strangers) ↔ (HaveCommon a b → ⊥)
strangers t a b Strangers h = (λ e. h, λ n. refl)
strangers t a b Same h = (λ e. absurd cc, λ n. elim (n h.0) [ ])
strangers t a b Apart h = (λ e. absurd cc, λ n. elim (n h.0) [ ])
strangers t a b (Beside pairs) h = (λ e. absurd cc, λ n. elim (n h.0) [ ])

pub same : (t : Tables) (a b : Address) (v : Verdict) → IsPairVerdict t a b v → (v ≡ Same) ↔ (HaveCommon a b × (a ≡ b))
same t a b Strangers h = (λ e. absurd cc, λ n. elim (h n.0) [ ])
same t a b Same h = (λ e. h, λ n. refl)
same t a b Apart h = (λ e. absurd cc, λ n. elim (h.1 n.1) [ ])
same t a b (Beside pairs) h = (λ e. absurd cc, λ n. elim (h.1 n.1) [ ])

pub apart : (t : Tables) (a b : Address) (v : Verdict) → IsPairVerdict t a b v → (v ≡ Apart) ↔ (HaveCommon a b × (a ≢ b) × IsBetween t a b [])
apart t a b Strangers h = (λ e. absurd cc, λ n. elim (h n.0) [ ])
apart t a b Same h = (λ e. absurd cc, λ n. elim (n.1 h.1) [ ])
apart t a b Apart h = (λ e. h, λ n. refl)
apart t a b (Beside pairs) h = (λ e. absurd cc, λ n. elim (h.3 (none-of pairs.items (between_one t a b (map as_pair pairs.items) [] h.2 n.2))) [ ])

pub pairs : (t : Tables) (a b : Address) (v : Verdict) → IsPairVerdict t a b v → HaveCommon a b → a ≢ b → IsBetween t a b (pairs_of v)
pairs t a b Strangers h common differ = elim (h common) [ ]
pairs t a b Same h common differ = elim (differ h.1) [ ]
pairs t a b Apart h common differ = h.2
pairs t a b (Beside ps) h common differ = h.2

pub nodes : (t : Tables) (a b : Address) (e f : ℕ) → IsCoherent t → Fits (child_kinds t) a
    → Fits (child_kinds t) b → IsAmong (record { mine = e; theirs = f }) (pairs_read t a.digits b.digits)
    → IsNode t (record { kind = a.kind; edge = e; other = b.kind; back = f })
nodes t a b e f coherent fits fits' i = read_node t a.digits b.digits a.kind b.kind e f coherent (chain_of t a fits) (chain_of t b fits') i
