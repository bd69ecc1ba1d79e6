-- What is found from a copy of an address is found from the address, and what is touched is across.
use Rattle.std.proofs.Common.{◌≡◌, ℕ, List, IsSome, sym, subst}
use Rattle.theory_addresses.specs.Across.{IsAcross}
use Rattle.theory_addresses.specs.Address.{Address, Fits}
use Rattle.theory_addresses.specs.Coherent.{IsCoherent}
use Rattle.theory_addresses.specs.Tables.{Tables, child_kinds, type_of}
use Rattle.theory_addresses.specs.Touch.{Touches}
use Rattle.theory_addresses.proofs.Touching.{only_touching, Touches-sym}
use Rattle.transducer_core.specs.declared.climb.Meeting.{Meeting}
use Rattle.transducer_core.specs.Climbing.{MeetsAt}

pub carried : (t : Tables) (a copy b : Address) (f : ℕ) (m : Meeting) (parts : List ℕ) → copy ≡ a
    → ((e : ℕ) → IsSome (type_of t copy.kind e) → MeetsAt t copy e m parts → Touches t copy e b f)
    → (e : ℕ) → IsSome (type_of t a.kind e) → MeetsAt t a e m parts → Touches t a e b f
carried t a copy b f m parts same found = subst
    (λ (x : Address). (e : ℕ) → IsSome (type_of t x.kind e) → MeetsAt t x e m parts → Touches t x e b f) same
    found

pub is_across : {t : Tables} (a b : Address) (e f : ℕ) → IsCoherent t → Fits (child_kinds t) a
    → IsSome (type_of t a.kind e) → Touches t a e b f → Fits (child_kinds t) b
    → IsSome (type_of t b.kind f) → IsAcross t a e b f
is_across a b e f coherent fits edge touches fits' edge' =
    let back = Touches-sym a b coherent fits fits' edge touches in
    record {
      only = only_touching a b e f coherent fits edge touches fits';
      same_depth = sym touches.one_depth;
      edge_exists = edge';
      leads_back = only_touching b a f e coherent fits' edge' back fits;
    }
