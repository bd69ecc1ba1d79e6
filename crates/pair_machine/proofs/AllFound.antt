-- At the end of the search each node is found, with its row.
use Rattle.std.proofs.Common.{◌≡◌, inl, inr, ℕ, zero, suc, ◌+◌, ◌-◌, ◌<◌, ◌≤◌, Bool, List, [], ◌∷◌, ◌++◌, length, take, get_or, Some, refl, ap, ◌∙◌, subst, arith, length-append}
use Rattle.std.specs.List.{flat_map}
use Rattle.std.proofs.lemmas.Grind.{flat_map-append}
use Rattle.std.proofs.lemmas.List.{take-append-le, take_all}
use Rattle.std.proofs.lemmas.Nat.{mul-le}
use Rattle.theory_addresses.specs.Contact.{ChildEdge}
use Rattle.theory_addresses.specs.Search.{below, IsAmong}
use Rattle.theory_addresses.specs.Tables.{Tables, part_of, part_count}
use Rattle.theory_addresses.specs.Coherent.{IsCoherent}
use Rattle.theory_addresses.proofs.Searches.{below-more}
use Rattle.pair_machine.specs.Nodes.{Node, RowPair, IsNode, first, further, both_of, row_of}
use Rattle.pair_machine.specs.Searching.{first_nodes, row_nodes, IsSeen, CoversCandidates}
use Rattle.pair_machine.proofs.Marks.{kept_in}
use Rattle.pair_machine.proofs.Places.{among-take_more}
use Rattle.pair_machine.proofs.Finding.{node-first, node-row}

-- ---- a row, part by part
unfoldable pub row_upto : Tables → Node → ℕ → List RowPair
row_upto t n i = flat_map (λ p. both_of (part_of t n.kind n.edge p)
    (part_of t n.other n.back (part_count t n.kind n.edge - 1 - p))) (below (λ p. p) i)

pub row_upto-none : (t : Tables) (n : Node) → row_upto t n 0 ≡ []
unfolding row_upto
row_upto-none t n = refl

pub row_upto-all : (t : Tables) (n : Node) → row_upto t n (part_count t n.kind n.edge) ≡ row_of t n
unfolding row_upto row_of
row_upto-all t n = refl

pub row_upto-more : (t : Tables) (n : Node) (p : ℕ) (x y : ChildEdge) → part_of t n.kind n.edge p ≡ Some x
    → part_of t n.other n.back (part_count t n.kind n.edge - 1 - p) ≡ Some y
    → row_upto t n (p + 1) ≡ row_upto t n p ++ (record { mine = x; theirs = y }) ∷ []
unfolding row_upto
row_upto-more t n p x y hx hy =
    rw (
      below-more (λ e. e) p,
      flat_map-append
          (λ p. both_of (part_of t n.kind n.edge p)
          (part_of t n.other n.back (part_count t n.kind n.edge - 1 - p))) (below (λ p. p) p) (p ∷ []),
      hx,
      hy,
    )
    refl

-- ---- the loop over all nodes
pub take-grown : (old rest new : List Node) (i : ℕ) → new ≡ old ++ rest → i ≤ length old → take i new ≡ take i old
take-grown old rest new i grown le = rw grown (take-append-le i old rest le)

pub get_or-grown : (old rest : List Node) (i : ℕ) (d : Node) → i < length old → get_or (old ++ rest) i d ≡ get_or old i d
get_or-grown [] rest i d h = absurd (omega arith)
get_or-grown (x ∷ xs) rest zero d h = refl
get_or-grown (x ∷ xs) rest (suc i) d h = get_or-grown xs rest i d (omega arith)

-- all rows below the next node, and its own
pub rows_more : (t : Tables) (old new : List Node) (width : ℕ) (seen : List Bool) (next : ℕ) (node d : Node)
    → next < length old → get_or old next d ≡ node
    → CoversCandidates width old new seen (row_nodes t node (row_of t node))
    → ((m n : Node) → IsAmong m (take next old) → IsAmong n (row_nodes t m (row_of t m)) → IsAmong n old)
    → (m n : Node) → IsAmong m (take (next + 1) new) → IsAmong n (row_nodes t m (row_of t m)) → IsAmong n new
rows_more t old new width seen next node d h at covers before m n i j =
    let same : take (next + 1) new ≡ take (next + 1) old = take-grown old covers.rest new (next + 1) covers.grown (omega arith) in
    elim (among-take_more old next d m h (rw same at i)) [
      | inl k ↦ kept_in n covers (before m n k j)
      | inr e ↦ covers.all n (subst (λ (x : Node). IsAmong n (row_nodes t x (row_of t x))) (e ∙ at) j)
    ]

pub covers_length : (old new : List Node) (width : ℕ) (seen : List Bool) (cs : List Node) → CoversCandidates width old new seen cs
    → length old ≤ length new
covers_length old new width seen cs h = omega (arith, ap length h.grown, length-append old h.rest)

pub covers_nodes : (t : Tables) (old new : List Node) (width : ℕ) (seen : List Bool) (cs : List Node)
    → CoversCandidates width old new seen cs → ((n : Node) → IsAmong n cs → IsNode t n)
    → ((n : Node) → IsAmong n old → IsNode t n) → (n : Node) → IsAmong n new → IsNode t n
covers_nodes t old new width seen cs h are before n i = elim (h.only n i) [ inl j ↦ before n j | inr j ↦ are n j ]

pub seen_few : (width : ℕ) (list : List Node) (seen : List Bool) → IsSeen width list seen → width ≤ 192 → length list ≤ 36864
seen_few width list seen h few = omega (arith, h.count, h.size, mul-le width width 192 192 few few)

-- at the end each node is there
pub all_found : (t : Tables) (list : List Node) (next : ℕ) → IsCoherent t → length list ≤ next
    → ((n : Node) → IsAmong n (first_nodes t (length t.kinds)) → IsAmong n list)
    → ((m n : Node) → IsAmong m (take next list) → IsAmong n (row_nodes t m (row_of t m)) → IsAmong n list) → (n : Node) → IsNode t n → IsAmong n list
all_found t list next coherent end firsts rows n (first k a e b f met of) = firsts n (node-first t n k a e b f coherent met of)
all_found t list next coherent end firsts rows n (further m pair node i of) =
    let here = all_found t list next coherent end firsts rows m node in
    rows m n (rw (take_all next list end) here) (node-row t m n pair i of)
