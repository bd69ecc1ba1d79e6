-- The nodes of a loop, one more.
use Rattle.std.proofs.Common.{◌≡◌, ℕ, ◌+◌, ◌<◌, List, [], ◌∷◌, ◌++◌, length, take, get_or, refl}
use Rattle.std.proofs.lemmas.Grind.{flat_map-append}
use Rattle.std.proofs.lemmas.List.{append-nil, take_more}
use Rattle.theory_addresses.specs.Search.{below}
use Rattle.theory_addresses.specs.Tables.{Tables, kind_tables, contact_of, contacts_of}
use Rattle.theory_addresses.proofs.Searches.{below-more}
use Rattle.pair_machine.specs.Nodes.{Node, RowPair}
use Rattle.pair_machine.specs.Searching.{children_node, contact_node, child_nodes, kind_nodes, first_nodes, row_nodes}

-- ---- the nodes of a loop, one more
pub child_nodes-more : (t : Tables) (k a n : ℕ) → child_nodes t k a (n + 1) ≡ child_nodes t k a n ++ contact_node t k a n (contact_of t k a n)
unfolding child_nodes
child_nodes-more t k a n = rw (
  below-more (λ e. e) n,
  flat_map-append
      (λ e. contact_node t k a e (contact_of t k a e)) (below (λ e. e) n) (n ∷ []),
  append-nil
      (contact_node t k a n (contact_of t k a n)),
) refl

pub kind_nodes-more : (t : Tables) (k n : ℕ) → kind_nodes t k (n + 1) ≡ kind_nodes t k n ++ child_nodes t k n (length (contacts_of t k n))
unfolding kind_nodes
kind_nodes-more t k n = rw (
  below-more (λ e. e) n,
  flat_map-append
      (λ a. child_nodes t k a (length (contacts_of t k a))) (below (λ a. a) n) (n ∷ []),
  append-nil
      (child_nodes t k n (length (contacts_of t k n))),
) refl

pub first_nodes-more : (t : Tables) (n : ℕ) → first_nodes t (n + 1) ≡ first_nodes t n ++ kind_nodes t n (length (kind_tables t n).children)
unfolding first_nodes
first_nodes-more t n = rw (
  below-more (λ e. e) n,
  flat_map-append
      (λ k. kind_nodes t k (length (kind_tables t k).children)) (below (λ k. k) n) (n ∷ []),
  append-nil
      (kind_nodes t n (length (kind_tables t n).children)),
) refl

pub row_nodes-more : (t : Tables) (n : Node) (row : List RowPair) (i : ℕ) (d r : RowPair) → i < length row → get_or row i d ≡ r
    → row_nodes t n (take (i + 1) row) ≡ row_nodes t n (take i row) ++ children_node t n.kind r.mine n.other r.theirs
unfolding row_nodes
row_nodes-more t n row i d r h at =
    rw (
      take_more row i d h,
      at,
      flat_map-append
          (λ (r : RowPair). children_node t n.kind r.mine n.other r.theirs) (take i row) (r ∷ []),
      append-nil
          (children_node t n.kind r.mine n.other r.theirs),
    ) refl

pub child_nodes-none : (t : Tables) (k a : ℕ) → child_nodes t k a 0 ≡ []
unfolding child_nodes
child_nodes-none t k a = refl

pub kind_nodes-none : (t : Tables) (k : ℕ) → kind_nodes t k 0 ≡ []
unfolding kind_nodes
kind_nodes-none t k = refl

pub first_nodes-none : (t : Tables) → first_nodes t 0 ≡ []
unfolding first_nodes
first_nodes-none t = refl

pub row_nodes-none : (t : Tables) (n : Node) → row_nodes t n [] ≡ []
unfolding row_nodes
row_nodes-none t n = refl
