-- Rows and the parts of edges: nodes have one row exactly where their edges have the same parts, and then they have one key.
use Rattle.std.proofs.Common.{◌≡◌, ℕ, zero, suc, ◌-◌, ◌<◌, ◌≤◌, Bool, true, ◌&&◌, List, [], ◌∷◌, ◌++◌, length, map, reverse, take, Some, refl, sym, ap, ◌∙◌, arith, eqb, eq-eqb, add-one}
use Rattle.std.specs.List.{flat_map, slice_get}
use Rattle.std.specs.Cmp.Lexicographic.{pointwise}
use Rattle.std.proofs.Math.Seq.{take-length}
use Rattle.std.proofs.lemmas.Bool.{eqb-true, and_parts}
use Rattle.std.proofs.lemmas.Grind.{flat_map-append}
use Rattle.std.proofs.lemmas.List.{take_more, take_all, map-append, reverse-reverse, length-reverse}
use Rattle.std.proofs.lemmas.Option.{slice_get_past, get_or_from_slice_get}
use Rattle.theory_addresses.specs.Coherent.{IsCoherent}
use Rattle.theory_addresses.specs.Contact.{ChildEdge}
use Rattle.theory_addresses.specs.Search.{below}
use Rattle.theory_addresses.specs.Tables.{Tables, kind_tables, parts_of, part_of, part_count}
use Rattle.theory_addresses.proofs.Mated.{same_parts, slice_get-reverse}
use Rattle.theory_addresses.proofs.TableBounds.{some_within}
use Rattle.edge_tables.specs.declared.child_edge.ChildEdge as program
use Rattle.edge_tables.specs.declared.kind_rows.KindRows.{KindRows}
use Rattle.edge_tables.specs.Views.{as_child_edge, as_kind_tables}
use Rattle.pair_machine.specs.Nodes.{Node, RowPair, IsNode, both_of, row_of}
use Rattle.pair_machine.proofs.Finding.{node_mated}

-- ---- equal lists of child edges
abbrev pub same_edge : program.ChildEdge → program.ChildEdge → Bool
same_edge p q = eqb p.child q.child && eqb p.edge q.edge

edge-one : (p q : program.ChildEdge) → same_edge p q ≡ true → as_child_edge p ≡ as_child_edge q
edge-one p q h =
    let parts = and_parts (eqb p.child q.child) (eqb p.edge q.edge) h in
    let c = eqb-true p.child q.child parts.0 in
    let e = eqb-true p.edge q.edge parts.1 in
    λ i. record { child = c i; edge = e i }

one-edge : (p q : program.ChildEdge) → as_child_edge p ≡ as_child_edge q → same_edge p q ≡ true
one-edge p q h = rw (eq-eqb p.child q.child (ap (λ (r : ChildEdge). r.child) h), eq-eqb p.edge q.edge (ap (λ (r : ChildEdge). r.edge) h)) refl

pub edges-one : (xs ys : List program.ChildEdge) → pointwise same_edge xs ys ≡ true → map as_child_edge xs ≡ map as_child_edge ys
edges-one [] [] h = refl
edges-one [] (y ∷ ys) h = absurd cc
edges-one (x ∷ xs) [] h = absurd cc
edges-one (x ∷ xs) (y ∷ ys) h =
    let parts = and_parts (same_edge x y) (pointwise same_edge xs ys) h in
    let a = edge-one x y parts.0 in
    let b = edges-one xs ys parts.1 in
    λ i. a i ∷ b i

pub one-edges : (xs ys : List program.ChildEdge) → map as_child_edge xs ≡ map as_child_edge ys → pointwise same_edge xs ys ≡ true
one-edges [] [] h = refl
one-edges [] (y ∷ ys) h = absurd cc
one-edges (x ∷ xs) [] h = absurd cc
one-edges (x ∷ xs) (y ∷ ys) h =
    let head : as_child_edge x ≡ as_child_edge y = cc in
    let tail : map as_child_edge xs ≡ map as_child_edge ys = cc in
    rw (one-edge x y head, one-edges xs ys tail) refl

-- ---- the parts that stand in the lists of a kind
pub kind_there : (t : Tables) (rows : List KindRows) (k : ℕ) (r : KindRows)
    → map as_kind_tables rows ≡ t.kinds → slice_get (map as_kind_tables rows) k ≡ Some (as_kind_tables r)
    → kind_tables t k ≡ as_kind_tables r
unfolding kind_tables
kind_there t rows k r same at =
    let there : slice_get t.kinds k ≡ Some (as_kind_tables r) = rw (← same) at in
    rw there refl

pub parts_there : (t : Tables) (k e : ℕ) (r : KindRows) (parts : List program.ChildEdge) → kind_tables t k ≡ as_kind_tables r
    → slice_get (map (λ v. map as_child_edge v.items) r.parts.items) e ≡ Some (map as_child_edge parts) → map as_child_edge parts ≡ parts_of t k e
unfolding parts_of
parts_there t k e r parts kind at = rw (kind, at) refl

pub parts_past : (t : Tables) (k e : ℕ) (r : KindRows) → kind_tables t k ≡ as_kind_tables r
    → length (map (λ v. map as_child_edge v.items) r.parts.items) ≤ e → [] ≡ parts_of t k e
unfolding parts_of
parts_past t k e r kind past = rw (kind, slice_get_past (map (λ v. map as_child_edge v.items) r.parts.items) e past) refl

-- ---- a row is told by the parts of its two edges, and tells them
abbrev row_upto : List ChildEdge → List ChildEdge → ℕ → List RowPair
row_upto xs ys i = flat_map (λ p. both_of (slice_get xs p) (slice_get ys (length xs - 1 - p))) (below (λ p. p) i)

row_is : (t : Tables) (n : Node) → row_of t n ≡ row_upto (parts_of t n.kind n.edge) (parts_of t n.other n.back) (length (parts_of t n.kind n.edge))
unfolding row_of part_of part_count
row_is t n = refl

row_more : (xs ys : List ChildEdge) (i : ℕ) (x y : ChildEdge) → slice_get xs i ≡ Some x → slice_get ys (length xs - 1 - i) ≡ Some y
    → row_upto xs ys (suc i) ≡ row_upto xs ys i ++ (record { mine = x; theirs = y }) ∷ []
row_more xs ys i x y hx hy = rw (
  flat_map-append
      (λ p. both_of (slice_get xs p) (slice_get ys (length xs - 1 - p))) (below (λ p. p) i) (i ∷ []),
  hx,
  hy,
)
    refl

take_next : (xs : List ChildEdge) (i : ℕ) (x : ChildEdge) → slice_get xs i ≡ Some x → i < length xs → take (suc i) xs ≡ take i xs ++ x ∷ []
take_next xs i x at inside = ap (λ (n : ℕ). take n xs) (sym (add-one i)) ∙ take_more xs i x inside
    ∙ ap (λ (y : ChildEdge). take i xs ++ y ∷ []) (get_or_from_slice_get xs i x x at)

mines : (xs ys : List ChildEdge) (i : ℕ) → length xs ≡ length ys → i ≤ length xs → map (λ (r : RowPair). r.mine) (row_upto xs ys i) ≡ take i xs
mines xs ys zero same le = refl
mines xs ys (suc i) same le =
    let x = some_within xs i (omega arith) in
    let y = some_within ys (length xs - 1 - i) (omega arith) in
    rw (
      row_more xs ys i x.0 y.0 x.1 y.1,
      map-append (λ (r : RowPair). r.mine) (row_upto xs ys i)
          ((record { mine = x.0; theirs = y.0 }) ∷ []),
      mines xs ys i same (omega arith),
    )
    (sym (take_next xs i x.0 x.1 (omega arith)))

all_theirs : (xs ys : List ChildEdge) (i : ℕ) → length xs ≡ length ys → i ≤ length xs
    → map (λ (r : RowPair). r.theirs) (row_upto xs ys i) ≡ take i (reverse ys)
all_theirs xs ys zero same le = refl
all_theirs xs ys (suc i) same le =
    let x = some_within xs i (omega arith) in
    let y = some_within ys (length xs - 1 - i) (omega arith) in
    let turned = slice_get-reverse ys i (length xs - 1 - i) y.0 (omega arith) y.1 in
    rw (
      row_more xs ys i x.0 y.0 x.1 y.1,
      map-append (λ (r : RowPair). r.theirs) (row_upto xs ys i)
          ((record { mine = x.0; theirs = y.0 }) ∷ []),
      all_theirs xs ys i same (omega arith),
    )
    (sym (take_next (reverse ys) i y.0 turned (omega (arith, length-reverse ys))))

pub record SameParts (xs ys us vs : List ChildEdge) : Type 0 where
  pub mine : xs ≡ us
  pub theirs : ys ≡ vs

parts-of_row : (xs ys us vs : List ChildEdge) → length xs ≡ length ys → length us ≡ length vs
    → row_upto xs ys (length xs) ≡ row_upto us vs (length us) → SameParts xs ys us vs
parts-of_row xs ys us vs h k same =
    let mine : xs ≡ us =
    sym (take-length xs) ∙ sym (mines xs ys (length xs) h (omega arith))
    ∙ ap (map (λ (r : RowPair). r.mine)) same ∙ mines us vs (length us) k (omega arith)
    ∙ take-length us in
    let turned : reverse ys ≡ reverse vs =
    sym (take_all (length xs) (reverse ys) (omega (arith, length-reverse ys)))
    ∙ sym (all_theirs xs ys (length xs) h (omega arith)) ∙ ap (map (λ (r : RowPair). r.theirs)) same
    ∙ all_theirs us vs (length us) k (omega arith) ∙ take_all (length us) (reverse vs) (omega (arith, length-reverse vs)) in
    record { mine = mine; theirs = sym (reverse-reverse ys) ∙ ap reverse turned ∙ reverse-reverse vs }

same_length : (t : Tables) (n : Node) → IsCoherent t → IsNode t n → length (parts_of t n.kind n.edge) ≡ length (parts_of t n.other n.back)
unfolding part_count
same_length t n coherent node = same_parts t n.kind n.edge n.other n.back coherent (node_mated t n coherent node)

pub rows-parts : (t : Tables) (m n : Node) → IsCoherent t → IsNode t m → IsNode t n → row_of t m ≡ row_of t n
    → SameParts (parts_of t m.kind m.edge) (parts_of t m.other m.back) (parts_of t n.kind n.edge) (parts_of t n.other n.back)
rows-parts t m n coherent node node' same =
    parts-of_row (parts_of t m.kind m.edge) (parts_of t m.other m.back) (parts_of t n.kind n.edge) (parts_of t n.other n.back)
    (same_length t m coherent node) (same_length t n coherent node') (sym (row_is t m) ∙ same ∙ row_is t n)

pub parts-rows : (t : Tables) (m n : Node) → SameParts (parts_of t m.kind m.edge) (parts_of t m.other m.back)
    (parts_of t n.kind n.edge) (parts_of t n.other n.back) → row_of t m ≡ row_of t n
parts-rows t m n same = row_is t m ∙ (λ i. row_upto (same.mine i) (same.theirs i) (length (same.mine i))) ∙ sym (row_is t n)
