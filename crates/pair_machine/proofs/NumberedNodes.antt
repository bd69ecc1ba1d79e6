-- The loop over the nodes, each with the number of its row.
use Rattle.std.proofs.Common.{◌≡◌, ◌↔◌, inl, inr, ℕ, ◌+◌, ◌*◌, ◌<◌, ◌≤◌, Bool, true, List, [], ◌∷◌, length, take, set, get_or, Some, sym, ap, ◌∙◌, subst, arith, length-append, length-set}
use Rattle.std.specs.List.{slice_get}
use Rattle.std.proofs.lemmas.Bool.{cases_eq}
use Rattle.std.proofs.lemmas.Option.{slice_get_within}
use Rattle.theory_addresses.specs.Search.{IsAmong}
use Rattle.theory_addresses.specs.Tables.{Tables}
use Rattle.theory_addresses.specs.Coherent.{IsCoherent}
use Rattle.theory_addresses.proofs.Ranges.{place-among, slice_get-append_left}
use Rattle.transducer_core.specs.Once.{HasNoneTwice}
use Rattle.pair_machine.specs.Nodes.{Node, RowPair, IsNode, IsRow, row_of}
use Rattle.pair_machine.specs.Itself.{SomeMeetsItself}
use Rattle.pair_machine.specs.Numbers.{width_of, node_number, AreNumbersSmall}
use Rattle.pair_machine.specs.Machine.{IsRowFound, IsMachine, IsKeptOnce}
use Rattle.pair_machine.proofs.Places.{slice_get-set_same, slice_get-set_other, among-take, among-take_more}
use Rattle.pair_machine.proofs.Finding.{node_small}
use Rattle.pair_machine.proofs.Marks.{number_one, number_within}
use Rattle.std.proofs.Math.Seq.{take-length}

-- ---- the loop over the nodes
pub record Numbered (t : Tables) (nodes : List Node) (i : ℕ) (numbers : List ℕ) (rows : List (List RowPair)) : Type 0 where
  pub size : length numbers ≡ width_of t * width_of t
  pub once : HasNoneTwice rows
  pub few : length rows ≤ i
  pub all : (row : List RowPair) → IsAmong row rows → IsRow t row
  pub found : (m : Node) → IsAmong m (take i nodes) → IsRowFound (width_of t) numbers rows m (row_of t m)

pub numbered_none : (t : Tables) (nodes : List Node) (numbers : List ℕ) → length numbers ≡ width_of t * width_of t → Numbered t nodes 0 numbers []
numbered_none t nodes numbers size = record {
  size = size;
  once = tt;
  few = omega arith;
  all = λ row i. elim i [ ];
  found = λ m i. elim (none nodes m i) [ ];
}
  where
    none : (ns : List Node) (m : Node) → IsAmong m (take 0 ns) → ⊥
    none [] m i = i
    none (n ∷ ns) m i = i

found_old : (width : ℕ) (numbers : List ℕ) (rows new : List (List RowPair)) (m n : Node) (place : ℕ)
    (row mine : List RowPair) → (node_number width m ≡ node_number width n → ⊥)
    → IsRowFound width numbers rows m mine → IsKeptOnce rows new row place
    → IsRowFound width (set numbers (node_number width n) place) new m mine
found_old width numbers rows new m n place row mine other h k = record {
  place = h.place;
  numbered = slice_get-set_other numbers (node_number width n) (node_number width m) place other ∙ h.numbered;
  there = ap (λ (l : List (List RowPair)). slice_get l h.place) k.grown
      ∙ slice_get-append_left rows k.rest h.place (slice_get_within rows h.place mine h.there) ∙ h.there;
}

found_new : (width : ℕ) (numbers : List ℕ) (rows new : List (List RowPair)) (n : Node) (place : ℕ)
    (row : List RowPair) → node_number width n < length numbers → IsKeptOnce rows new row place
    → IsRowFound width (set numbers (node_number width n) place) new n row
found_new width numbers rows new n place row inside k = record
    { place = place; numbered = slice_get-set_same numbers (node_number width n) place inside; there = k.there }

pub numbered_more : (t : Tables) (nodes : List Node) (i : ℕ) (numbers : List ℕ)
    (rows new : List (List RowPair)) (n d : Node) (place : ℕ) → IsCoherent t
    → ((m : Node) → IsAmong m nodes → IsNode t m) → i < length nodes → get_or nodes i d ≡ n → IsNode t n
    → Numbered t nodes i numbers rows → IsKeptOnce rows new (row_of t n) place
    → Numbered t nodes (i + 1) (set numbers (node_number (width_of t) n) place) new
numbered_more t nodes i numbers rows new n d place coherent are inside at node h k = record {
  size = length-set numbers (node_number (width_of t) n) place ∙ h.size;
  once = k.once;
  few = omega (arith, ap length k.grown, length-append rows k.rest, k.at_most_one, h.few);
  all = λ row j. elim (k.only row j) [ inl a ↦ h.all row a | inr e ↦ (n, node, e) ];
  found = λ m j. elim (among-take_more nodes i d m inside j) [
    | inl a ↦ elim (cases_eq (node_number (width_of t) m) (node_number (width_of t) n)) [
      | inl same ↦ let one = number_one (width_of t) m n (node_small t m coherent (are m (among-take m nodes i a))) small same in
          subst (λ (x : Node). IsRowFound (width_of t) (set numbers (node_number (width_of t) n) place) new x
          (row_of t x)) (sym one) (found_new (width_of t) numbers rows new n place (row_of t n) within k)
      | inr other ↦ found_old (width_of t) numbers rows new m n place (row_of t n) (row_of t m) other (h.found m a) k
    ]
    | inr e ↦ subst (λ (x : Node). IsRowFound (width_of t) (set numbers (node_number (width_of t) n) place) new x
        (row_of t x)) (sym (e ∙ at)) (found_new (width_of t) numbers rows new n place (row_of t n) within k)
  ];
}
  where
    small : AreNumbersSmall (width_of t) n
    small = node_small t n coherent node

    within : node_number (width_of t) n < length numbers
    within = subst (λ (k : ℕ). node_number (width_of t) n < k) (sym h.size) (number_within (width_of t) n small)

pub machine_of : (t : Tables) (itself : Bool) (nodes : List Node) (i : ℕ) (numbers : List ℕ)
    (rows : List (List RowPair)) → IsCoherent t → ((itself ≡ true) ↔ SomeMeetsItself t) → HasNoneTwice nodes
    → ((n : Node) → IsAmong n nodes ↔ IsNode t n)
    → length nodes ≤ 36864 → i ≡ length nodes → Numbered t nodes i numbers rows → IsMachine t itself nodes numbers rows
machine_of t itself nodes i numbers rows coherent itself_is once all few end h = record {
  coherent = coherent;
  itself_is = itself_is;
  nodes_once = once;
  nodes_all = all;
  nodes_few = few;
  rows_once = h.once;
  rows_all = λ row. (
    h.all row,
    λ is. let f = every is.0 is.1 in let place : slice_get rows f.place ≡ Some row
        = f.there ∙ ap (λ (r : List RowPair). Some r) (sym is.2) in place-among row rows f.place place,
  );
  rows_few = omega (arith, h.few, end);
  found = every;
}
  where
    every : (n : Node) → IsNode t n → IsRowFound (width_of t) numbers rows n (row_of t n)
    every n node = h.found n (subst (IsAmong n) (sym (ap (λ (k : ℕ). take k nodes) end ∙ take-length nodes)) ((all n).1 node))

-- the number of a row fits
pub place_small : (old new : List (List RowPair)) (row : List RowPair) (place i : ℕ)
    → IsKeptOnce old new row place → length old ≤ i → i < 36864 → place < 65536
place_small old new row place i k few lt = omega (
  arith,
  slice_get_within new place row k.there,
  ap length k.grown,
  length-append old k.rest,
  k.at_most_one,
  few,
  lt,
)
