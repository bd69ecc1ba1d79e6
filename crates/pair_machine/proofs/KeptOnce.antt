-- Equal rows kept once, over plain variables.
use Rattle.std.proofs.Common.{◌≡◌, inl, inr, ℕ, zero, suc, ◌*◌, ◌<◌, List, [], ◌∷◌, ◌++◌, length, set, Option, Some, None, refl, sym, ap, ◌∙◌, subst, arith, length-set}
use Rattle.std.proofs.Math.ListN.{replicate}
use Rattle.std.specs.List.{slice_get}
use Rattle.std.proofs.lemmas.Bool.{cases_eq}
use Rattle.std.proofs.lemmas.Option.{slice_get_within}
use Rattle.std.proofs.lemmas.List.{append-nil, length-replicate}
use Rattle.theory_addresses.specs.Search.{IsAmong}
use Rattle.theory_addresses.specs.Tables.{Tables}
use Rattle.theory_addresses.specs.Coherent.{IsCoherent}
use Rattle.theory_addresses.proofs.Ranges.{among-append, place-among, slice_get-append_left, slice_get-append_last, among-place}
use Rattle.transducer_core.specs.Once.{HasNoneTwice}
use Rattle.pair_machine.specs.Nodes.{Node, RowPair, IsNode, row_of}
use Rattle.pair_machine.specs.Alike.{AreFirstAlike, row_key}
use Rattle.pair_machine.specs.Indexed.{IsIndexed}
use Rattle.pair_machine.specs.Numbers.{width_of}
use Rattle.pair_machine.specs.Machine.{IsKeptOnce}
use Rattle.pair_machine.proofs.Places.{slice_get-set_same, slice_get-set_other, none_twice_more}
use Rattle.pair_machine.proofs.KeyRows.{key_within, key-row, row-key}

-- ---- a row that joins
pub keep_new : (rows : List (List RowPair)) (row : List RowPair) (place : ℕ) → HasNoneTwice rows
    → place ≡ length rows → ((k : ℕ) → slice_get rows k ≡ Some row → ⊥)
    → IsKeptOnce rows (rows ++ row ∷ []) row place
keep_new rows row place distinct end fresh = record {
  rest = row ∷ [];
  grown = refl;
  at_most_one = omega arith;
  there = rw end (slice_get-append_last rows row);
  once = none_twice_more rows row distinct (λ i. let p = among-place row rows i in fresh p.0 p.1);
  only = λ r i. elim (among-append r rows (row ∷ []) i) [ inl j ↦ inl j | inr j ↦ elim j [ inl e ↦ inr e | inr k ↦ elim k [ ] ] ];
}

pub keep_old : (rows : List (List RowPair)) (row : List RowPair) (place : ℕ) → HasNoneTwice rows
    → slice_get rows place ≡ Some row → IsKeptOnce rows rows row place
keep_old rows row place distinct is = record {
  rest = [];
  grown = sym (append-nil rows);
  at_most_one = omega arith;
  there = is;
  once = distinct;
  only = λ r i. inl i;
}

-- ---- the index
none_placed : (n key place : ℕ) → slice_get (replicate n None) key ≡ Some (Some place) → ⊥
none_placed zero key place h = cc
none_placed (suc n) zero place h = cc
none_placed (suc n) (suc key) place h = none_placed n key place h

pub indexed_none : (t : Tables) (firsts : List ℕ) (places : List (Option ℕ)) → AreFirstAlike t firsts
    → places ≡ replicate (width_of t * width_of t) None → IsIndexed t firsts places []
indexed_none t firsts places are is = record {
  firsts_are = are;
  size = ap length is ∙ length-replicate (width_of t * width_of t) None;
  once = tt;
  stand = λ key place h. elim (none_placed (width_of t * width_of t) key place (ap (λ (l : List (Option ℕ)). slice_get l key) (sym is) ∙ h)) [ ];
  have_keys = λ row i. elim i [ ];
}

-- a node whose key has a place has its row there
pub place_old : (t : Tables) (firsts : List ℕ) (places : List (Option ℕ)) (rows : List (List RowPair))
    (n : Node) (place : ℕ) → IsCoherent t → IsIndexed t firsts places rows → IsNode t n
    → slice_get places (row_key (width_of t) firsts n) ≡ Some (Some place) → IsKeptOnce rows rows (row_of t n) place
place_old t firsts places rows n place coherent ix node at =
    let s = ix.stand (row_key (width_of t) firsts n) place at in
    let same = key-row t firsts s.node n coherent ix.firsts_are s.is_node node s.key_is in
    keep_old rows (row_of t n) place ix.once (s.there ∙ ap (λ (r : List RowPair). Some r) same)

-- a node whose key has none has a new row
row_new : (t : Tables) (firsts : List ℕ) (places : List (Option ℕ)) (rows : List (List RowPair)) (n : Node)
    → IsCoherent t → IsIndexed t firsts places rows → IsNode t n
    → slice_get places (row_key (width_of t) firsts n) ≡ Some None → IsAmong (row_of t n) rows → ⊥
row_new t firsts places rows n coherent ix node at i =
    let h = ix.have_keys (row_of t n) i in
    let same = row-key t firsts n h.node coherent ix.firsts_are node h.is_node h.row_is in
    let two : Some (Some h.place) ≡ Some None = sym h.placed ∙ ap (slice_get places) (sym same) ∙ at in
    cc

pub place_new : (t : Tables) (firsts : List ℕ) (places : List (Option ℕ)) (rows : List (List RowPair))
    (n : Node) (place : ℕ) → IsCoherent t → IsIndexed t firsts places rows → IsNode t n
    → slice_get places (row_key (width_of t) firsts n) ≡ Some None → place ≡ length rows
    → IsKeptOnce rows (rows ++ row_of t n ∷ []) (row_of t n) place
place_new t firsts places rows n place coherent ix node at end =
    keep_new rows (row_of t n) place ix.once end (λ k is. row_new t firsts places rows n coherent ix node at (place-among (row_of t n) rows k is))

pub indexed_new : (t : Tables) (firsts : List ℕ) (places : List (Option ℕ)) (rows : List (List RowPair))
    (n : Node) (place : ℕ) → IsCoherent t → IsIndexed t firsts places rows → IsNode t n
    → slice_get places (row_key (width_of t) firsts n) ≡ Some None → place ≡ length rows
    → IsIndexed t firsts (set places (row_key (width_of t) firsts n) (Some place))
    (rows ++ row_of t n ∷ [])
indexed_new t firsts places rows n place coherent ix node at end = record {
  firsts_are = ix.firsts_are;
  size = length-set places (row_key (width_of t) firsts n) (Some place) ∙ ix.size;
  once = (place_new t firsts places rows n place coherent ix node at end).once;
  stand = λ key p h. elim (cases_eq key (row_key (width_of t) firsts n)) [
    | inl same ↦
        let two : Some (Some place) ≡ Some (Some p) = sym here
        ∙ ap (slice_get (set places (row_key (width_of t) firsts n) (Some place))) (sym same) ∙ h in
        let one : place ≡ p = cc in
        record {
          node = n;
          is_node = node;
          key_is = sym same;
          there = ap (slice_get (rows ++ row_of t n ∷ [])) (sym one ∙ end)
              ∙ slice_get-append_last rows (row_of t n);
        }
    | inr other ↦
        let s = ix.stand key p (sym (slice_get-set_other places (row_key (width_of t) firsts n) key (Some place) other) ∙ h) in
        record {
          node = s.node;
          is_node = s.is_node;
          key_is = s.key_is;
          there = slice_get-append_left rows (row_of t n ∷ []) p
              (slice_get_within rows p (row_of t s.node) s.there) ∙ s.there;
        }
  ];
  have_keys = λ row i. elim (among-append row rows (row_of t n ∷ []) i) [
    | inl j ↦
        let h = ix.have_keys row j in
        record {
          node = h.node;
          is_node = h.is_node;
          row_is = h.row_is;
          place = h.place;
          placed = slice_get-set_other places (row_key (width_of t) firsts n) (row_key (width_of t) firsts h.node) (Some place)
              (λ same. let two : Some (Some h.place) ≡ Some None = sym h.placed ∙ ap (slice_get places) same ∙ at in cc) ∙ h.placed;
        }
    | inr j ↦ record { node = n; is_node = node; row_is = elim j [ inl e ↦ e | inr k ↦ elim k [ ] ]; place = place; placed = here }
  ];
}
  where
    inside : row_key (width_of t) firsts n < length places
    inside = subst (λ (k : ℕ). row_key (width_of t) firsts n < k) (sym ix.size) (key_within t firsts n coherent ix.firsts_are node)

    here : slice_get (set places (row_key (width_of t) firsts n) (Some place)) (row_key (width_of t) firsts n) ≡ Some (Some place)
    here = slice_get-set_same places (row_key (width_of t) firsts n) (Some place) inside
