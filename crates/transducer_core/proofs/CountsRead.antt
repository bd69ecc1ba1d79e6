-- Into how many parts an edge is cut, as the joined lists say.
use Rattle.std.proofs.Common.{◌≡◌, ℕ, ◌+◌, ◌<◌, ◌≤◌, List, length, map, take, get_or, Option, Some, IsSome, refl, sym, ap, ◌∙◌, arith, length-append}
use Rattle.std.specs.List.{slice_get, concat}
use Rattle.std.proofs.lemmas.List.{length-map}
use Rattle.std.proofs.lemmas.Option.{slice_get_within, slice_get-get_or}
use Rattle.theory_addresses.specs.Coherent.{IsCoherent}
use Rattle.theory_addresses.specs.Tables.{Tables, KindTables, kind_tables, type_of, parts_of, part_count, subs_of, child_type_of}
use Rattle.theory_addresses.proofs.TableBounds.{some_of, type_bounds}
use Rattle.transducer_core.specs.Flat.{lists_of}
use Rattle.transducer_core.specs.Merging.{AreBlocksKept}
use Rattle.transducer_core.proofs.FlatEntries.{stands_entry}
use Rattle.transducer_core.proofs.Keeping.{ends_length}
use Rattle.transducer_core.proofs.Joining.{sides_of, begins, ends_next, lists_there, sub_at, types_at, type_found}

-- ---- into how many parts an edge is cut
pub ends_many : (t : Tables) (items ends : List ℕ) → IsCoherent t → AreBlocksKept (lists_of t) items ends
    → length ends ≡ 1 + (length t.mates + (length t.kinds + length t.kinds))
ends_many t items ends coherent h =
    let types = length-map t.kinds (λ (k : KindTables). k.types) in
    let children = length-map t.kinds (λ (k : KindTables). k.children) in
    let sides = length-append (map (λ (k : KindTables). k.types) t.kinds) (map (λ (k : KindTables). k.children) t.kinds) in
    let both = length-append t.subs (sides_of t) in
    omega (arith, ap (λ (l : List ℕ). length l) h.ends_are, ends_length 0 (lists_of t), types, children, sides, both, coherent.sub_each)

pub first_end : (t : Tables) (items ends : List ℕ) (first : ℕ) → AreBlocksKept (lists_of t) items ends
    → slice_get ends 0 ≡ Some first → first ≡ length t.mates
first_end t items ends first h at = omega (arith, ends_next (lists_of t) items ends 0 first t.mates h at refl)

pub record TypeRead (t : Tables) (items : List ℕ) (k e begin : ℕ) : Type 0 where
  pub ty : ℕ
  pub at : slice_get items (begin + e) ≡ Some ty
  pub inside : ty < length t.mates
  pub count : length (subs_of t ty) ≡ part_count t k e

pub type_read : (t : Tables) (items ends : List ℕ) (k e first begin : ℕ) → IsCoherent t
    → AreBlocksKept (lists_of t) items ends → IsSome (type_of t k e) → first ≡ length t.mates
    → slice_get ends (first + k) ≡ Some begin
    → TypeRead t items k e begin
unfolding part_count
type_read t items ends k e first begin coherent h exists first_is at =
    let b = type_bounds t k e exists in
    let ty = some_of (type_of t k e) exists in
    let number : first + k + 1 ≡ length t.mates + k + 1 = omega (arith, first_is) in
    let place : begin ≡ length (concat (take (length t.mates + k + 1) (lists_of t))) = begins (lists_of t)
    items ends (first + k) begin h at ∙ ap (λ (n : ℕ). length (concat (take n (lists_of t)))) number in
    let there = lists_there (lists_of t) items ends (length t.mates + k + 1) (kind_tables t k).types h (types_at t k coherent b.0) in
    let count : length (parts_of t k e) ≡ length (subs_of t ty.0) = sym
    (length-map (parts_of t k e) (child_type_of t k))
    ∙ ap (λ l. length l) (coherent.part_types k e ty.0 ty.1) ∙ length-map (subs_of t ty.0) Some in
    record {
      ty = ty.0;
      at = ap (λ (n : ℕ). slice_get items (n + e)) place
          ∙ stands_entry items (length (concat (take (length t.mates + k + 1) (lists_of t))))
          (kind_tables t k).types e ty.0 there (type_found t k e ty.0 ty.1);
      inside = coherent.type_exists k e ty.0 ty.1;
      count = sym count;
    }

pub parts_between : (t : Tables) (items ends : List ℕ) (ty low high : ℕ) → IsCoherent t
    → AreBlocksKept (lists_of t) items ends → ty < length t.mates → slice_get ends ty ≡ Some low
    → slice_get ends (ty + 1) ≡ Some high
    → high ≡ low + length (subs_of t ty)
parts_between t items ends ty low high coherent h inside from to =
    let a = begins (lists_of t) items ends ty low h from in
    let b = ends_next (lists_of t) items ends (ty + 1) high (subs_of t ty) h to (sub_at t ty (omega (arith, inside, coherent.sub_each))) in
    omega (arith, a, b)

-- as it is read
pub record CountRead (t : Tables) (items ends : List ℕ) (k e : ℕ) : Type 0 where
  pub number : get_or ends 0 0 + k < length ends
  pub place : get_or ends (get_or ends 0 0 + k) 0 + e < length items
  pub type_in : (ty : ℕ) → slice_get items (get_or ends (get_or ends 0 0 + k) 0 + e) ≡ Some ty → ty + 1 < length ends
  pub count : (ty : ℕ) → slice_get items (get_or ends (get_or ends 0 0 + k) 0 + e) ≡ Some ty
      → get_or ends (ty + 1) 0 ≡ get_or ends ty 0 + part_count t k e
  pub few : part_count t k e ≤ 8

pub count_read : (t : Tables) (items ends : List ℕ) (k e : ℕ) → IsCoherent t → AreBlocksKept (lists_of t) items ends
    → IsSome (type_of t k e) → CountRead t items ends k e
count_read t items ends k e coherent h exists =
    let many = ends_many t items ends coherent h in
    let b = type_bounds t k e exists in
    let first = first_end t items ends (get_or ends 0 0) h (slice_get-get_or ends 0 0 (omega (arith, many))) in
    let number : get_or ends 0 0 + k < length ends = omega (arith, first, many, b.0) in
    let r = type_read t items ends k e (get_or ends 0 0) (get_or ends (get_or ends 0 0 + k) 0) coherent h
    exists first (slice_get-get_or ends (get_or ends 0 0 + k) 0 number) in
    record {
      number = number;
      place = slice_get_within items (get_or ends (get_or ends 0 0 + k) 0 + e) r.ty r.at;
      type_in = λ ty is. omega (arith, same_type r.ty ty r.at is, r.inside, many, b.0);
      count = λ ty is.
          let same = same_type r.ty ty r.at is in
          let next : ty + 1 < length ends = omega (arith, same, r.inside, many, b.0) in
          let inside : ty < length t.mates = omega (arith, same, r.inside) in
          let between = parts_between t items ends ty (get_or ends ty 0) (get_or ends (ty + 1) 0) coherent h
          inside (slice_get-get_or ends ty 0 (omega (arith, next)))
          (slice_get-get_or ends (ty + 1) 0 next) in
          between ∙ ap (λ (n : ℕ). get_or ends ty 0 + length (subs_of t n)) same ∙ ap (λ (n : ℕ). get_or ends ty 0 + n) r.count;
      few = omega (arith, r.count, coherent.at_most_8_parts r.ty);
    }
  where
    same_type : {o : Option ℕ} (a b : ℕ) → o ≡ Some a → o ≡ Some b → b ≡ a
    same_type a b x y = let two : Some b ≡ Some a = sym y ∙ x in cc
